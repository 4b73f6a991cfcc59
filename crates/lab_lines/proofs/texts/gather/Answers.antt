use Rattle.lab_lines.proofs.GatherLaws.{first_refused}
use Rattle.lab_lines.proofs.texts.gather.Goals as goal

pub returns-in-Err-clause-refused : goal.returns-in-Err-clause-refused
returns-in-Err-clause-refused c = first_refused c.args.lines.now c.loop-at.at _ _ c.in-Err.fault c.loop-at-test.true c.loop-at.invariant c.in-Err.ensures.refused
