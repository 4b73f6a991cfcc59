use Rattle.std.proofs.Common.{◌≡◌, drop}
use Rattle.lab_step_texts.specs.Answers.{first_impossible}
use Rattle.lab_step_texts.proofs.answers.impossible_among.Given as goal

abbrev pub invariant-loop-one : goal.invariant-loop-one
invariant-loop-one l = first_impossible l.wrong l.callers (drop l.one-index l.all) ≡ first_impossible l.wrong l.callers l.all
