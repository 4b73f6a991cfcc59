use Rattle.lab_traces.proofs.EndTexts.{before_end-found, before_end-missing}
use Rattle.lab_traces.proofs.parts.before.Goals as goal

pub returns-in-Some : goal.returns-in-Some
returns-in-Some c = before_end-found c.args.end.now c.args.text.now _ c.in-Some.ensures.cases

pub returns-in-None : goal.returns-in-None
returns-in-None c = before_end-missing c.args.end.now c.args.text.now c.in-None.ensures.cases
