use Rattle.std.proofs.Common.{[], append-nil, refl, sym}
use Rattle.lab_step_texts.proofs.questions.with_line.Goals as goal

pub returns-in-None-clause-asked : goal.returns-in-None-clause-asked
returns-in-None-clause-asked c = rw c.in-None.is ([], sym (append-nil c.args.all.items), refl, refl)
