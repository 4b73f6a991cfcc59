use Rattle.std.proofs.Common.{◌∙◌, sym}
use Rattle.lab_step_orders.proofs.TextLaws.{same_texts}
use Rattle.lab_step_orders.proofs.moments.are_same_texts.Goals as goal

pub returns : goal.returns
returns c = λ e. same_texts c.args.one.now c.args.other.now (sym c.eq.ensures ∙ e)
