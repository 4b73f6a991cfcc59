use Rattle.std.proofs.Common.{◌≡◌, ◌||◌, Bool, ◌∙◌, ap}
use Rattle.lab_step_orders.specs.Facts.{is_one_on}
use Rattle.lab_step_orders.specs.Moments.{shared_of}
use Rattle.lab_step_orders.proofs.FactLaws.{any_more, any_none}
use Rattle.lab_step_orders.proofs.facts.is_on.Goals as goal

pub loop-caller-init : goal.loop-caller-init
loop-caller-init c = any_none (is_one_on c.args.crew.now c.args.stage (shared_of c.args.gate.now))

pub loop-caller-preserved : goal.loop-caller-preserved
loop-caller-preserved c =
    any_more (is_one_on c.args.crew.now c.args.stage (shared_of c.args.gate.now)) c.loop-caller.caller c.loop-caller.is c.either-is.result c.loop-caller.invariant
    (c.either-is.ensures ∙ ap (λ (b : Bool). c.loop-caller.is || b) c.is_one_on.ensures)
