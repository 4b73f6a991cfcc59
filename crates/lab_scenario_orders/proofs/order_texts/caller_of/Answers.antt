use Rattle.std.proofs.Common.{◌≡◌, ◌∙◌, add-one, false, subst, sym, take}
use Rattle.lab_scenario_orders.specs.Asks.{is_caller_text}
use Rattle.lab_scenario_orders.proofs.OrderTextLaws.{nobody_more}
use Rattle.lab_scenario_orders.proofs.order_texts.caller_of.Goals as goal

pub loop-number-preserved : goal.loop-number-preserved
loop-number-preserved c =
    let callers = c.args.callers.now.callers.items in
    let n = c.loop-number.number in
    let who = c.args.who.now in
    subst (λ k. is_caller_text (take k callers) who ≡ false) (sym (add-one n)) (nobody_more callers n who (sym c.in_ok-is_caller_at.ensures ∙ c.if-branch.false) c.loop-number.invariant)
