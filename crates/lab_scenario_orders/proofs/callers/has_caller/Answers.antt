use Rattle.std.proofs.Common.{◌∙◌, ◌==◌, ℕ, sym}
use Rattle.lab_scenario_orders.specs.declared.callers.Caller.{Caller}
use Rattle.lab_scenario_orders.proofs.ShareLaws.{any_mapped}
use Rattle.lab_scenario_orders.proofs.callers.has_caller.Goals as goal

pub returns : goal.returns
returns c = c.is_any.ensures ∙ sym (any_mapped (λ (thread : ℕ). thread == c.args.who.0) (λ (caller : Caller). caller.who.0) c.args.callers.now)
