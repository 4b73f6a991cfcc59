use Rattle.std.proofs.Common.{◌≡◌, map, take}
use Rattle.evl_shell.specs.Runs.{handlers_of}
use Rattle.evl_plans.specs.Told.{handler_of}
use Rattle.evl_plans.proofs.traces.run_text.Given as goal

abbrev pub invariant-loop-plan : goal.invariant-loop-plan
invariant-loop-plan l = handlers_of (λ c. c.kinds.0) (λ c. c.plan.value) l.bank.items ≡ map handler_of (take l.plan-index l.plans)
