use Rattle.std.proofs.Common.{◌≡◌, ◌∙◌, List, map, take_all, ap, arith}
use Rattle.evl_kernel.specs.state.States.{Handler}
use Rattle.evl_shell.specs.Runs.{trace_of}
use Rattle.evl_shell.specs.Runs.{handlers_of}
use Rattle.evl_plans.specs.Told.{handler_of}
use Rattle.evl_plans.specs.declared.planned.Planned.{Planned}
use Rattle.evl_plans.proofs.TraceLaws.{runs}
use Rattle.evl_plans.proofs.traces.run_text.Goals as goal

pub returns : goal.returns
returns c =
    let same : handlers_of (λ b. b.kinds.0) (λ b. b.plan.value) c.loop-plan.bank.items ≡ map handler_of c.args.plans.now =
    c.loop-plan.invariant ∙ ap (λ (plans : List Planned). map handler_of plans) (take_all _ _ (omega arith)) in
    runs (λ (b : List Handler). trace_of b c.args.limit c.args.text.now) _ _ same _ _ _ c.requires.empty c.run.result c.run.ensures.done c.run.ensures.refused
