use Rattle.std.proofs.Common.{sym, subst}
use Rattle.evl_kernel.specs.state.Callbacks.{AnswersByPlan}
use Rattle.evl_kernel.specs.state.KernelViews.{KernelView}
use Rattle.evl_core.specs.words.Homes.{AreHomes}
use Rattle.evl_machine.proofs.callers.Newcomers.{gate_homes, made_bounds}
use Rattle.evl_machine.proofs.machine.MachineOf.over.Goals as goal

pub returns-in_ok-made-in-Ok-parts-clause-by_plan : goal.returns-in_ok-made-in-Ok-parts-clause-by_plan
returns-in_ok-made-in-Ok-parts-clause-by_plan g c = subst (λ (k : KernelView _). AnswersByPlan g.C.Handler.declared g.C.Handler.plan k.callbacks) (sym c.in_ok-made-in-Ok-parts.ensures.first) c.in-Ok.ensures.by_plan

pub returns-in_ok-made-in-Ok-parts-clause-homes : goal.returns-in_ok-made-in-Ok-parts-clause-homes
returns-in_ok-made-in-Ok-parts-clause-homes g c =
    let made = c.in-Ok-parts.ensures.made in
    let homes = c.in_ok-made-in-Ok-parts.ensures.homes in
    (subst (AreHomes _) (sym homes.0) (gate_homes _ _ _ made.gates), made_bounds _ _ _ _ _ homes.1 made.kinds)
