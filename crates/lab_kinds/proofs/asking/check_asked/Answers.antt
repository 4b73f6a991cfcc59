use Rattle.std.proofs.Common.{List, ℕ, inl, subst}
use Rattle.lab_kinds.specs.Asking.{AreCallersIn}
use Rattle.lab_kinds.proofs.asking.check_asked.Goals as goal

pub returns-in_ok-found-in-Ok : goal.returns-in_ok-found-in-Ok
returns-in_ok-found-in-Ok c =
    let there : AreCallersIn c.as_bytes.result.now c.in-Ok.callers = record { set_up = c.in-Ok.ensures.scenario; each = c.in-Ok.ensures.callers } in
    inl (c.in-Ok.callers, subst (λ (text : List ℕ). AreCallersIn text c.in-Ok.callers) c.as_bytes.ensures.value there, c.in_ok-found-in-Ok.ensures)
