use Rattle.std.proofs.Common.{List, ℕ, inl, map, subst}
use Rattle.lab_faults.specs.Told.{fault_told}
use Rattle.lab_kinds.specs.Asking.{AsksOf}
use Rattle.lab_kinds.proofs.asking.found_unasked.Goals as goal

pub returns-in_ok-found-in-Ok : goal.returns-in_ok-found-in-Ok
returns-in_ok-found-in-Ok c =
    let there : AsksOf c.as_bytes.result.now c.args.callers.now c.in-Ok.ask = record { asked = c.in-Ok.ensures.asks; who = c.in-Ok.ensures.who; watches = c.in-Ok.ensures.watches } in
    let asks = subst (λ (text : List ℕ). AsksOf text c.args.callers.now c.in-Ok.ask) c.as_bytes.ensures.value there in
    inl (c.in-Ok.ask, asks, c.in_ok-found-in-Ok.ensures)
