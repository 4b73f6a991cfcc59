use Rattle.std.proofs.Common.{◌≡◌, ◌++◌, drop}
use Rattle.std.specs.Prelude.{string_bytes}
use Rattle.lab_step_orders.specs.Reports.{states_text}
use Rattle.lab_step_orders.proofs.states.put_states.Given as goal

abbrev pub invariant-loop-place : goal.invariant-loop-place
invariant-loop-place l =
    string_bytes l.text ++ states_text l.crew l.found.whole l.place (drop l.place l.watches) l.found.firsts.items
    ≡ string_bytes l.initial.text ++ states_text l.crew l.found.whole 0 l.watches l.found.firsts.items
