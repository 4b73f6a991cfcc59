use Rattle.std.proofs.Common.{◌≡◌, [], ◌++◌, drop, map}
use Rattle.std.specs.Prelude.{string_bytes}
use Rattle.lab_step_orders.proofs.moments.no_answers.Given as goal

abbrev pub invariant-loop-caller : goal.invariant-loop-caller
invariant-loop-caller l = map string_bytes l.answers.items ++ map (λ caller. []) (drop l._caller-index l.callers) ≡ map (λ caller. []) l.callers
