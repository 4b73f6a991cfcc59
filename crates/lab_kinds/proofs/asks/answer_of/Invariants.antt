use Rattle.std.proofs.Common.{◌≡◌, drop, map}
use Rattle.lab_kinds.specs.Orders as orders
use Rattle.lab_kinds.proofs.asks.answer_of.Given as goal

abbrev pub invariant-loop-who : goal.invariant-loop-who
invariant-loop-who l = orders.answer_of l.name (map (λ who. who.now) (drop l.who-index l.callers)) ≡ orders.answer_of l.name (map (λ who. who.now) l.callers)
