use Rattle.std.proofs.Common.{◌≡◌, drop, map}
use Rattle.std.specs.List.{list_any}
use Rattle.lab_kinds.specs.Orders as orders
use Rattle.lab_kinds.proofs.asks.has_front.Given as goal

abbrev pub invariant-loop-front : goal.invariant-loop-front
invariant-loop-front l = list_any (orders.has_front l.answer) (map (λ front. front.now) (drop l.front-index l.fronts)) ≡ list_any (orders.has_front l.answer) (map (λ front. front.now) l.fronts)
