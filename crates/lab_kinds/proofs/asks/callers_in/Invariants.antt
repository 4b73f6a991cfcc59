use Rattle.std.proofs.Common.{◌≡◌, ◌++◌, drop, flat_map, map}
use Rattle.lab_kinds.specs.Orders.{caller_of}
use Rattle.lab_kinds.proofs.asks.callers_in.Given as goal

abbrev pub invariant-loop-item : goal.invariant-loop-item
invariant-loop-item l = map (λ who. who.now) l.callers.items ++ flat_map (caller_of l.text l.setup) (drop l.item-index l.items) ≡ flat_map (caller_of l.text l.setup) l.items
