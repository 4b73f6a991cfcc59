use Rattle.std.proofs.Common.{◌≡◌, ◌++◌, drop, flat_map, map}
use Rattle.lab_faults.specs.Told.{fault_told}
use Rattle.lab_kinds.specs.Orders.{ask_item_faults}
use Rattle.lab_kinds.proofs.asks.check_ask_items.Given as goal

abbrev pub invariant-loop-item : goal.invariant-loop-item
invariant-loop-item l = record {
  text : l.finding.text ≡ l.initial.finding.text;
  told : map fault_told l.finding.found.items ++ flat_map (ask_item_faults l.initial.finding.text.now (map (λ who. who.now) l.callers) l.is_of_steps l.pieces) (drop l.item-index l.items) ≡ map fault_told l.initial.finding.found.items ++ flat_map (ask_item_faults l.initial.finding.text.now (map (λ who. who.now) l.callers) l.is_of_steps l.pieces) l.items;
}
