use Rattle.std.proofs.Common.{◌≡◌, ◌++◌, drop, flat_map, map}
use Rattle.lab_faults.specs.Told.{fault_told}
use Rattle.lab_kinds.specs.Orders.{listed_faults}
use Rattle.lab_kinds.proofs.asks.check_pieces.Given as goal

abbrev pub invariant-loop-piece : goal.invariant-loop-piece
invariant-loop-piece l = record {
  text : l.finding.text ≡ l.initial.finding.text;
  told : map fault_told l.finding.found.items ++ flat_map (listed_faults l.initial.finding.text.now (map (λ who. who.now) l.callers) l.is_of_steps l.value) (drop l.piece-index l.pieces) ≡ map fault_told l.initial.finding.found.items ++ flat_map (listed_faults l.initial.finding.text.now (map (λ who. who.now) l.callers) l.is_of_steps l.value) l.pieces;
}
