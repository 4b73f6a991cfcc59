use Rattle.std.proofs.Common.{◌≡◌, drop}
use Rattle.std.specs.List.{list_any}
use Rattle.lab_faults.specs.Boards.{is_threads}
use Rattle.lab_faults.proofs.boards.has_threads.Given as goal

abbrev pub invariant-loop-item : goal.invariant-loop-item
invariant-loop-item l = list_any (is_threads l.text) (drop l.item-index l.items) ≡ list_any (is_threads l.text) l.items
