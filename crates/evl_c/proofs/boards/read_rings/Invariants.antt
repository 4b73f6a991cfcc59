use Rattle.std.proofs.Common.{◌≡◌, ◌≤◌, ◌++◌, length, map, drop}
use Rattle.evl_c.specs.Boards.{ring_of}
use Rattle.evl_c.proofs.boards.read_rings.Given as goal

abbrev pub invariant-loop-form : goal.invariant-loop-form
invariant-loop-form l =
    (length l.rings.items ≤ l.form-index)
    × (l.rings.items ++ map ring_of (drop l.form-index l.forms) ≡ map ring_of l.forms)
