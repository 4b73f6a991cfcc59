use Rattle.std.proofs.Common.{◌≡◌, ◌≤◌, ◌++◌, length, map, drop}
use Rattle.evl_c.specs.Boards.{kind_of}
use Rattle.evl_c.proofs.boards.read_kinds.Given as goal

abbrev pub invariant-loop-form : goal.invariant-loop-form
invariant-loop-form l =
    (length l.kinds.items ≤ l.form-index)
    × (l.kinds.items ++ map kind_of (drop l.form-index l.forms) ≡ map kind_of l.forms)
