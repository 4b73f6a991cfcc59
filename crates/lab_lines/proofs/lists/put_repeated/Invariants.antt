use Rattle.std.proofs.Common.{◌≡◌, ◌++◌}
use Rattle.lab_lines.specs.Boards.{repeated}
use Rattle.lab_lines.proofs.lists.put_repeated.Given as goal

abbrev pub invariant-loop-done : goal.invariant-loop-done
invariant-loop-done l = l.text.items ≡ l.initial.text.items ++ repeated l.done l.item
