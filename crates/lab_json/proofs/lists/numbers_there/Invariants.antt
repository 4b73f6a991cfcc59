use Rattle.std.proofs.Common.{◌≡◌, filter}
use Rattle.lab_json.specs.Parts.{is_there, numbers_below}
use Rattle.lab_json.proofs.lists.numbers_there.Given as goal

abbrev pub invariant-loop-number : goal.invariant-loop-number
invariant-loop-number g l = l.all.items ≡ filter (is_there l.kernel.history.state l.part) (numbers_below l.number)
