use Rattle.std.proofs.Common.{◌≡◌, drop}
use Rattle.lab_faults.specs.Quotes as quotes
use Rattle.lab_faults.proofs.quotes.unquoted_at.Given as goal

abbrev pub invariant-loop-item : goal.invariant-loop-item
invariant-loop-item l = quotes.unquoted_at l.text (drop l.item-index l.items) l.at ≡ quotes.unquoted_at l.text l.items l.at
