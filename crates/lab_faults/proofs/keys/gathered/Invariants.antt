use Rattle.std.proofs.Common.{◌≡◌, ◌++◌, drop}
use Rattle.lab_faults.specs.Keys.{CountsUpTo, entries, headings_in, keys_in, keys_to_come, opening}
use Rattle.lab_faults.proofs.keys.gathered.Given as goal

abbrev pub invariant-loop-index : goal.invariant-loop-index
invariant-loop-index l = record {
  headings : l.found.headings.items ++ headings_in (entries l.text l.standing (drop l.index l.pieces)) ≡ headings_in (entries l.text opening l.pieces);
  keys : l.found.items.items ++ keys_to_come l.last (entries l.text l.standing (drop l.index l.pieces)) ≡ keys_in (entries l.text opening l.pieces);
  counts : CountsUpTo l.standing l.index;
}
