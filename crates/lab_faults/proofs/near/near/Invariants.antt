use Rattle.std.proofs.Common.{◌≡◌, ◌≤◌, drop, map, option_map}
use Rattle.lab_faults.proofs.NearLaws.{fewest_of, found_in, nearer}
use Rattle.lab_faults.proofs.near.near.Given as goal

abbrev pub invariant-loop-word : goal.invariant-loop-word
invariant-loop-word l = record {
  found : nearer l.text (option_map (λ word. word.now) l.best) (found_in l.text (map (λ word. word.now) (drop l.word-index l.words))) ≡ found_in l.text (map (λ word. word.now) l.words);
  fewest : l.fewest ≡ fewest_of l.text (option_map (λ word. word.now) l.best);
  few : l.fewest ≤ 3;
}
