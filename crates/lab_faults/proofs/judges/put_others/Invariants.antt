use Rattle.std.proofs.Common.{◌≡◌, ◌++◌, drop, flat_map, map}
use Rattle.lab_faults.specs.Steps.{other_line}
use Rattle.lab_faults.proofs.judges.put_others.Given as goal

abbrev pub invariant-loop-other : goal.invariant-loop-other
invariant-loop-other l =
    l.text.items ++ flat_map (other_line l.key) (map (λ other. other.now) (drop l.other-index l.keys))
    ≡ l.initial.text.items ++ flat_map (other_line l.key) (map (λ other. other.now) l.keys)
