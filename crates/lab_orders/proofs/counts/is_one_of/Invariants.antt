use Rattle.std.proofs.Common.{◌≡◌, drop, map}
use Rattle.std.specs.List.{list_any}
use Rattle.std.specs.Str.{bytes_eq}
use Rattle.lab_orders.proofs.counts.is_one_of.Given as goal

abbrev pub invariant-loop-other : goal.invariant-loop-other
invariant-loop-other l =
    list_any (λ other. bytes_eq other l.text) (map (λ other. other.now) (drop l.other-index l.all)) ≡ list_any (λ other. bytes_eq other l.text) (map (λ other. other.now) l.all)
