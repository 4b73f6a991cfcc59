use Rattle.std.proofs.Common.{◌≡◌, drop, map}
use Rattle.lab_faults.specs.Steps as steps
use Rattle.lab_faults.proofs.steps.is_among.Given as goal

abbrev pub invariant-loop-known : goal.invariant-loop-known
invariant-loop-known l = steps.is_among (map (λ known. known.now) (drop l.known-index l.keys)) l.key ≡ steps.is_among (map (λ known. known.now) l.keys) l.key
