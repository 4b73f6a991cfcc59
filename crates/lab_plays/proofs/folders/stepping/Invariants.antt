use Rattle.std.proofs.Common.{◌≡◌, ◌++◌, drop, filter, map}
use Rattle.lab_plays.specs.Folders.{is_step}
use Rattle.lab_plays.proofs.folders.stepping.Given as goal

abbrev pub invariant-loop-part : goal.invariant-loop-part
invariant-loop-part l =
    map (λ step. step.now) l.steps.items ++ filter is_step (map (λ part. part.now) (drop l.part-index l.parts)) ≡ filter is_step (map (λ part. part.now) l.parts)
