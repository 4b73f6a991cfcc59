use Rattle.std.proofs.Common.{◌≡◌, ◌++◌, drop, filter, map}
use Rattle.lab_plays.specs.Folders.{is_name}
use Rattle.lab_plays.proofs.folders.named.Given as goal

abbrev pub invariant-loop-step : goal.invariant-loop-step
invariant-loop-step l =
    map (λ name. name.now) l.names.items ++ filter is_name (map (λ step. step.now) (drop l.step-index l.steps)) ≡ filter is_name (map (λ step. step.now) l.steps)
