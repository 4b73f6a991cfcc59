use Rattle.std.proofs.Common.{◌≡◌, ◌∷◌, ◌++◌, [], All, length, map}
use denote.Text.{Utf8}
use denote.Shadow.{shadow}
use Rattle.lab_scenario_orders.specs.Claims.{IsSingle, joined}
use Rattle.lab_scenario_orders.proofs.claims.texts_of.Given as goal

abbrev pub invariant-loop-one : goal.invariant-loop-one
invariant-loop-one l = shadow (Utf8 l.rest) × (joined (map (λ one. one.now) l.texts.items ++ l.rest ∷ []) ≡ l.text) × All IsSingle (map (λ one. one.now) l.texts.items)

abbrev pub decreases-loop-one : goal.decreases-loop-one
decreases-loop-one l = length l.rest
