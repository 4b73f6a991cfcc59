-- The last of a list.
use Rattle.std.proofs.Common.{◌≡◌, ◌↔◌, ◌<◌, ◌∙◌, ◌-◌, ◌++◌, ◌∷◌, ℕ, List, [], IsSome, length, slice_get, Option, Some, None, option_to_list, refl, sym, ap, arith}
use Rattle.std.proofs.Math.Seq.{get_or-append_seam}
use Rattle.std.proofs.lemmas.List.{length-append}
use Rattle.std.proofs.lemmas.Option.{slice_get-get_or}
use Rattle.evl_scenario.specs.declared.steps.Step.{Step}

-- the last of steps that end so
last_is : (front : List Step) (last : Step) → slice_get (front ++ last ∷ []) (length (front ++ last ∷ []) - 1) ≡ Some last
last_is front last =
    let count = length-append front (last ∷ []) in
    let at : length (front ++ last ∷ []) - 1 ≡ length front = omega (arith, count) in
    ap (λ k. slice_get (front ++ last ∷ []) k) at
    ∙ slice_get-get_or (front ++ last ∷ []) (length front) last (omega (arith, count))
    ∙ ap (λ (step : Step). Some step) (get_or-append_seam front last [] last)

-- what is taken off the end of steps is the last of them
pub last_popped : (steps all left : List Step) (size : ℕ) (out : Option Step) → all ≡ steps → all ≡ left ++ option_to_list out → length all ≡ size
    → (IsSome out ↔ (0 < size)) → out ≡ slice_get steps (length steps - 1)
last_popped [] all left size None same split count there = refl
last_popped (step ∷ steps) all left size None same split count there =
    let long = ap (λ (ss : List Step). length ss) same in
    let no = there.1 (omega (arith, long, count)) in cc
last_popped steps all left size (Some out) same split count there =
    sym (ap (λ (ss : List Step). slice_get ss (length ss - 1)) (sym same ∙ split) ∙ last_is left out)
