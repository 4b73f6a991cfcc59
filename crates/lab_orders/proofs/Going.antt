-- How far it was gone, step by step.
use Rattle.std.proofs.Common.{◌≡◌, ℕ, ◌+◌, inl, inr, List, [], ◌∷◌, ◌++◌, get_or, length, sym, ◌∙◌, ap, subst, arith, length-append}
use Rattle.std.specs.Prelude.{◌<◌, ◌≤◌, min}
use Rattle.std.proofs.Math.Seq.{get_or-append_seam}
use Rattle.std.proofs.lemmas.List.{get_or_append_left}
use Rattle.std.proofs.lemmas.List.Elements.{All-nil, All-push}
use Rattle.std.proofs.lemmas.List.Sums.{sum_by_push}
use Rattle.lab_orders.specs.Machines.{Machine}
use Rattle.lab_orders.specs.Fronts.{AreApart, GoesApart, IsGone, StandFor}
use Rattle.lab_orders.specs.declared.nodes.Node.{Node}
use Rattle.lab_orders.proofs.EveryRun.{below_or_at}

module _ {M S : Type 0} (m : Machine S) (state : M → S) (s : S) (most : ℕ) where
  -- no step yet
  pub gone_none : (steps moments : ℕ) → steps ≡ 0 → moments ≡ 0 → IsGone m state s most steps moments
  gone_none steps moments none zeroed = record {
    levels = [];
    each = sym none;
    some = All-nil (λ (nodes : List (Node M)). 0 < length nodes);
    few = All-nil (λ (nodes : List (Node M)). length nodes ≤ most);
    stand = λ k h. absurd (omega (arith, h, none));
    counted = zeroed;
  }

  -- one step more, from these nodes
  pub gone_more : (steps moments next_steps next_moments : ℕ) (nodes : List (Node M)) → IsGone m state s most steps moments → StandFor m state s steps nodes
      → 0 < length nodes → length nodes ≤ most → next_steps ≡ steps + 1 → next_moments ≡ min (moments + length nodes) 18446744073709551615
      → IsGone m state s most next_steps next_moments
  gone_more steps moments next_steps next_moments nodes gone stand some few next sum = record {
    levels = gone.levels ++ nodes ∷ [];
    each = omega (arith, length-append gone.levels (nodes ∷ []), gone.each, next);
    some = All-push (λ (ns : List (Node M)). 0 < length ns) gone.levels nodes gone.some some;
    few = All-push (λ (ns : List (Node M)). length ns ≤ most) gone.levels nodes gone.few few;
    stand = λ k h.
        elim (below_or_at steps k (omega (arith, h, next))) as (λ v. StandFor m state s k (get_or (gone.levels ++ nodes ∷ []) k [])) [
          | inl lt ↦ subst (StandFor m state s k) (sym (get_or_append_left gone.levels (nodes ∷ []) [] k (omega (arith, lt, gone.each)))) (gone.stand k lt)
          | inr e ↦
              let at : k ≡ length gone.levels = omega (arith, e, gone.each) in
              let there : get_or (gone.levels ++ nodes ∷ []) k [] ≡ nodes =
              ap (λ i. get_or (gone.levels ++ nodes ∷ []) i []) at ∙ get_or-append_seam gone.levels nodes [] [] in
              subst (StandFor m state s k) (sym there) (subst (λ i. StandFor m state s i nodes) (sym e) stand)
        ];
    counted = omega (arith, sum, gone.counted, sum_by_push (λ (ns : List (Node M)). length ns) gone.levels nodes);
  }

  -- the same, and no two nodes of one number of steps are at one state
  pub apart_none : (steps moments : ℕ) → steps ≡ 0 → moments ≡ 0 → GoesApart m state s most steps moments
  unfolding gone_none
  apart_none steps moments none zeroed = record { gone = gone_none steps moments none zeroed; apart = All-nil (λ (ns : List (Node M)). AreApart state ns) }

  pub apart_more : (steps moments next_steps next_moments : ℕ) (nodes : List (Node M)) → GoesApart m state s most steps moments → StandFor m state s steps nodes
      → 0 < length nodes → length nodes ≤ most → next_steps ≡ steps + 1 → next_moments ≡ min (moments + length nodes) 18446744073709551615
      → AreApart state nodes → GoesApart m state s most next_steps next_moments
  unfolding gone_more
  apart_more steps moments next_steps next_moments nodes one stand some few next sum apart = record {
    gone = gone_more steps moments next_steps next_moments nodes one.gone stand some few next sum;
    apart = All-push (λ (ns : List (Node M)). AreApart state ns) one.gone.levels nodes one.apart apart;
  }

  pub apart_at : (steps moments told_steps told_moments : ℕ) → told_steps ≡ steps → told_moments ≡ moments → GoesApart m state s most steps moments
      → GoesApart m state s most told_steps told_moments
  apart_at steps moments told_steps told_moments step count one =
      subst (λ k. GoesApart m state s most k told_moments) (sym step) (subst (λ n. GoesApart m state s most steps n) (sym count) one)
