-- The shortest orders stand first.
use Rattle.std.proofs.Common.{◌≡◌, ℕ, suc, List, [], ◌∷◌, ◌++◌, length, map, refl, sym, ◌∙◌, ap, subst, inl, inr, arith}
use Rattle.std.specs.Prelude.{◌≤◌, All, AllPairs}
use Rattle.std.proofs.lemmas.List.Elements.{All-from_get_or, All-get_or, All-head, All-push, All-weaker}
use Rattle.std.proofs.lemmas.List.Quantifiers.{all_pairs_push}
use Rattle.lab_orders.specs.Tallies.{KeepsFirsts, first_of}
use Rattle.lab_orders.specs.declared.nodes.Node.{Node}
use Rattle.lab_orders.specs.declared.tallies.Tally.{Tally}
use Rattle.lab_step_orders.specs.Outcomes.{AreRisen, lengths}

abbrev IsUnder : ℕ → ℕ → Type 0
IsUnder k n = n ≤ k

abbrev Rises : ℕ → ℕ → Type 0
Rises one other = one ≤ other

abbrev steps_of : List ℕ × List ℕ → ℕ
steps_of first = length first.1

firsts_lengths : (outcomes : List Tally) → map steps_of (map first_of outcomes) ≡ lengths outcomes
firsts_lengths [] = refl
firsts_lengths (outcome ∷ outcomes) = ap (λ (ns : List ℕ). length outcome.order.items ∷ ns) (firsts_lengths outcomes)

lengths_push : (firsts : List (List ℕ × List ℕ)) (first : List ℕ × List ℕ) → map steps_of (firsts ++ first ∷ []) ≡ map steps_of firsts ++ steps_of first ∷ []
lengths_push [] first = refl
lengths_push (other ∷ firsts) first = ap (λ (ns : List ℕ). steps_of other ∷ ns) (lengths_push firsts first)

same_lengths : (old new : List Tally) → map first_of new ≡ map first_of old → lengths new ≡ lengths old
same_lengths old new same = sym (firsts_lengths new) ∙ (ap (map steps_of) same ∙ firsts_lengths old)

more_lengths : (old new : List Tally) (tally : Tally) → map first_of new ≡ map first_of old ++ first_of tally ∷ [] → lengths new ≡ lengths old ++ length tally.order.items ∷ []
more_lengths old new tally more =
    sym (firsts_lengths new)
    ∙ (ap (map steps_of) more
    ∙ (lengths_push (map first_of old) (first_of tally)
    ∙ ap (λ (ns : List ℕ). ns ++ length tally.order.items ∷ []) (firsts_lengths old)))

-- an outcome of no fewer steps comes to the others, or is one of them
pub still_risen : (old : List Tally) (tally : Tally) (new : List Tally) (k n : ℕ) → KeepsFirsts old tally new → length tally.order.items ≡ n → k ≤ n → AreRisen k old → AreRisen n new
still_risen old tally new k n (inl same) long le all = record {
  rise = subst (AllPairs Rises) (sym (same_lengths old new same)) all.rise;
  below = subst (All (IsUnder n)) (sym (same_lengths old new same)) (All-weaker (IsUnder k) (IsUnder n) (λ i h. omega (arith, h, le)) (lengths old) all.below);
}
still_risen old tally new k n (inr more) long le all =
    let under = All-weaker (IsUnder k) (IsUnder n) (λ i h. omega (arith, h, le)) (lengths old) all.below in
    let at : IsUnder n (length tally.order.items) = omega (arith, long) in
    record {
      rise = subst (AllPairs Rises) (sym (more_lengths old new tally more))
          (all_pairs_push Rises (lengths old) (length tally.order.items) all.rise (λ i d h. omega (arith, long, All-get_or (IsUnder n) (lengths old) i d h under)));
      below = subst (All (IsUnder n)) (sym (more_lengths old new tally more)) (All-push (IsUnder n) (lengths old) (length tally.order.items) under at);
    }

-- ---- one end after the other

module _ {M : Type 0} where
  abbrev IsLater : Node M → Node M → Type 0
  IsLater one other = length one.order.items ≤ length other.order.items

  -- these ends are no shorter than the outcomes before them, and the shorter ones stand first
  pub record AreBehind (all : List Tally) (rest : List (Node M)) : Type 0 where
    pub most : ℕ
    pub risen : AreRisen most all
    pub later : All (λ node. most ≤ length node.order.items) rest
    pub rise : AllPairs IsLater rest

  module _ (all : List Tally) (rest others : List (Node M)) (end : Node M) (split : rest ≡ end ∷ others) (behind : AreBehind all rest) where
    first_later : behind.most ≤ length end.order.items
    first_later = All-head (λ (node : Node M). behind.most ≤ length node.order.items) end others (subst (All (λ node. behind.most ≤ length node.order.items)) split behind.later)

    rise_on : AllPairs IsLater (end ∷ others)
    rise_on = subst (AllPairs IsLater) split behind.rise

    -- the outcomes with the one of this end
    pub risen_on : (new : List Tally) → ((k : ℕ) → AreRisen k all → k ≤ length end.order.items → AreRisen (length end.order.items) new) → AreBehind new others
    risen_on new more = record {
      most = length end.order.items;
      risen = more behind.most behind.risen first_later;
      later = All-from_get_or (IsLater end) others end (λ i h. rise_on 0 (suc i) end (omega arith) (omega (arith, h)));
      rise = λ i j d less within. rise_on (suc i) (suc j) d (omega (arith, less)) (omega (arith, within));
    }
