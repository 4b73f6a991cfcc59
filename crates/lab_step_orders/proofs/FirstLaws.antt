-- The orders of outcomes, where one of them gets more orders, or a new one comes.
use Rattle.std.proofs.Common.{◌≡◌, ℕ, ◌+◌, ◌*◌, ◌≤◌, true, List, [], ◌∷◌, map, refl, sym, ap, subst, inl, inr, arith}
use Rattle.std.specs.Prelude.{All, string_bytes}
use Rattle.std.proofs.lemmas.List.Elements.{All-cons, All-head, All-map, All-nil, All-push, All-tail}
use Rattle.std.proofs.lemmas.List.Sums.{sum_by-cons}
use Rattle.lab_orders.specs.Fronts.{AreLed, AreOver, IsLed}
use Rattle.lab_orders.specs.Machines.{is_over}
use Rattle.lab_orders.specs.Tallies.{KeepsFirsts, first_of}
use Rattle.lab_orders.specs.Weights.{weight}
use Rattle.lab_orders.specs.declared.nodes.Node.{Node}
use Rattle.lab_orders.specs.declared.tallies.Tally.{Tally}
use Rattle.lab_step_orders.specs.Outcomes.{LeadsTo, LeadThere, told_text}
use Rattle.lab_step_orders.specs.Seen.{Seen, machine}
use Rattle.lab_step_orders.specs.declared.crews.Crew.{Crew}

-- what holds of text and order
abbrev Leads : Crew → Seen → List ℕ × List ℕ → Type 0
Leads c s first = LeadsTo c s first.0 first.1

unmapped : {X Y : Type 0} (P : Y → Type 0) (f : X → Y) (xs : List X) → All P (map f xs) → All (λ x. P (f x)) xs
unmapped P f [] all = All-nil _
unmapped P f (x ∷ xs) all = All-cons (λ y. P (f y)) x xs (All-head P (f x) (map f xs) all) (unmapped P f xs (All-tail P (f x) (map f xs) all))

pub still_lead : (c : Crew) (s : Seen) (old : List Tally) (tally : Tally) (new : List Tally) → KeepsFirsts old tally new → LeadThere c s old → LeadsTo c s (string_bytes tally.told) tally.order.items → LeadThere c s new
still_lead c s old tally new (inl same) all one = unmapped (Leads c s) first_of new (subst (All (Leads c s)) (sym same) (All-map (Leads c s) first_of old all))
still_lead c s old tally new (inr more) all one = unmapped (Leads c s) first_of new (subst (All (Leads c s)) (sym more) (All-push (Leads c s) (map first_of old) (first_of tally) (All-map (Leads c s) first_of old all) one))

-- ---- one end after the other

module _ {M : Type 0} (c : Crew) (s : Seen) (state : M → Seen) (rest others : List (Node M)) (end : Node M) (split : rest ≡ end ∷ others) where
  pub weight_on : (f : Seen → ℕ) (old new whole : ℕ) → new ≡ old + end.count * f (state end.at) → old + weight state f rest ≡ whole → new + weight state f others ≡ whole
  weight_on f old new whole more all =
      let here : weight state f (end ∷ others) ≡ end.count * f (state end.at) + weight state f others = sum_by-cons (λ (n : Node M). n.count * f (state n.at)) end others in
      omega (arith, here, ap (weight state f) split, more, all)

  -- more orders than a limit before this end and at it are among all
  pub limit_on : (old whole limit : ℕ) → old + weight state (λ t. 1) rest ≡ whole → limit ≤ old + end.count → limit ≤ whole
  limit_on old whole limit all more =
      let here : weight state (λ t. 1) (end ∷ others) ≡ end.count * 1 + weight state (λ t. 1) others = sum_by-cons (λ (n : Node M). n.count * 1) end others in
      omega (arith, here, ap (weight state (λ t. 1)) split, more, all)

  pub end_leads : AreLed (machine c) state s rest → AreOver (machine c) state rest → LeadsTo c s (told_text c (state end.at)) end.order.items
  end_leads led over = record {
    end = state end.at;
    leads = All-head (λ node. IsLed (machine c) state s node) end others (subst (AreLed (machine c) state s) split led);
    over = All-head (λ node. is_over (machine c) (state node.at) ≡ true) end others (subst (AreOver (machine c) state) split over);
    tells = refl;
  }

  pub led_on : AreLed (machine c) state s rest → AreLed (machine c) state s others
  led_on led = All-tail (λ node. IsLed (machine c) state s node) end others (subst (AreLed (machine c) state s) split led)

  pub over_on : AreOver (machine c) state rest → AreOver (machine c) state others
  over_on over = All-tail (λ node. is_over (machine c) (state node.at) ≡ true) end others (subst (AreOver (machine c) state) split over)
