-- The notes of a moment, and texts with `and` between them.
use Rattle.std.proofs.Common.{All, Bor, append_assoc, ◌≡◌, ℕ, zero, suc, Bool, false, List, [], ◌∷◌, ◌++◌, map, refl, sym, ◌∙◌, ap}
use Rattle.std.specs.Prelude.{codes, slice_get, unwrap_or}
use Rattle.std.proofs.lemmas.List.{map-append}
use Rattle.std.proofs.lemmas.List.Elements.{All-push, All-same}
use Rattle.evl_kernel.specs.state.States.{State, Handler}
use Rattle.evl_kernel.specs.histories.Replays.{Outcome}
use Rattle.lab_scenario_orders.specs.Callers.{Seen, after}
use Rattle.lab_scenario_orders.specs.Claims.{IsSingle, joined}
use Rattle.lab_scenario_orders.specs.Moments.{IsMoment, IsNoted, held_in, seen_at}
use Rattle.lab_scenario_orders.specs.Watches.{is_noted, is_noted_at}
use Rattle.lab_scenario_orders.specs.declared.callers.Callers.{Callers}
use Rattle.lab_scenario_orders.specs.declared.moments.Moment.{Moment}
use Rattle.lab_scenario_orders.specs.declared.watches.Watch.{Watch}

-- what is noted of the records after a step is noted of the moment that represents them
pub noted_after : (c : Callers) (bank : List Handler) (watches : List Watch) (seen : Seen) (next : Moment) (n : ℕ) (o : Outcome)
    → seen_at c bank next ≡ after seen n o → IsMoment c next → next.noted.items ≡ map (is_noted o.after) watches → next.held.items ≡ held_in c o.after → IsNoted c bank watches next
noted_after c bank watches seen next n o is places noted held = record {
  places = places;
  noted = noted ∙ ap (λ (t : Seen). map (is_noted t.state) watches) (sym is);
  held = held ∙ ap (λ (t : Seen). held_in c t.state) (sym is);
}

noted_one : (s : State) (watches : List Watch) (n : ℕ) → unwrap_or (slice_get (map (is_noted s) watches) n) false ≡ is_noted_at watches n s
noted_one s [] zero = refl
noted_one s [] (suc n) = refl
noted_one s (watch ∷ watches) zero = refl
noted_one s (watch ∷ watches) (suc n) = noted_one s watches n

-- what is noted of one question
pub noted_is : (s : State) (watches : List Watch) (noted : List Bool) (n : ℕ) → noted ≡ map (is_noted s) watches → unwrap_or (slice_get noted n) false ≡ is_noted_at watches n s
noted_is s watches noted n is = ap (λ (all : List Bool). unwrap_or (slice_get all n) false) is ∙ noted_one s watches n

-- one text more
pub joined_more : (done : List (List ℕ)) (one rest : List ℕ) → joined (done ++ one ∷ (rest ∷ [])) ≡ joined (done ++ (one ++ (codes " and " ++ rest)) ∷ [])
joined_more [] one rest = refl
joined_more (first ∷ []) one rest = refl
joined_more (first ∷ (next ∷ done)) one rest = ap (λ text. first ++ (codes " and " ++ text)) (joined_more (next ∷ done) one rest)

-- the parts that a loop has, and one more
pub parts_more : (done all : List (Bor (List ℕ))) (one : Bor (List ℕ)) (rest behind text : List ℕ) → all ≡ done ++ one ∷ [] → rest ≡ one.now ++ (codes " and " ++ behind)
    → joined (map (λ part. part.now) done ++ rest ∷ []) ≡ text → joined (map (λ part. part.now) all ++ behind ∷ []) ≡ text
parts_more done all one rest behind text more is whole =
    ap (λ (xs : List (Bor (List ℕ))). joined (map (λ part. part.now) xs ++ behind ∷ [])) more
    ∙ (ap (λ (xs : List (List ℕ)). joined (xs ++ behind ∷ [])) (map-append (λ (part : Bor (List ℕ)). part.now) done (one ∷ []))
    ∙ (ap joined (append_assoc (map (λ part. part.now) done) (one.now ∷ []) (behind ∷ []))
    ∙ (joined_more (map (λ part. part.now) done) one.now behind
    ∙ (ap (λ (x : List ℕ). joined (map (λ part. part.now) done ++ x ∷ [])) (sym is) ∙ whole))))

-- each of them is single
pub parted_more : (done all : List (Bor (List ℕ))) (one : Bor (List ℕ)) → all ≡ done ++ one ∷ [] → IsSingle one.now
    → All IsSingle (map (λ part. part.now) done) → All IsSingle (map (λ part. part.now) all)
parted_more done all one more none before =
    All-same IsSingle (map (λ part. part.now) all) (map (λ part. part.now) done ++ one.now ∷ [])
    (ap (λ (xs : List (Bor (List ℕ))). map (λ part. part.now) xs) more ∙ map-append (λ (part : Bor (List ℕ)). part.now) done (one ∷ []))
    (All-push IsSingle (map (λ part. part.now) done) one.now before none)
