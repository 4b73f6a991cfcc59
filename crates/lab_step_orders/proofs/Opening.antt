-- The words at the beginning, and what all runs keep.
use Rattle.std.proofs.Common.{◌≡◌, ℕ, zero, suc, ◌<◌, ◌≤◌, Bool, true, false, List, [], ◌∷◌, length, map, get_or, refl, sym, ap, ◌∙◌, subst, inl, arith}
use Rattle.std.specs.Prelude.{Some, nat_le, replicate, slice_get, slice_index}
use Rattle.std.specs.List.{list_all}
use Rattle.std.proofs.lemmas.Bool.{and_parts}
use Rattle.std.proofs.lemmas.Bool.Decides.{nat_tests}
use Rattle.std.proofs.lemmas.List.{length-replicate}
use Rattle.std.proofs.lemmas.Option.{same_Some}
use Rattle.evl_base.specs.Limits.{stax_fits, thread_limit}
use Rattle.evl_words.specs.GateWorld.{GateView, GateWorld, newcomer as gate_newcomer, hold}
use Rattle.evl_words.specs.MutexWorld.{MutexView, MutexWorld, newcomer as mutex_newcomer, owns}
use Rattle.evl_words.specs.Dealings.{opened_dealing}
use Rattle.evl_words.proofs.GateEnds.{gate_law}
use Rattle.evl_words.proofs.GateSteps.{holders_agree}
use Rattle.evl_words.proofs.MutexEnds.{mutex_law}
use Rattle.evl_words.proofs.MutexSteps.{one_has_it}
use Rattle.evl_words.proofs.Sequences.{at_replicate}
use Rattle.lab_orders.specs.Machines.{Run, IsRun}
use Rattle.lab_step_orders.specs.Programs.{limit_of, stage_of}
use Rattle.lab_step_orders.specs.Seen.{Seen, first_seen, free_word, machine}
use Rattle.lab_step_orders.specs.StepLaws.{IsCrew, LiesAtGate, LiesAtMutex, held_stage, opened_gate, opened_mutex}
use Rattle.lab_step_orders.specs.Words.{Shared, holds}
use Rattle.lab_step_orders.proofs.Sound.{IsSound, led_sound}
use Rattle.lab_step_orders.proofs.Standing.{there}
use Rattle.lab_step_orders.proofs.Turns.{PlaceMay}
use Rattle.lab_step_orders.specs.declared.crews.Crew.{Crew}
use Rattle.lab_step_orders.specs.declared.crews.CrewCaller.{CrewCaller}
use Rattle.lab_step_orders.specs.declared.steps.Place.{Place}
use Rattle.lab_step_orders.specs.declared.steps.Place.TheVariants.{Begins}

fits_at : (limits : List ℕ) (i : ℕ) → list_all stax_fits limits ≡ true → slice_index limits i ≤ 1000
fits_at [] i e = omega arith
fits_at (n ∷ limits) zero e =
    let fits = (and_parts (stax_fits n) (list_all stax_fits limits) e).0 in
    let below : nat_le n 1000 ≡ true = (and_parts (nat_le 1 n) (nat_le n 1000) fits).1 in
    grind (arith, nat_tests)
fits_at (n ∷ limits) (suc i) e = fits_at limits i (and_parts (stax_fits n) (list_all stax_fits limits) e).1

mapped : {A B : Type 0} (f : A → B) (xs : List A) → length (map f xs) ≡ length xs
mapped f [] = refl
mapped f (x ∷ xs) = ap suc (mapped f xs)

repeated_is : {B : Type 0} (b : B) (n i : ℕ) (y : B) → slice_get (replicate n b) i ≡ Some y → b ≡ y
repeated_is b zero i y e = cc
repeated_is b (suc n) zero y e = same_Some b y e
repeated_is b (suc n) (suc i) y e = repeated_is b n i y e

nobody : (n k : ℕ) → get_or (replicate n false) k false ≡ false
nobody zero k = refl
nobody (suc n) zero = refl
nobody (suc n) (suc k) = nobody n k

all_begin : {A : Type 0} (xs : List A) (k : ℕ) → get_or (map (λ x. Begins) xs) k Begins ≡ Begins
all_begin [] k = refl
all_begin (x ∷ xs) zero = refl
all_begin (x ∷ xs) (suc k) = all_begin xs k

first_gate : (c : Crew) (i : ℕ) → limit_of c i ≤ 1000 → (w : GateWorld) × LiesAtGate c i (free_word (length c.callers.items)) w
first_gate c i small =
    let limit = limit_of c i in
    let n = length c.callers.items in (
      opened_gate limit n,
      record {
        events = [];
        run = refl;
        stands = (gate_law limit n small [] (opened_dealing (replicate n (gate_newcomer limit))) refl).0;
        word = refl;
        long = length-replicate n (gate_newcomer limit);
        wide = length-replicate n false;
        seats = λ k v at.
            ap (λ (z : GateView). z.held) (sym (at_replicate n k (gate_newcomer limit) v at))
            ∙ ap (λ b. hold limit (held_stage (stage_of c k) b)) (sym (nobody n k));
      },
    )

first_mutex : (n : ℕ) → n ≤ thread_limit → (w : MutexWorld) × LiesAtMutex n (free_word n) w
first_mutex n few = (
  opened_mutex n,
  record {
    events = [];
    run = refl;
    stands = (mutex_law n few [] (opened_dealing (replicate n (mutex_newcomer n))) refl).0;
    word = refl;
    long = length-replicate n (mutex_newcomer n);
    wide = length-replicate n false;
    sized = λ k v at. ap (λ (z : MutexView). z.held.seats) (sym (at_replicate n k (mutex_newcomer n) v at));
    seats = λ k v at. ap (λ (z : MutexView). owns z.held.role) (sym (at_replicate n k (mutex_newcomer n) v at)) ∙ sym (nobody n k);
  },
)

first_sound : (c : Crew) → IsCrew c → IsSound c (first_seen c)
first_sound c is =
    let n = length c.callers.items in
    record {
      gates = λ i g e.
          subst (λ (x : Shared). (w : GateWorld) × LiesAtGate c i x w) (repeated_is (free_word n) (length c.board.staxes.items) i g e) (first_gate c i (fits_at c.board.staxes.items i is.fits));
      mutexes = λ i m e.
          subst (λ (x : Shared). (w : MutexWorld) × LiesAtMutex n x w) (repeated_is (free_word n) (length c.board.mutexes.items) i m e) (first_mutex n is.few);
      long = mapped (λ (caller : CrewCaller). Begins) c.callers.items;
      places = λ k. subst (λ (p : Place). PlaceMay c (first_seen c).gates (first_seen c).mutexes k p) (sym (all_begin c.callers.items k)) tt;
    }

pub run_sound : (c : Crew) (r : Run Seen) → IsCrew c → IsRun (machine c) (first_seen c) r → IsSound c r.at
run_sound c r is run = led_sound c r.order (first_seen c) r.at (first_sound c is) run.by_callers run.leads

-- ---- who holds what

held_within : (bs : List Bool) (k : ℕ) → get_or bs k false ≡ true → k < length bs
held_within [] k e = absurd (cc)
held_within (b ∷ bs) zero e = omega arith
held_within (b ∷ bs) (suc k) e = let less = held_within bs k e in omega arith

pub one_stage : (c : Crew) (i : ℕ) (g : Shared) (w : GateWorld) → LiesAtGate c i g w → (j k : ℕ) → holds g j ≡ true → holds g k ≡ true → stage_of c j ≡ stage_of c k
one_stage c i g w lies j k one other =
    let here = there w.views j (omega (arith, held_within g.held j one, lies.long, lies.wide)) in
    let also = there w.views k (omega (arith, held_within g.held k other, lies.long, lies.wide)) in
    let first : here.0.held.stage ≡ Some (stage_of c j) = ap (λ h. h.stage) (lies.seats j here.0 here.1) ∙ ap (λ b. held_stage (stage_of c j) b) one in
    let second : also.0.held.stage ≡ Some (stage_of c k) = ap (λ h. h.stage) (lies.seats k also.0 also.1) ∙ ap (λ b. held_stage (stage_of c k) b) other in
    holders_agree (limit_of c i) w lies.stands j k here.0 also.0 here.1 also.1 (stage_of c j) (stage_of c k) first second

pub one_owner : (n : ℕ) (m : Shared) (w : MutexWorld) → LiesAtMutex n m w → (j k : ℕ) → holds m j ≡ true → holds m k ≡ true → j ≡ k
one_owner n m w lies j k one other =
    let here = there w.views j (omega (arith, held_within m.held j one, lies.long, lies.wide)) in
    let also = there w.views k (omega (arith, held_within m.held k other, lies.long, lies.wide)) in
    let first : owns here.0.held.role ≡ true = lies.seats j here.0 here.1 ∙ one in
    let second : owns also.0.held.role ≡ true = lies.seats k also.0 also.1 ∙ other in
    one_has_it w lies.stands j k here.0 also.0 here.1 also.1 (inl first) (inl second)
