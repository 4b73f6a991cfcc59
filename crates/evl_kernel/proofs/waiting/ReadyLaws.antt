-- The threads that are ready after each change of the scheduler's record.
use Rattle.std.proofs.Common.{◌≡◌, ℕ, zero, suc, ◌==◌, ◌-◌, nat_le, Bool, true, false, not, ◌||◌, List, [], ◌∷◌, ◌++◌, Option, Some, None, slice_index_or, slice_set, if◌then◌else◌, refl, sym, ap, ◌∙◌, subst, arith}
use Rattle.std.specs.Prelude.{filter}
use Rattle.std.specs.List.{find, list_all, list_any}
use Rattle.std.specs.Option.{option_map, option_map_or}
use Rattle.std.proofs.lemmas.Bool.Decides.{nat_tests}
use Rattle.std.proofs.lemmas.Bool.{eqb-true}
use Rattle.evl_base.proofs.Plain.{eqb-same as itself}
use Rattle.evl_base.specs.declared.policy.Policy.{Policy}
use Rattle.evl_base.specs.declared.policy.Policy.TheVariants.{Fifo, Rr, Quota, Weak}
use Rattle.evl_base.specs.declared.stage.Stage.{Stage}
use Rattle.evl_base.specs.declared.stage.Stage.TheVariants.{Inband}
use Rattle.evl_sched.specs.declared.seat.Seat.{Seat}
use Rattle.evl_sched.specs.Charges.{charged, policy_charged, refilled_groups, refilled_at, slice_charged, thread_charged}
use Rattle.evl_sched.specs.Groups.{is_new_second}
use Rattle.evl_sched.specs.Picks.{eligible, may_run, picked}
use Rattle.evl_sched.specs.Threads.{Sched, attached, detached, is_on, is_oob, is_ready, new_policy, new_seat, policy_set, readied, seat_at, stage_of, stage_set, switched, unready, with_seat, without}
use Rattle.evl_sched.proofs.ReadyLaws.{ready-itself, ready-other}
use Rattle.evl_sched.proofs.StageLaws.{stage-charged, stage-policy_set, stage-stage_set, stage-attached, stage-detached, with-rest}

abbrev is_in : List ℕ → ℕ → Bool
is_in ts t = list_any (λ u. u == t) ts

differs : (u n t : ℕ) → (u == n) ≡ true → (t == n) ≡ false → (u == t) ≡ false
differs u n t e ne = grind (arith, nat_tests)

in-without : (ts : List ℕ) (n t : ℕ) → (t == n) ≡ false → is_in (without ts n) t ≡ is_in ts t
in-without [] n t ne = refl
in-without (u ∷ us) n t ne = by (in-without us n t ne) (u == n) refl
  where
    by : is_in (without us n) t ≡ is_in us t → (b : Bool) → (u == n) ≡ b → is_in (if not b then u ∷ without us n else without us n) t ≡ ((u == t) || is_in us t)
    by more true e = more ∙ sym (ap (λ c. c || is_in us t) (differs u n t e ne))
    by more false e = ap (λ c. (u == t) || c) more

out-itself : (ts : List ℕ) (n : ℕ) → is_in (without ts n) n ≡ false
out-itself [] n = refl
out-itself (u ∷ us) n = by (out-itself us n) (u == n) refl
  where
    by : is_in (without us n) n ≡ false → (b : Bool) → (u == n) ≡ b → is_in (if not b then u ∷ without us n else without us n) n ≡ false
    by rest true e = rest
    by rest false e = ap (λ c. c || is_in (without us n) n) e ∙ rest

-- who became ready is, exactly where it is out-of-band
pub ready-as : (q : Sched) (n : ℕ) → is_ready (readied q n) n ≡ is_oob (stage_of q n)
ready-as q n = by (is_oob (stage_of q n)) refl
  where
    by : (b : Bool) → is_oob (stage_of q n) ≡ b → is_ready (readied q n) n ≡ b
    by true e = ready-itself q n e
    by false e = ap (λ (c : Bool). is_in (if c then without q.ready n ++ n ∷ [] else without q.ready n) n) e ∙ out-itself q.ready n

pub unready-itself : (q : Sched) (n : ℕ) → is_ready (unready q n) n ≡ false
unready-itself q n = out-itself q.ready n

pub unready-other : (q : Sched) (n t : ℕ) → (t == n) ≡ false → is_ready (unready q n) t ≡ is_ready q t
unready-other q n t ne = in-without q.ready n t ne

-- The ready threads after a change of one thread's seat: it is ready as its stage says, and all others as they were.
pub record ReadyAnew (old new : Sched) (n : ℕ) : Type 0 where
  pub itself : is_ready new n ≡ is_oob (stage_of new n)
  pub others : (t : ℕ) → (t == n) ≡ false → is_ready new t ≡ is_ready old t
  pub stages : (t : ℕ) → (t == n) ≡ false → stage_of new t ≡ stage_of old t

pub anew-attached : (q : Sched) (n : ℕ) (policy : Policy) (stage : Stage) → ReadyAnew q (attached q n policy stage) n
anew-attached q n policy stage = record {
  itself = ready-as (with_seat q n (Some (new_seat policy stage))) n;
  others = λ t ne. ready-other (with_seat q n (Some (new_seat policy stage))) n t ne;
  stages = λ t ne. stage-attached q n policy stage t ne;
}

nobody_sits : (seats : List (Option Seat)) (n : ℕ) → is_oob (option_map_or (λ seat. seat.stage) (slice_index_or (slice_set seats n None) n None) Inband) ≡ false
nobody_sits [] n = refl
nobody_sits (x ∷ xs) zero = refl
nobody_sits (x ∷ xs) (suc n) = nobody_sits xs n

pub anew-detached : (q : Sched) (n : ℕ) → ReadyAnew q (detached q n) n
anew-detached q n = record {
  itself = out-itself q.ready n ∙ sym (nobody_sits q.seats n);
  others = λ t ne. in-without q.ready n t ne;
  stages = λ t ne. stage-detached q n t ne;
}

-- where it was ready as its stage says already
pub anew-policy_set : (q : Sched) (n : ℕ) (policy : Policy) → is_ready q n ≡ is_oob (stage_of q n) → ReadyAnew q (policy_set q n policy) n
anew-policy_set q n policy was = record {
  itself = here (is_ready q n) refl;
  others = λ t ne. there t ne (is_ready q n);
  stages = λ t ne. stage-policy_set q n policy t;
}
  where
    mid : Sched
    mid = with_seat q n (option_map (new_policy policy) (seat_at q n))

    here : (b : Bool) → is_ready q n ≡ b → is_in (if b then (readied mid n).ready else q.ready) n ≡ is_oob (stage_of mid n)
    here true e = ready-as mid n
    here false e = was ∙ ap is_oob (sym (stage-policy_set q n policy n))

    there : (t : ℕ) → (t == n) ≡ false → (b : Bool) → is_in (if b then (readied mid n).ready else q.ready) t ≡ is_in q.ready t
    there t ne true = ready-other mid n t ne
    there t ne false = refl

pub anew-stage_set : (q : Sched) (n : ℕ) (stage : Stage) → is_ready q n ≡ is_oob (stage_of q n) → ReadyAnew q (stage_set q n stage) n
anew-stage_set q n stage was = record {
  itself = here (seat_at q n);
  others = λ t ne. there t ne (seat_at q n);
  stages = λ t ne. stage-stage_set q n stage t ne;
}
  where
    anew : Seat → Sched
    anew seat = with_seat q n (Some (record seat { stage = stage }))

    at_seat : (seat : Seat) (b : Bool) → is_ready (if b then q else readied (anew seat) n) n ≡ is_oob (stage_of (if b then q else readied (anew seat) n) n)
    at_seat seat true = was
    at_seat seat false = ready-as (anew seat) n

    here : (o : Option Seat) → is_ready (option_map_or (switched q n stage) o q) n ≡ is_oob (stage_of (option_map_or (switched q n stage) o q) n)
    here None = was
    here (Some seat) = at_seat seat (is_on stage seat)

    beside_seat : (t : ℕ) → (t == n) ≡ false → (seat : Seat) (b : Bool) → is_ready (if b then q else readied (anew seat) n) t ≡ is_ready q t
    beside_seat t ne seat true = refl
    beside_seat t ne seat false = ready-other (anew seat) n t ne

    there : (t : ℕ) → (t == n) ≡ false → (o : Option Seat) → is_ready (option_map_or (switched q n stage) o q) t ≡ is_ready q t
    there t ne None = refl
    there t ne (Some seat) = beside_seat t ne seat (is_on stage seat)

-- who is picked is ready
in-filter : (may : ℕ → Bool) (ts : List ℕ) (n : ℕ) → is_in (filter may ts) n ≡ true → is_in ts n ≡ true
in-filter may [] n e = e
in-filter may (u ∷ us) n e = by (in-filter may us n) (may u) e
  where
    or_true : (a b : Bool) → b ≡ true → (a || b) ≡ true
    or_true true b h = refl
    or_true false b h = h

    either : (is_in (filter may us) n ≡ true → is_in us n ≡ true) → (a : Bool) → (a || is_in (filter may us) n) ≡ true → (a || is_in us n) ≡ true
    either more true h = refl
    either more false h = more h

    by : (is_in (filter may us) n ≡ true → is_in us n ≡ true) → (b : Bool) → is_in (if b then u ∷ filter may us else filter may us) n ≡ true → ((u == n) || is_in us n) ≡ true
    by more true h = either more (u == n) h
    by more false h = or_true (u == n) (is_in us n) (more h)

in-find : (p : ℕ → Bool) (ts : List ℕ) (n : ℕ) → find p ts ≡ Some n → is_in ts n ≡ true
in-find p [] n e = absurd (none_some e)
  where
    none_some : None ≡ Some n → ⊥
    none_some h = cc
in-find p (u ∷ us) n e = by (in-find p us n) (p u) e
  where
    some_is : Some u ≡ Some n → u ≡ n
    some_is h = cc

    or_true : (a b : Bool) → b ≡ true → (a || b) ≡ true
    or_true true b h = refl
    or_true false b h = h

    by : (find p us ≡ Some n → is_in us n ≡ true) → (b : Bool) → (if b then Some u else find p us) ≡ Some n → ((u == n) || is_in us n) ≡ true
    by more true h = ap (λ (m : ℕ). (m == n) || is_in us n) (some_is h) ∙ ap (λ (c : Bool). c || is_in us n) (itself n)
    by more false h = or_true (u == n) (is_in us n) (more h)

picked_ready : (rank : ℕ → ℕ) (q : Sched) (n : ℕ) → picked rank q ≡ Some n → is_ready q n ≡ true
picked_ready rank q n e = in-filter (may_run q) q.ready n (in-find (λ t. list_all (λ u. nat_le (rank u) (rank t)) (eligible q)) (eligible q) n e)

-- what running costs leaves everybody as ready as before
pub ready-charged : (rank : ℕ → ℕ) (q : Sched) (delta t : ℕ) → ((n : ℕ) → is_ready q n ≡ true → is_oob (stage_of q n) ≡ true) → is_ready (charged rank q delta) t ≡ is_ready q t
ready-charged rank q delta t oob = by (picked rank q) refl
  where
    sliced : (n : ℕ) (seat : Seat) (slice : ℕ) → is_ready q n ≡ true → seat_at q n ≡ Some seat → is_ready (slice_charged q n seat slice delta) t ≡ is_ready q t
    sliced n seat slice ready there = over (nat_le seat.rest delta)
      where
        mid : Sched
        mid = with_seat q n (Some (record seat { rest = slice }))

        moved : (b : Bool) → (t == n) ≡ b → is_ready (readied mid n) t ≡ is_ready q t
        moved false ne = ready-other mid n t ne
        moved true is =
            let here : t ≡ n = eqb-true t n is in
            subst (λ (m : ℕ). is_ready (readied mid n) m ≡ is_ready q m) (sym here)
            (ready-as mid n ∙ (ap is_oob (with-rest q n seat slice n there) ∙ (oob n ready ∙ sym ready)))

        over : (b : Bool) → is_ready (if b then readied mid n else with_seat q n (Some (record seat { rest = seat.rest - delta }))) t ≡ is_ready q t
        over true = moved (t == n) refl
        over false = refl

    policied : (n : ℕ) (seat : Seat) (policy : Policy) → is_ready q n ≡ true → seat_at q n ≡ Some seat → is_ready (policy_charged q n seat policy delta) t ≡ is_ready q t
    policied n seat (Fifo prio) ready there = refl
    policied n seat (Rr prio slice) ready there = sliced n seat slice ready there
    policied n seat (Quota group prio) ready there = refl
    policied n seat (Weak prio) ready there = refl

    seated : (n : ℕ) (o : Option Seat) → is_ready q n ≡ true → seat_at q n ≡ o → is_ready (option_map_or (λ (seat : Seat). policy_charged q n seat seat.policy delta) o q) t ≡ is_ready q t
    seated n None ready there = refl
    seated n (Some seat) ready there = policied n seat seat.policy ready there

    by : (o : Option ℕ) → picked rank q ≡ o → is_ready (option_map_or (λ (n : ℕ). thread_charged q n delta) o q) t ≡ is_ready q t
    by None is = refl
    by (Some n) is = seated n (seat_at q n) (picked_ready rank q n is) refl

pub ready-paid : (rank : ℕ → ℕ) (q : Sched) (before delta now t : ℕ) → ((n : ℕ) → is_ready q n ≡ true → is_oob (stage_of q n) ≡ true) → is_ready (refilled_at before now (charged rank q delta)) t ≡ is_ready q t
ready-paid rank q before delta now t oob = by (is_new_second before now)
  where
    by : (b : Bool) → is_ready (if b then refilled_groups (charged rank q delta) else charged rank q delta) t ≡ is_ready q t
    by true = ready-charged rank q delta t oob
    by false = ready-charged rank q delta t oob

pub stage-paid : (rank : ℕ → ℕ) (q : Sched) (before delta now t : ℕ) → stage_of (refilled_at before now (charged rank q delta)) t ≡ stage_of q t
stage-paid rank q before delta now t = by (is_new_second before now)
  where
    by : (b : Bool) → stage_of (if b then refilled_groups (charged rank q delta) else charged rank q delta) t ≡ stage_of q t
    by true = stage-charged rank q delta t
    by false = stage-charged rank q delta t
