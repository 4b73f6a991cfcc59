-- The ready threads that may run are in the queues of their ranks: each change keeps it.
use Rattle.std.proofs.Common.{◌≡◌, ◌≢◌, ℕ, suc, zero, ◌<◌, ◌==◌, nat_le, Bool, true, false, ◌||◌, List, [], ◌∷◌, ◌++◌, filter, length, replicate, Option, Some, None, is_some, option_map, slice_index_or, slice_set, if◌then◌else◌, refl, sym, ap, ◌∙◌, subst, arith}
use Rattle.std.specs.List.{list_any, AllByRecursion}
use Rattle.std.specs.Option.{option_map_or}
use Rattle.std.proofs.lemmas.Bool.{false≢true, eqb-false, eqb-true}
use Rattle.std.proofs.lemmas.List.{get_or-set_other, length-set, length-replicate}
use Rattle.evl_base.proofs.Plain.{eqb-same, eqb-swap}
use Rattle.evl_sched.specs.declared.group.Group.{Group}
use Rattle.evl_sched.specs.declared.place.Place.{Place}
use Rattle.evl_sched.specs.declared.seat.Seat.{Seat}
use Rattle.evl_sched.specs.Groups.{has_budget}
use Rattle.evl_sched.specs.Orders.{has_rank, rank_or}
use Rattle.evl_sched.specs.Picks.{first_greatest, may_run, picked}
use Rattle.evl_sched.specs.Places.{rank_in}
use Rattle.evl_sched.specs.Policies.{base_rank, group_of}
use Rattle.evl_sched.specs.Ranks.{IsSoundSched, Ranked, given_to, rank_of}
use Rattle.evl_sched.specs.Searching.{higher, highest}
use Rattle.evl_sched.specs.Threads.{is_oob, is_ready, moved_to_end, readied, seat_at, stage_of, without}
use Rattle.evl_sched.specs.Wanted.{names_group, IsStood, rank_to_run, wanted_rank}
use Rattle.evl_sched.proofs.AlikeLaws.{greatest_alike}
use Rattle.evl_sched.proofs.KeptLaws.{SameElsewhere, kept_moved, kept_out, kept_queued, kept_stages, same_stage}
use Rattle.evl_sched.proofs.PickLaws.{first-highest}
use Rattle.evl_sched.proofs.QueueLaws.{all_from, is_in}
use Rattle.evl_sched.proofs.QueueChanges.{without_stranger}
use Rattle.evl_sched.proofs.QueuedLaws.{in-others, nothing_in, out-of}

last-other : (ts : List ℕ) (n t : ℕ) → (t == n) ≡ false → is_in (ts ++ n ∷ []) t ≡ is_in ts t
last-other [] n t ne = ap (λ c. c || false) (eqb-swap n t ∙ ne)
last-other (u ∷ us) n t ne = ap (λ c. (u == t) || c) (last-other us n t ne)

-- the ready list after each change, for the thread itself and for all others
pub out-itself : (ts : List ℕ) (n : ℕ) → is_in (without ts n) n ≡ false
out-itself ts n = out-of n ts

out-other : (ts : List ℕ) (n t : ℕ) → (t == n) ≡ false → is_in (without ts n) t ≡ is_in ts t
out-other ts n t ne = in-others n t ne ts

queued-other : (seats : List (Option Seat)) (ts : List ℕ) (n t : ℕ) → (t == n) ≡ false → is_in (readied (record { seats = seats; ready = ts; groups = [] }) n).ready t ≡ is_in ts t
queued-other seats ts n t ne = by (is_oob (stage_of (record { seats = seats; ready = ts; groups = [] }) n))
  where
    by : (b : Bool) → is_in (if b then without ts n ++ n ∷ [] else without ts n) t ≡ is_in ts t
    by true = last-other (without ts n) n t ne ∙ out-other ts n t ne
    by false = out-other ts n t ne

moved-other : (seats : List (Option Seat)) (ts : List ℕ) (n t : ℕ) → (t == n) ≡ false → is_in (moved_to_end (record { seats = seats; ready = ts; groups = [] }) n).ready t ≡ is_in ts t
moved-other seats ts n t ne = by (is_in ts n)
  where
    by : (b : Bool) → is_in (if b then (readied (record { seats = seats; ready = ts; groups = [] }) n).ready else ts) t ≡ is_in ts t
    by true = queued-other seats ts n t ne
    by false = refl

-- the rank that a thread is placed by: from whether it is ready, its seat, the groups and the rank that it was given
abbrev wants : Bool → Option Seat → (Option Seat → Bool) → Option ℕ → Option ℕ
wants ready seat may given =
    if ready then (if may seat then Some (option_map_or (λ rank. rank) given (option_map_or (λ (seat : Seat). base_rank seat.policy) seat 0)) else None) else None

abbrev may_with : List Group → Option Seat → Bool
may_with groups seat = option_map_or (λ (seat : Seat). has_budget groups (group_of seat.policy)) seat false

-- a thread that isn't ready is placed nowhere
pub unwanted : (r : Ranked) (t : ℕ) → is_ready r.sched t ≡ false → wanted_rank r t ≡ None
unwanted r t e = ap (λ (b : Bool). if b then rank_to_run r t else None) e

pub wanted-ready : (r : Ranked) (t : ℕ) → is_ready r.sched t ≡ true → wanted_rank r t ≡ rank_to_run r t
wanted-ready r t e = ap (λ (b : Bool). if b then rank_to_run r t else None) e

module _ (r : Ranked) (places : List (Option Place)) (h : IsStood r places) (n : ℕ) (seats : List (Option Seat)) (given : List (Option ℕ)) where
  abbrev changed : List ℕ → Ranked
  changed ready = record { sched = record { seats = seats; ready = ready; groups = r.sched.groups }; given = given }

  module _ (same : length seats ≡ length r.sched.seats) (alike : length given ≡ length r.given) (elsewhere : SameElsewhere r.sched.seats seats n)
      (others : (t : ℕ) → (t == n) ≡ false → slice_index_or given t None ≡ slice_index_or r.given t None)
      (now : List (Option Place)) (many : length now ≡ length places) where
    -- one thread changed, and is where it is wanted
    module _ (ready : List ℕ) (those : (t : ℕ) → (t == n) ≡ false → is_in ready t ≡ is_in r.sched.ready t)
        (ranks : (t : ℕ) → rank_in now t ≡ (if t == n then wanted_rank (changed ready) n else rank_in places t)) where
      stood-all : (t : ℕ) → rank_in now t ≡ wanted_rank (changed ready) t
      stood-all t = ranks t ∙ by (t == n) refl
        where
          by : (b : Bool) → (t == n) ≡ b → (if b then wanted_rank (changed ready) n else rank_in places t) ≡ wanted_rank (changed ready) t
          by true at = ap (wanted_rank (changed ready)) (sym (eqb-true t n at))
          by false ne = h.stood t ∙ (λ i. wants (sym (those t ne) i) (sym (elsewhere t ne) i) (may_with r.sched.groups) (sym (others t ne) i))

      stood-by : IsSoundSched (changed ready) → IsStood (changed ready) now
      stood-by sound = record { sound = sound; many = same ∙ (h.many ∙ sym many); few = omega (arith, same, h.few); stood = stood-all }

    pub stood_out : (ready : List ℕ) → ready ≡ without r.sched.ready n → ((t : ℕ) → rank_in now t ≡ (if t == n then None else rank_in places t)) → IsStood (changed ready) now
    stood_out ready e ranks =
        stood-by ready (λ t ne. ap (λ ts. is_in ts t) e ∙ out-other r.sched.ready n t ne)
        (λ t. ranks t ∙ ap (λ (o : Option ℕ). if t == n then o else rank_in places t) (sym (unwanted (changed ready) n (ap (λ ts. is_in ts n) e ∙ out-itself r.sched.ready n))))
        (kept_out r n seats h.sound same given r.sched.groups alike elsewhere ready e)

    pub stood_queued : (ready : List ℕ) → ready ≡ (readied (record { seats = seats; ready = r.sched.ready; groups = [] }) n).ready
        → ((t : ℕ) → rank_in now t ≡ (if t == n then wanted_rank (changed ready) n else rank_in places t)) → IsStood (changed ready) now
    stood_queued ready e ranks =
        stood-by ready (λ t ne. ap (λ ts. is_in ts t) e ∙ queued-other seats r.sched.ready n t ne) ranks (kept_queued r n seats h.sound same given r.sched.groups alike elsewhere ready e)

    pub stood_moved : (ready : List ℕ) → ready ≡ (moved_to_end (record { seats = seats; ready = r.sched.ready; groups = [] }) n).ready
        → ((t : ℕ) → rank_in now t ≡ (if t == n then wanted_rank (changed ready) n else rank_in places t)) → IsStood (changed ready) now
    stood_moved ready e ranks =
        stood-by ready (λ t ne. ap (λ ts. is_in ts t) e ∙ moved-other seats r.sched.ready n t ne) ranks (kept_moved r n seats h.sound same given r.sched.groups alike elsewhere ready e)

    -- the ready list is the same
    pub stood_again : (ready : List ℕ) → ready ≡ r.sched.ready → ((t : ℕ) → rank_in now t ≡ (if t == n then wanted_rank (changed r.sched.ready) n else rank_in places t))
        → ((t : ℕ) → is_oob (stage_of r.sched t) ≡ true → is_oob (stage_of (changed r.sched.ready).sched t) ≡ true) → IsStood (changed ready) now
    stood_again ready e ranks more =
        subst (λ ready. IsStood (changed ready) now) (sym e)
        (stood-by r.sched.ready (λ t ne. refl) ranks (kept_stages r n seats h.sound same given r.sched.groups alike more))

-- what is left of a slice changes
module _ (r : Ranked) (places : List (Option Place)) (h : IsStood r places) (n : ℕ) (old new : Seat) (its : seat_at r.sched n ≡ Some old) (policy : new.policy ≡ old.policy)
    (stage : new.stage ≡ old.stage) where
  abbrev worn : Ranked
  worn = record { sched = record { seats = slice_set r.sched.seats n (Some new); ready = r.sched.ready; groups = r.sched.groups }; given = r.given }

  worn-seat : (t : ℕ) (f : Option Seat → Option ℕ) → f (Some new) ≡ f (Some old) → f (seat_at worn.sched t) ≡ f (seat_at r.sched t)
  worn-seat t f same = go r.sched.seats n t its
    where
      go : (seats : List (Option Seat)) (n t : ℕ) → slice_index_or seats n None ≡ Some old → f (slice_index_or (slice_set seats n (Some new)) t None) ≡ f (slice_index_or seats t None)
      go [] n t e = refl
      go (x ∷ xs) zero zero e = same ∙ ap f (sym e)
      go (x ∷ xs) zero (suc t) e = refl
      go (x ∷ xs) (suc n) zero e = refl
      go (x ∷ xs) (suc n) (suc t) e = go xs n t e

  pub stood_worn : IsStood worn places
  stood_worn = record {
    sound = kept_stages r n (slice_set r.sched.seats n (Some new)) h.sound (length-set r.sched.seats n (Some new)) r.given r.sched.groups refl (same_stage r.sched.seats n old new its stage);
    many = length-set r.sched.seats n (Some new) ∙ h.many;
    few = omega (arith, length-set r.sched.seats n (Some new), h.few);
    stood = λ t. h.stood t ∙ sym (worn-seat t (λ seat. wants (is_ready r.sched t) seat (may_with r.sched.groups) (given_to r t))
        (ap (λ policy. if is_ready r.sched t then (if has_budget r.sched.groups (group_of policy) then Some (option_map_or (λ rank. rank) (given_to r t) (base_rank policy)) else None) else None) policy));
  }

-- the groups change
module _ (r : Ranked) (places : List (Option Place)) (h : IsStood r places) (groups : List Group) where
  abbrev regrouped : List ℕ → Ranked
  regrouped ready = record { sched = record { seats = r.sched.seats; ready = ready; groups = groups }; given = r.given }

  sound-regrouped : IsSoundSched (regrouped r.sched.ready)
  sound-regrouped = record { same = h.sound.same; oob = h.sound.oob; once = h.sound.once }

  -- and all stand anew
  pub stood_anew : (ready : List ℕ) (now : List (Option Place)) → ready ≡ r.sched.ready → length now ≡ length places → ((t : ℕ) → rank_in now t ≡ wanted_rank (regrouped r.sched.ready) t) → IsStood (regrouped ready) now
  stood_anew ready now e many ranks = subst (λ ready. IsStood (regrouped ready) now) (sym e) (record { sound = sound-regrouped; many = h.many ∙ sym many; few = h.few; stood = ranks })

  -- and no group ran out of budget
  pub stood_still : ((other : Option ℕ) → has_budget groups other ≡ has_budget r.sched.groups other) → IsStood (regrouped r.sched.ready) places
  stood_still same = record { sound = sound-regrouped; many = h.many; few = h.few; stood = λ t. h.stood t ∙ by t (seat_at r.sched t) }
    where
      by : (t : ℕ) (o : Option Seat) → wants (is_ready r.sched t) o (may_with r.sched.groups) (given_to r t) ≡ wants (is_ready r.sched t) o (may_with groups) (given_to r t)
      by t None = refl
      by t (Some seat) =
          ap (λ (b : Bool). if is_ready r.sched t then (if b then Some (option_map_or (λ rank. rank) (given_to r t) (base_rank seat.policy)) else None) else None) (sym (same (group_of seat.policy)))

  -- a thread that names no group is placed as before
  pub stood_ungrouped : (t : ℕ) → names_group r.sched.seats t ≡ false → rank_in places t ≡ wanted_rank (regrouped r.sched.ready) t
  stood_ungrouped t e = h.stood t ∙ by (seat_at r.sched t) e
    where
      budget : (group : Option ℕ) → is_some group ≡ false → has_budget r.sched.groups group ≡ has_budget groups group
      budget None e = refl
      budget (Some n) e = absurd (false≢true (sym e))

      by : (o : Option Seat) → option_map_or (λ (seat : Seat). is_some (group_of seat.policy)) o false ≡ false
          → wants (is_ready r.sched t) o (may_with r.sched.groups) (given_to r t) ≡ wants (is_ready r.sched t) o (may_with groups) (given_to r t)
      by None e = refl
      by (Some seat) e =
          ap (λ (b : Bool). if is_ready r.sched t then (if b then Some (option_map_or (λ rank. rank) (given_to r t) (base_rank seat.policy)) else None) else None) (budget (group_of seat.policy) e)

-- who is first of those that stand is who is picked
module _ (r : Ranked) (places : List (Option Place)) (h : IsStood r places) where
  ready-rank : (t : ℕ) → is_in r.sched.ready t ≡ true → rank_in places t ≡ rank_to_run r t
  ready-rank t e = h.stood t ∙ wanted-ready r t e

  has-may : (t : ℕ) → is_in r.sched.ready t ≡ true → has_rank places t ≡ may_run r.sched t
  has-may t e = ap (λ (o : Option ℕ). is_some o) (ready-rank t e) ∙ by (may_run r.sched t)
    where
      by : (b : Bool) → is_some (if b then Some (rank_of r t) else None) ≡ b
      by true = refl
      by false = refl

  its-rank : (t : ℕ) → is_in r.sched.ready t ≡ true → may_run r.sched t ≡ true → rank_or places t ≡ rank_of r t
  its-rank t e may = ap (λ (o : Option ℕ). option_map_or (λ rank. rank) o 0) (ready-rank t e) ∙ ap (λ (b : Bool). option_map_or (λ rank. rank) (if b then Some (rank_of r t) else None) 0) may

  filter-in : (p q : ℕ → Bool) (ts : List ℕ) → AllByRecursion (λ t. p t ≡ q t) ts → filter p ts ≡ filter q ts
  filter-in p q [] same = refl
  filter-in p q (t ∷ ts) same = ap (λ b. if b then t ∷ filter p ts else filter p ts) same.0 ∙ ap (λ us. if q t then t ∷ us else us) (filter-in p q ts same.1)

  those-alike : (ts : List ℕ) → AllByRecursion (λ t. may_run r.sched t ≡ true → rank_or places t ≡ rank_of r t) ts → AllByRecursion (λ t. rank_or places t ≡ rank_of r t) (filter (may_run r.sched) ts)
  those-alike [] same = tt
  those-alike (t ∷ ts) same = by (may_run r.sched t) refl (those-alike ts same.1)
    where
      by : (b : Bool) → may_run r.sched t ≡ b → AllByRecursion (λ t. rank_or places t ≡ rank_of r t) (filter (may_run r.sched) ts)
          → AllByRecursion (λ t. rank_or places t ≡ rank_of r t) (if b then t ∷ filter (may_run r.sched) ts else filter (may_run r.sched) ts)
      by true may more = (same.0 may, more)
      by false may more = more

  pub first-picked : first_greatest (rank_or places) (filter (has_rank places) r.sched.ready) ≡ picked (rank_of r) r.sched
  first-picked =
      ap (first_greatest (rank_or places))
      (filter-in (has_rank places) (may_run r.sched) r.sched.ready (all_from (λ t. has_rank places t ≡ may_run r.sched t) r.sched.ready has-may))
      ∙ greatest_alike (rank_or places) (rank_of r) (filter (may_run r.sched) r.sched.ready)
      (those-alike r.sched.ready (all_from (λ t. may_run r.sched t ≡ true → rank_or places t ≡ rank_of r t) r.sched.ready its-rank))

-- somebody is picked just where somebody may run
abbrev is_filled : List ℕ → Bool
is_filled [] = false
is_filled (t ∷ ts) = true

some-highest : (rank : ℕ → ℕ) (ts : List ℕ) → is_some (highest rank ts) ≡ is_filled ts
some-highest rank [] = refl
some-highest rank (t ∷ ts) = by (highest rank ts)
  where
    by : (o : Option ℕ) → is_some (higher rank (Some t) o) ≡ true
    by None = refl
    by (Some u) = both (nat_le (rank u) (rank t))
      where
        both : (b : Bool) → is_some (if b then Some t else Some u) ≡ true
        both true = refl
        both false = refl

filled-any : (may : ℕ → Bool) (ts : List ℕ) → is_filled (filter may ts) ≡ list_any may ts
filled-any may [] = refl
filled-any may (t ∷ ts) = by (may t) (filled-any may ts)
  where
    by : (b : Bool) → is_filled (filter may ts) ≡ list_any may ts → is_filled (if b then t ∷ filter may ts else filter may ts) ≡ (b || list_any may ts)
    by true more = refl
    by false more = more

pub some-eligible : (rank : ℕ → ℕ) (may : ℕ → Bool) (ts : List ℕ) → is_some (first_greatest rank (filter may ts)) ≡ list_any may ts
some-eligible rank may ts = ap (λ (o : Option ℕ). is_some o) (first-highest rank (filter may ts)) ∙ (some-highest rank (filter may ts) ∙ filled-any may ts)

-- nobody is attached
nobody-stands : (n : ℕ) (groups : List Group) (t : ℕ) → rank_in (replicate n None) t ≡ None
nobody-stands n groups t = ap (λ (o : Option Place). option_map (λ (p : Place). p.rank) o) (nothing_in None n t)

pub stood-fresh : (n m k : ℕ) (groups : List Group) → n < 65536 → m ≡ n → k ≡ n
    → IsStood (record { sched = record { seats = replicate n None; ready = []; groups = groups }; given = replicate m None }) (replicate k None)
stood-fresh n m k groups few same alike = record {
  sound = record { same = length-replicate m None ∙ (same ∙ sym (length-replicate n None)); oob = tt; once = tt };
  many = length-replicate n None ∙ (sym alike ∙ sym (length-replicate k None));
  few = few-seats None;
  stood = λ t. nobody-stands k groups t;
}
  where
    few-seats : (nobody : Option Seat) → length (replicate n nobody) < 65536
    few-seats nobody = omega (arith, length-replicate n nobody, few)

-- a thread that leaves isn't wanted any more
pub out-ranks : (r : Ranked) (places now : List (Option Place)) (n : ℕ) (ts : List ℕ) → r.sched.ready ≡ without ts n → ((t : ℕ) → rank_in now t ≡ (if t == n then None else rank_in places t))
    → (t : ℕ) → rank_in now t ≡ (if t == n then wanted_rank r n else rank_in places t)
out-ranks r places now n ts e ranks t =
    ranks t ∙ ap (λ (o : Option ℕ). if t == n then o else rank_in places t) (sym (unwanted r n (ap (λ ts. is_in ts n) e ∙ out-itself ts n)))

-- a thread that isn't ready isn't moved
pub not_moved : (seats : List (Option Seat)) (ts : List ℕ) (n : ℕ) → is_in ts n ≡ false → without ts n ≡ (moved_to_end (record { seats = seats; ready = ts; groups = [] }) n).ready
not_moved seats ts n e =
    without_stranger n ts (all_from (λ t. t ≢ n) ts (λ t f same. absurd (false≢true (sym e ∙ (ap (is_in ts) (sym same) ∙ f)))))
    ∙ sym (ap (λ (b : Bool). if b then (readied (record { seats = seats; ready = ts; groups = [] }) n).ready else ts) e)

pub given-elsewhere : (given : List (Option ℕ)) (n : ℕ) (v : Option ℕ) (t : ℕ) → (t == n) ≡ false → slice_index_or (slice_set given n v) t None ≡ slice_index_or given t None
given-elsewhere given n v t ne = get_or-set_other given n t v None (eqb-false t n ne)
