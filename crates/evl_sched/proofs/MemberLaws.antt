-- The threads whose policies name a group: each change keeps them.
use Rattle.std.proofs.Common.{◌≡◌, ◌≢◌, ℕ, suc, zero, ◌+◌, ◌*◌, ◌/◌, ◌==◌, Bool, true, false, List, [], ◌∷◌, length, Option, Some, None, is_some, replicate, slice_index_or, slice_set, if◌then◌else◌, refl, sym, ap, ◌∙◌, subst, arith}
use Rattle.std.specs.Option.{option_map_or}
use Rattle.std.proofs.lemmas.Bool.{false≢true, eqb-true}
use Rattle.std.proofs.lemmas.Bool.Decides.{nat_tests}
use Rattle.std.proofs.lemmas.List.{get_or-set_other, length-replicate, length-set}
use Rattle.evl_bitmap.specs.NumberSet.{NumberSet, contains}
use Rattle.evl_bitmap.specs.Numbers.{Bounded}
use Rattle.evl_sched.specs.declared.place.Place.{Place}
use Rattle.evl_sched.specs.declared.seat.Seat.{Seat}
use Rattle.evl_sched.specs.Members.{AreListed, AreMembers}
use Rattle.evl_sched.specs.Places.{rank_in}
use Rattle.evl_sched.specs.Policies.{group_of}
use Rattle.evl_sched.specs.Wanted.{names_group}

-- whether a seat's policy names a group
abbrev pub names : Option Seat → Bool
names seat = option_map_or (λ (seat : Seat). is_some (group_of seat.policy)) seat false

-- one seat is written: its thread is a member where its new policy names a group
module _ (seats : List (Option Seat)) (n : ℕ) (seat : Option Seat) (before now : NumberSet) (h : AreMembers seats before)
    (more : (t : ℕ) → contains before t ≡ true → contains now t ≡ true) (its : names seat ≡ true → contains now n ≡ true) where
  pub members_set : AreMembers (slice_set seats n seat) now
  members_set t names_one = by (t == n) refl
    where
      written : (xs : List (Option Seat)) (i : ℕ) → names (slice_index_or (slice_set xs i seat) i None) ≡ true → names seat ≡ true
      written [] i e = absurd (false≢true e)
      written (x ∷ xs) zero e = e
      written (x ∷ xs) (suc i) e = written xs i e

      by : (b : Bool) → (t == n) ≡ b → contains now t ≡ true
      by true at =
          let one : t ≡ n = eqb-true t n at in
          subst (λ m. contains now m ≡ true) (sym one) (its (written seats n (subst (λ m. names_group (slice_set seats n seat) m ≡ true) one names_one)))
      by false ne =
          let other : t ≢ n = λ e. absurd (grind (arith, nat_tests)) in
          more t (h t (ap names (sym (get_or-set_other seats n t seat None other)) ∙ names_one))

-- what is kept of both sets, after a seat is written
module _ (seats : List (Option Seat)) (n : ℕ) (seat : Option Seat) (before now spare : Bounded) (h : AreListed seats before spare) (same : now.limit ≡ before.limit)
    (more : (t : ℕ) → contains before.members t ≡ true → contains now.members t ≡ true) (its : names seat ≡ true → contains now.members n ≡ true) where
  pub listed_set : AreListed (slice_set seats n seat) now spare
  listed_set = record {
    named = members_set seats n seat before.members now.members h.named more its;
    room = omega (arith, length-set seats n seat, h.room, same);
    same = h.same ∙ sym same;
  }

-- a seat with the same policy
pub listed_again : (seats : List (Option Seat)) (n : ℕ) (old new : Seat) (members spare : Bounded) → AreListed seats members spare → slice_index_or seats n None ≡ Some old
    → new.policy ≡ old.policy → AreListed (slice_set seats n (Some new)) members spare
listed_again seats n old new members spare h at same =
    listed_set seats n (Some new) members members spare h refl (λ t e. e)
    (λ e. h.named n (ap names at ∙ (ap (λ policy. is_some (group_of policy)) (sym same) ∙ e)))

-- nobody is attached
abbrev no_seat : Option Seat
no_seat = None

nobody_named : (n t : ℕ) → names (slice_index_or (replicate n None) t None) ≡ false
nobody_named zero t = refl
nobody_named (suc n) zero = refl
nobody_named (suc n) (suc t) = nobody_named n t

-- any members, where nobody is attached any more
pub listed_nobody : (n : ℕ) (seats : List (Option Seat)) (members spare : Bounded) → AreListed seats members spare → n ≡ length seats → AreListed (replicate n no_seat) members spare
listed_nobody n seats members spare h same = record { named = λ t e. absurd (false≢true (sym (nobody_named n t) ∙ e)); room = omega (arith, length-replicate n no_seat, h.room, same); same = h.same }

pub listed_none : (n : ℕ) (members spare : Bounded) → members.limit ≡ 32 * (n / 32 + 1) → spare.limit ≡ members.limit → AreListed (replicate n no_seat) members spare
listed_none n members spare room same = record { named = λ t e. absurd (false≢true (sym (nobody_named n t) ∙ e)); room = omega (arith, length-replicate n no_seat, room); same = same }

-- a walk over the members: one more has passed
module _ (seats : List (Option Seat)) (wanted : ℕ → Option ℕ) (left rest : NumberSet) (next now : NumberSet) (n : ℕ) (old places : List (Option Place))
    (others : (t : ℕ) → t ≢ n → contains rest t ≡ contains left t)
    (ranks : (t : ℕ) → rank_in places t ≡ (if t == n then wanted n else rank_in old t))
    (member : names_group seats n ≡ true → contains now n ≡ true) (same : (t : ℕ) → t ≢ n → contains now t ≡ contains next t) where
  pub passed_more : ((t : ℕ) → names_group seats t ≡ true → contains left t ≡ false → (contains next t ≡ true) × (rank_in old t ≡ wanted t))
      → (t : ℕ) → names_group seats t ≡ true → contains rest t ≡ false → (contains now t ≡ true) × (rank_in places t ≡ wanted t)
  passed_more before t names_one gone = by (t == n) refl
    where
      by : (b : Bool) → (t == n) ≡ b → (contains now t ≡ true) × (rank_in places t ≡ wanted t)
      by true at =
          let one : t ≡ n = eqb-true t n at in (
            subst (λ m. contains now m ≡ true) (sym one) (member (subst (λ m. names_group seats m ≡ true) one names_one)),
            ranks t ∙ (ap (λ (b : Bool). if b then wanted n else rank_in old t) at ∙ ap wanted (sym one)),
          )
      by false ne =
          let other : t ≢ n = λ e. absurd (grind (arith, nat_tests)) in
          let was = before t names_one (sym (others t other) ∙ gone) in
          (same t other ∙ was.0, ranks t ∙ (ap (λ (b : Bool). if b then wanted n else rank_in old t) ne ∙ was.1))

  pub others_stand : ((t : ℕ) → names_group seats t ≡ false → rank_in old t ≡ wanted t) → (t : ℕ) → names_group seats t ≡ false → rank_in places t ≡ wanted t
  others_stand before t none = ranks t ∙ by (t == n) refl
    where
      by : (b : Bool) → (t == n) ≡ b → (if b then wanted n else rank_in old t) ≡ wanted t
      by true at = ap wanted (sym (eqb-true t n at))
      by false ne = before t none

-- all have passed
pub passed_all : (seats : List (Option Seat)) (wanted : ℕ → Option ℕ) (left next : NumberSet) (places : List (Option Place)) → ((t : ℕ) → contains left t ≡ false)
    → ((t : ℕ) → names_group seats t ≡ true → contains left t ≡ false → (contains next t ≡ true) × (rank_in places t ≡ wanted t))
    → ((t : ℕ) → names_group seats t ≡ false → rank_in places t ≡ wanted t) → (t : ℕ) → rank_in places t ≡ wanted t
passed_all seats wanted left next places none passed others t = by (names_group seats t) refl
  where
    by : (b : Bool) → names_group seats t ≡ b → rank_in places t ≡ wanted t
    by true names_one = (passed t names_one (none t)).1
    by false no_group = others t no_group
