-- Each step on the core's lock and on a mutex's word keeps the ties of the one table.
use Rattle.std.proofs.Common.{◌≡◌, ◌≢◌, inl, ⊎_elim, ℕ, ◌==◌, eq-eqb, ne_eqb, Bool, true, false, List, [], ◌∷◌, set, Option, Some, None, refl, sym, ap, ◌∙◌, subst, arith}
use Rattle.std.specs.Prelude.{MatchBool}
use Rattle.std.proofs.lemmas.Option.{same_Some}
use mathlib.Core.Option.{some, none, some-injective}
use lib.ListN.{get_elem?}
use Rattle.atomic_table.proofs.Lists.{at_set}
use Rattle.evl_kernel.specs.histories.Histories.{History}
use Rattle.evl_kernel.specs.state.States.{State}
use Rattle.evl_words.specs.Parts.{KeepsTies}
use Rattle.evl_core.specs.declared.views.CorePart.{CorePart}
use Rattle.evl_core.specs.declared.views.Noted.{Noted}
use Rattle.evl_core.specs.rule.CoreRule.{IsFree, IsTaken, Homes, after_take, after_loss, after_give, noting, IsAbout}
use Rattle.evl_core.specs.worlds.CoreWorld.{Slot}
use Rattle.evl_core.specs.lock.Lock.{LockEntry, LockKept}
use Rattle.evl_core.specs.rule.Ties.{AreTied, IsLeft, MutexTied, Settled, StandsNoted}
use Rattle.evl_core.proofs.rule.Noting.{noted_core}
use Rattle.evl_core.proofs.lock.LockSteps.{lock_stays}
use Rattle.evl_core.proofs.rule.CoreSteps.{Lock, Losing, Taking, Giving, none_some, holder_is}
use Rattle.evl_core.proofs.ties.TieSteps.{StaysPlain, stays_left, stays_tied}

pub slot_is : {S : Type 0} (x y : S) → ◌≡◌ {A = Homes S} (some (Some x) ∷ []) (some (Some y) ∷ []) → x ≡ y
slot_is {S} x y e = same_Some x y (some-injective (Some x) (Some y) (ap first e))
  where
    first : Homes S → Slot S
    first [] = none
    first (o ∷ os) = o

out_is : {S : Type 0} (y : S) → ◌≡◌ {A = Homes S} (none ∷ []) (some (Some y) ∷ []) → ⊥
out_is {S} y e = absurd (let f : ◌≡◌ {A = Slot S} none (some (Some y)) = ap first e in cc)
  where
    first : Homes S → Slot S
    first [] = none
    first (o ∷ os) = o

abbrev pub noted : ℕ → ℕ → Noted
noted i left = record { mutex = i; left = left }

-- of a mutex that isn't noted all stays as it was recorded; of the noted one, what is left
match_false : (b : Bool) (X Y : Type 0) → b ≡ false → Y → MatchBool b X Y
match_false true X Y e y = absurd (cc)
match_false false X Y e y = y

match_true : (b : Bool) (X Y : Type 0) → b ≡ true → X → MatchBool b X Y
match_true true X Y e x = x
match_true false X Y e x = absurd (cc)

pub from_false : (b : Bool) (X Y : Type 0) → b ≡ false → MatchBool b X Y → Y
from_false true X Y e h = absurd (cc)
from_false false X Y e h = h

pub from_true : (b : Bool) (X Y : Type 0) → b ≡ true → MatchBool b X Y → X
from_true true X Y e h = h
from_true false X Y e h = absurd (cc)

module _ {S B : Type 0} (past : S → History) (comes : B → S → Type 0) (first : B) (ceilings : ℕ → Bool) where
  abbrev pub TieOf : ℕ → ℕ → Homes S → List (CorePart B) → ℕ → Type 0
  TieOf = MutexTied past ceilings

  -- a take that is lost
  pub tie_losing : (k : ℕ) (c : CorePart B) → Losing past comes first (KeepsTies TieOf) k c
  tie_losing k c lock n homes cores at i word tied = record {
    free = tied.free;
    taken = λ j u h there has. ⊎_elim
        (λ (same : (j ≡ k) × (after_loss lock c ≡ u)).
        subst (λ (x : CorePart B). StandsNoted ceilings h.state i x.note word) same.1 (tied.taken k c h at (ap (λ (x : CorePart B). x.taken) same.1 ∙ has)))
        (λ (other : (j ≢ k) × (get_elem? cores j ≡ some u)). tied.taken j u h other.1 has)
        (at_set cores k j (after_loss lock c) u there);
  }

  -- a take
  pub tie_taking : (room : S → ℕ) (k : ℕ) (c : CorePart B) → Taking past comes first room (KeepsTies TieOf) k c
  tie_taking room k c y known cores lock at i word tied = record {
    free = λ z e. absurd (out_is z e);
    taken = λ j u h there has. ⊎_elim
        (λ (same : (j ≡ k) × (after_take (past y) (room y) known c ≡ u)).
        let now : Some (past y) ≡ Some h = ap (λ (x : CorePart B). x.taken) same.1 ∙ has in
        let is : past y ≡ h = same_Some (past y) h now in
        subst (λ (x : CorePart B). StandsNoted ceilings h.state i x.note word) same.1 (subst (λ (x : History). AreTied ceilings x.state i word) is (tied.free y refl)))
        (λ (other : (j ≢ k) × (get_elem? cores j ≡ some u)). absurd (none_some h u.taken has (nobody j u other.1)))
        (at_set cores k j (after_take (past y) (room y) known c) u there);
  }
    where
      nobody : (j : ℕ) (u : CorePart B) → get_elem? cores j ≡ some u → u.taken ≡ None
      nobody = ⊎_elim (λ (f : IsFree past comes first lock.history 0 (some (Some y) ∷ []) cores). f.nobody) (λ (t : IsTaken lock.history 0 (some (Some y) ∷ []) cores). absurd (let e = t.word_is in omega arith)) lock.who

  -- a give
  pub tie_giving : (k : ℕ) (c : CorePart B) (y : S) (before : History) → c.taken ≡ Some before → Settled ceilings c before (past y).state → Giving past comes first (KeepsTies TieOf) k c y
  tie_giving k c y before has settled known cores lock at i word tied = record {
    free = λ z e. subst (λ (x : S). AreTied ceilings (past x).state i word) (slot_is y z e) (settled i word (tied.taken k c before at has));
    taken = λ j u h there took. ⊎_elim
        (λ (same : (j ≡ k) × (after_give (past y) k known c ≡ u)). absurd (none_some h u.taken took (sym (ap (λ (x : CorePart B). x.taken) same.1))))
        (λ (other : (j ≢ k) × (get_elem? cores j ≡ some u)). absurd (none_some h u.taken took ((holder_is past comes first 1 (none ∷ []) cores k c before lock at has).2 j u other.0 other.1)))
        (at_set cores k j (after_give (past y) k known c) u there);
  }

  -- a step of anybody that leaves a word of a mutex without a ceiling as it was, or plain
  pub tie_stepping : (i n : ℕ) (homes : Homes S) (cores : List (CorePart B)) (found now : ℕ) → ceilings i ≡ false → StaysPlain found now → TieOf i n homes cores found → TieOf i n homes cores now
  tie_stepping i n homes cores found now free_of plain tied = record {
    free = λ y e. stays i (past y).state (tied.free y e);
    taken = λ k c h at has. noted_stays c.note h.state (tied.taken k c h at has);
  }
    where
      stays : (j : ℕ) (s : State) → AreTied ceilings s i found → AreTied ceilings s i now
      stays j s before m at = ((before m at).0, stays_tied m _ found now ((before m at).0 ∙ free_of) plain (before m at).1)

      noted_stays : (o : Option Noted) (s : State) → StandsNoted ceilings s i o found → StandsNoted ceilings s i o now
      noted_stays None s before = stays i s before
      noted_stays (Some note) s before = by (note.mutex == i) before
        where
          by : (b : Bool) → MatchBool b (IsLeft (ceilings i) note.left found) (AreTied ceilings s i found) → MatchBool b (IsLeft (ceilings i) note.left now) (AreTied ceilings s i now)
          by true h = subst (λ b. IsLeft b note.left now) (sym free_of) (stays_left note.left found now plain (subst (λ b. IsLeft b note.left found) free_of h))
          by false h = stays i s h

  module _ (i k : ℕ) (c : CorePart B) (h : History) (has : c.taken ≡ Some h) (about : IsAbout i c.note) (n : ℕ) (homes : Homes S) (cores : List (CorePart B)) (lock : Lock past comes first n homes cores) (at : get_elem? cores k ≡ some c) (left : ℕ) where
    abbrev pub now : List (CorePart B)
    now = set cores k (noting i left c)

    holder : IsTaken lock.history n homes cores × (lock.history ≡ h) × ((j : ℕ) (u : CorePart B) → j ≢ k → get_elem? cores j ≡ some u → u.taken ≡ None)
    holder = holder_is past comes first n homes cores k c h lock at has

    -- nobody else has the kernel, so what is said of the holder is said of this thread
    by_holder : (j word : ℕ) → StandsNoted ceilings h.state j (Some (noted i left)) word → TieOf j n homes now word
    by_holder j word stands = record {
      free = λ y e. absurd (out_is y (sym holder.0.slot_is ∙ e));
      taken = λ m u g there took. ⊎_elim
          (λ (same : (m ≡ k) × (noting i left c ≡ u)).
          let is : h ≡ g = same_Some h g (sym has ∙ ap (λ (x : CorePart B). x.taken) same.1 ∙ took) in
          subst (λ (x : CorePart B). StandsNoted ceilings g.state j x.note word) same.1 (subst (λ (x : History). StandsNoted ceilings x.state j (Some (noted i left)) word) is stands))
          (λ (other : (m ≢ k) × (get_elem? cores m ≡ some u)). absurd (none_some g u.taken took (holder.2 m u other.0 other.1)))
          (at_set cores k m (noting i left c) u there);
    }

    -- its own tie
    pub tie_marking : TieOf i n homes now left
    tie_marking = by_holder i left (match_true (i == i) (IsLeft (ceilings i) left left) (AreTied ceilings h.state i left) (eq-eqb i i refl) (inl refl))

    -- the ties of the others
    pub ties_beside : (j word : ℕ) → j ≢ i → TieOf j n homes cores word → TieOf j n homes now word
    ties_beside j word other tied =
        let apart : (i == j) ≡ false = ne_eqb i j (λ e. other (sym e)) in
        by_holder j word (match_false (i == j) (IsLeft (ceilings j) left word) (AreTied ceilings h.state j word) apart (was c.note about (tied.taken k c h at has)))
      where
        was : (o : Option Noted) → IsAbout i o → StandsNoted ceilings h.state j o word → AreTied ceilings h.state j word
        was None a stands = stands
        was (Some note) a stands = from_false (note.mutex == j) (IsLeft (ceilings j) note.left word) (AreTied ceilings h.state j word) (ne_eqb note.mutex j (λ e. other (sym e ∙ a))) stands

    -- and what the thread learns: what held of the mutex by its note
    pub told : (found : ℕ) → TieOf i n homes cores found → StandsNoted ceilings h.state i c.note found
    told found tied = tied.taken k c h at has

    pub lock_marked : Lock past comes first n homes now
    lock_marked = noted_core past comes first n homes cores k c i left lock at

    -- so does the lock's history
    pub log_marked : (log : List LockEntry) → LockKept log n cores → LockKept log n now
    log_marked log kept = lock_stays log n cores k c kept at (noting i left c) refl refl refl refl
