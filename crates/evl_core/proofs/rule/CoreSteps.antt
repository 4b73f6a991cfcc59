-- Each step on the core's lock keeps its part of a table's rule.
use Rattle.std.proofs.Common.{◌≡◌, ◌≢◌, ℕ, List, [], ◌∷◌, set, Option, Some, None, refl, sym, ap, ◌∙◌, subst, ⊎_elim, inl, inr, arith, length-set}
use Rattle.std.proofs.lemmas.List.{length-replicate}
use Rattle.std.specs.Prelude.{replicate}
use Rattle.std.proofs.lemmas.Option.{same_Some}
use mathlib.Core.Option.{some, none, some-injective}
use mathlib.Core.Logic.{dite}
use native.Mathlib.Decide.{ℕ_discrete}
use lib.ListN.{get_elem?}
use Rattle.atomic_table.proofs.Lists.{at_set, set_else, set_here}
use Rattle.evl_base.specs.declared.entry.Entry.{Entry}
use Rattle.evl_kernel.specs.histories.Histories.{History, IsLegal}
use Rattle.evl_words.specs.Parts.{LockChange}
use Rattle.evl_words.proofs.Sequences.{at_below, at_replicate}
use Rattle.evl_core.specs.declared.views.CorePart.{CorePart}
use Rattle.evl_core.specs.accounts.Accounts.{GoesOn, MadeBy, calls_by, Fits, threads_of}
use Rattle.evl_core.specs.lock.Lock.{LockView}
use Rattle.evl_core.specs.rule.CoreRule.{IsFree, IsTaken, CoreKept, CoreRuled, Homes, account_at, newcomer_part, after_take, after_loss, after_give}
use Rattle.evl_core.specs.worlds.CoreWorld.{Slot}
use Rattle.evl_core.proofs.lock.LockSteps.{lock_opens}
use Rattle.evl_core.proofs.accounts.Accounts.{goes_on_threads, strangers_more, starts_whole, fits_longer, goes_on_legal}

-- what holds of the elements but one, and of the new one there, holds of all
all_set : {A : Type 0} (P : ℕ → A → Type 0) (xs : List A) (k : ℕ) (w : A) → P k w → ((j : ℕ) (u : A) → j ≢ k → get_elem? xs j ≡ some u → P j u) → (j : ℕ) (u : A) → get_elem? (set xs k w) j ≡ some u → P j u
all_set {A} P xs k w mine others j u e =
    ⊎_elim (λ (t : (j ≡ k) × (w ≡ u)). subst (λ (x : ℕ × A). P x.0 x.1) (λ i. (sym t.0 i, t.1 i)) mine) (λ (t : (j ≢ k) × (get_elem? xs j ≡ some u)). others j u t.0 t.1) (at_set xs k j w u e)

pub none_some : {X : Type 0} (x : X) (y : Option X) → y ≡ Some x → y ≡ None → ⊥
none_some x y e f = let g : Some x ≡ None = sym e ∙ f in absurd (cc)

pub only_slot : {S : Type 0} (x y : Slot S) → x ∷ [] ≡ y ∷ [] → x ≡ y
only_slot x y e = cc

module _ {S B : Type 0} (past : S → History) (comes : B → S → Type 0) (first : B) where
  abbrev pub Lock : ℕ → Homes S → List (CorePart B) → Type 0
  Lock = CoreKept past comes first

  abbrev pub Ruled : ℕ → Homes S → List (CorePart B) → Type 0
  Ruled = CoreRuled past comes first

  abbrev pub Change : Type 1
  Change = LockChange (Option S) (CorePart B)

  -- what changes beside the lock where a take of the thread k is lost, where it takes the kernel, and where it gives one back
  abbrev pub Losing : Change → ℕ → CorePart B → Type 0
  Losing beside k c = (lock : LockView) (n : ℕ) (homes : Homes S) (cores : List (CorePart B)) → get_elem? cores k ≡ some c → beside n homes cores n homes (set cores k (after_loss lock c))

  abbrev pub Taking : (S → ℕ) → Change → ℕ → CorePart B → Type 0
  Taking room beside k c = (y : S) (lock : LockView) (cores : List (CorePart B)) → Lock 0 (some (Some y) ∷ []) cores → get_elem? cores k ≡ some c → beside 0 (some (Some y) ∷ []) cores 1 (none ∷ []) (set cores k (after_take (past y) (room y) lock c))

  abbrev pub Giving : Change → ℕ → CorePart B → S → Type 0
  Giving beside k c y = (lock : LockView) (cores : List (CorePart B)) → Lock 1 (none ∷ []) cores → get_elem? cores k ≡ some c → beside 1 (none ∷ []) cores 0 (some (Some y) ∷ []) (set cores k (after_give (past y) k lock c))

  pub taken_core : (room n : ℕ) (homes : Homes S) (cores : List (CorePart B)) (k : ℕ) (c : CorePart B) (lock : LockView) (r : Lock n homes cores) → get_elem? cores k ≡ some c → ((j : ℕ) (u : CorePart B) → get_elem? cores j ≡ some u → u.taken ≡ None)
      → Lock 1 (none ∷ []) (set cores k (after_take r.history room lock c))
  taken_core room n homes cores k c lock r at nobody = let h = r.history in let w = after_take h room lock c in record {
    history = h;
    legal = r.legal;
    fits = all_set (λ j u. Fits h (account_at j u)) cores k w (record { seen = starts_whole h; mine = (r.fits k c at).mine }) (λ j u _ e. r.fits j u e);
    all = length-set cores k w ∙ r.all;
    strangers = r.strangers;
    knows = all_set (λ _ u. u.first ≡ first) cores k w (r.knows k c at) (λ j u _ e. r.knows j u e);
    who = inr (record {
      word_is = refl;
      slot_is = refl;
      holder = k;
      holds = (w, set_here cores k w (at_below cores k c at), refl);
      others = λ j u other e. nobody j u (sym (set_else cores k j w other) ∙ e);
    });
  }

  -- the thread that has the kernel: the core is taken, by it, and the common history is the one that it found
  pub holder_is : (n : ℕ) (homes : Homes S) (cores : List (CorePart B)) (k : ℕ) (c : CorePart B) (h : History) (r : Lock n homes cores) → get_elem? cores k ≡ some c → c.taken ≡ Some h
      → IsTaken r.history n homes cores × (r.history ≡ h) × ((j : ℕ) (u : CorePart B) → j ≢ k → get_elem? cores j ≡ some u → u.taken ≡ None)
  holder_is n homes cores k c h r at has = ⊎_elim
      (λ (f : IsFree past comes first r.history n homes cores). absurd (none_some h c.taken has (f.nobody k c at)))
      (λ (t : IsTaken r.history n homes cores). dite (ℕ_discrete k t.holder)
      (λ same.
      let both : c ≡ t.holds.0 = some-injective c t.holds.0 (sym at ∙ (ap (get_elem? cores) same ∙ t.holds.1)) in (
        t,
        same_Some r.history h (sym t.holds.2 ∙ (sym (ap (λ (u : CorePart B). u.taken) both) ∙ has)),
        λ j u other e. t.others j u (λ there. other (there ∙ sym same)) e,
      ))
      (λ other. absurd (none_some h c.taken has (t.others k c other at))))
      r.who

  pub given_core : (n : ℕ) (homes : Homes S) (cores : List (CorePart B)) (k : ℕ) (c : CorePart B) (lock : LockView) (added : List Entry) (y : S) (r : Lock n homes cores) → get_elem? cores k ≡ some c
      → MadeBy k added → GoesOn r.history added (past y) → comes first y → ((j : ℕ) (u : CorePart B) → j ≢ k → get_elem? cores j ≡ some u → u.taken ≡ None)
      → Lock 0 (some (Some y) ∷ []) (set cores k (after_give (past y) k lock c))
  given_core n homes cores k c lock added y r at own longer from nobody = let h = past y in let w = after_give h k lock c in record {
    history = h;
    legal = goes_on_legal r.history h added r.legal longer;
    fits = all_set (λ j u. Fits h (account_at j u)) cores k w (record { seen = starts_whole h; mine = refl }) (λ j u other e. fits_longer r.history h added k (account_at j u) longer own other (r.fits j u e));
    all = length-set cores k w ∙ (r.all ∙ sym (goes_on_threads r.history h added longer));
    strangers = strangers_more r.history h added k longer own (let within = at_below cores k c at in let crew = r.all in omega arith) r.strangers;
    knows = all_set (λ _ u. u.first ≡ first) cores k w (r.knows k c at) (λ j u _ e. r.knows j u e);
    who = inl (record {
      word_is = refl;
      kernel = y;
      past_is = refl;
      comes_from = from;
      slot_is = refl;
      nobody = all_set (λ _ u. u.taken ≡ None) cores k w refl nobody;
    });
  }

  -- at the opening the kernel lies in the slot, and no thread has made a call
  pub opens_core : (y : S) (n : ℕ) → n ≡ threads_of (past y) → IsLegal (past y) → (past y).entries ≡ [] → comes first y → Lock 0 (some (Some y) ∷ []) (replicate n (newcomer_part (past y) first))
  opens_core y n all legal none_yet from = let h = past y in let one = newcomer_part h first in record {
    history = h;
    legal = legal;
    fits = λ k c at. subst (λ (u : CorePart B). Fits h (account_at k u)) (at_replicate n k one c at) (record { seen = starts_whole h; mine = ap (calls_by k) none_yet });
    all = length-replicate n one ∙ all;
    strangers = λ t far. ap (calls_by t) none_yet;
    knows = λ k c at. sym (ap (λ (u : CorePart B). u.first) (at_replicate n k one c at));
    who = inl (record {
      word_is = refl;
      kernel = y;
      past_is = refl;
      comes_from = from;
      slot_is = refl;
      nobody = λ k c at. sym (ap (λ (u : CorePart B). u.taken) (at_replicate n k one c at));
    });
  }

  pub opens_ruled : (y : S) (n : ℕ) → n ≡ threads_of (past y) → IsLegal (past y) → (past y).entries ≡ [] → comes first y → Ruled 0 (some (Some y) ∷ []) (replicate n (newcomer_part (past y) first))
  opens_ruled y n all legal none_yet from = ([], opens_core y n all legal none_yet from, lock_opens (past y) first n)

  -- where the core is taken, the account of each thread fits the history that its holder took
  pub all_fit : (n : ℕ) (homes : Homes S) (cores : List (CorePart B)) (k : ℕ) (c : CorePart B) (h : History) → Lock n homes cores → get_elem? cores k ≡ some c → c.taken ≡ Some h
      → (j : ℕ) (u : CorePart B) → get_elem? cores j ≡ some u → Fits h (account_at j u)
  all_fit n homes cores k c h r at has j u there = subst (λ (z : History). Fits z (account_at j u)) (holder_is n homes cores k c h r at has).1 (r.fits j u there)
