-- The thread that has the kernel makes a step on a mutex's word and notes what it left there, or a take is lost. The core's part of the rule stays.
use Rattle.std.proofs.Common.{◌≡◌, ◌≢◌, inl, inr, ⊎_elim, ℕ, List, set, None, refl, sym, ap, ◌∙◌, subst, length-set}
use mathlib.Core.Option.{some, some-injective}
use mathlib.Core.Logic.{dite}
use native.Mathlib.Decide.{ℕ_discrete}
use lib.ListN.{get_elem?}
use Rattle.atomic_table.proofs.Lists.{at_set, set_here, set_else}
use Rattle.evl_kernel.specs.histories.Histories.{History}
use Rattle.evl_words.proofs.Sequences.{at_below}
use Rattle.evl_core.specs.declared.views.CorePart.{CorePart}
use Rattle.evl_core.specs.accounts.Accounts.{Fits}
use Rattle.evl_core.specs.lock.Lock.{LockView}
use Rattle.evl_core.specs.rule.CoreRule.{CoreKept, IsFree, IsTaken, Homes, account_at, after_loss, noting}

-- a thread's part changes in what the rule doesn't read: what it has taken, what it was made with, and what it knows of the kernel stay
pub same_core : {S B : Type 0} (past : S → History) (comes : B → S → Type 0) (first : B) (n : ℕ) (homes : Homes S) (cores : List (CorePart B)) (k : ℕ) (c w : CorePart B) → w.taken ≡ c.taken → w.first ≡ c.first → ((h : History) → Fits h (account_at k c) → Fits h (account_at k w))
    → CoreKept past comes first n homes cores → get_elem? cores k ≡ some c → CoreKept past comes first n homes (set cores k w)
same_core {S} {B} past comes first n homes cores k c w taken made fit r at = record {
  history = r.history;
  legal = r.legal;
  fits = λ j u e. by (λ j u. Fits r.history (account_at j u)) (fit r.history (r.fits k c at)) (λ j u _ e. r.fits j u e) j u e;
  all = length-set cores k w ∙ r.all;
  strangers = r.strangers;
  knows = λ j u e. by (λ _ u. u.first ≡ first) (made ∙ r.knows k c at) (λ j u _ e. r.knows j u e) j u e;
  who = ⊎_elim
      (λ (f : IsFree past comes first r.history n homes cores). inl (record {
        word_is = f.word_is;
        kernel = f.kernel;
        past_is = f.past_is;
        comes_from = f.comes_from;
        slot_is = f.slot_is;
        nobody = λ j u e. by (λ _ u. u.taken ≡ None) (taken ∙ f.nobody k c at) (λ j u _ e. f.nobody j u e) j u e;
      }))
      (λ (t : IsTaken r.history n homes cores). inr (record {
        word_is = t.word_is;
        slot_is = t.slot_is;
        holder = t.holder;
        holds = dite (ℕ_discrete t.holder k)
            (λ (same : t.holder ≡ k).
            let is : t.holds.0 ≡ c = some-injective t.holds.0 c (sym t.holds.1 ∙ ap (get_elem? cores) same ∙ at) in
            (w, ap (get_elem? (set cores k w)) same ∙ set_here cores k w (at_below cores k c at), taken ∙ ap (λ (x : CorePart B). x.taken) (sym is) ∙ t.holds.2))
            (λ (other : t.holder ≢ k). (t.holds.0, set_else cores k t.holder w other ∙ t.holds.1, t.holds.2));
        others = λ j u ne e. by (λ j u. j ≢ t.holder → u.taken ≡ None) (λ far. taken ∙ t.others k c far at) (λ j u _ e far. t.others j u far e) j u e ne;
      }))
      r.who;
}
  where
    by : (P : ℕ → CorePart B → Type 0) → P k w → ((j : ℕ) (u : CorePart B) → j ≢ k → get_elem? cores j ≡ some u → P j u) → (j : ℕ) (u : CorePart B) → get_elem? (set cores k w) j ≡ some u → P j u
    by P mine rest j u e = ⊎_elim
        (λ (t : (j ≡ k) × (w ≡ u)). subst (λ (x : ℕ × CorePart B). P x.0 x.1) (λ i. (sym t.0 i, t.1 i)) mine)
        (λ (t : (j ≢ k) × (get_elem? cores j ≡ some u)). rest j u t.0 t.1)
        (at_set cores k j w u e)

pub noted_core : {S B : Type 0} (past : S → History) (comes : B → S → Type 0) (first : B) (n : ℕ) (homes : Homes S) (cores : List (CorePart B)) (k : ℕ) (c : CorePart B) (i left : ℕ) → CoreKept past comes first n homes cores → get_elem? cores k ≡ some c
    → CoreKept past comes first n homes (set cores k (noting i left c))
noted_core past comes first n homes cores k c i left r at = same_core past comes first n homes cores k c (noting i left c) refl refl (λ h f. f) r at

-- a take that found the core taken is counted
pub lost_core : {S B : Type 0} (past : S → History) (comes : B → S → Type 0) (first : B) (n : ℕ) (homes : Homes S) (cores : List (CorePart B)) (k : ℕ) (c : CorePart B) (lock : LockView) → CoreKept past comes first n homes cores → get_elem? cores k ≡ some c
    → CoreKept past comes first n homes (set cores k (after_loss lock c))
lost_core past comes first n homes cores k c lock r at = same_core past comes first n homes cores k c (after_loss lock c) refl refl (λ h f. record { seen = f.seen; mine = f.mine }) r at
