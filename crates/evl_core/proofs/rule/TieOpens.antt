-- The ties of a new table: each word is 0, and nothing is recorded.
use Rattle.std.proofs.Common.{◌≡◌, ℕ, zero, suc, false, List, [], ◌∷◌, map, replicate, Option, Some, None, is_some, slice_get, refl, sym, ap, ◌∙◌, subst, arith, ◌+◌}
use Rattle.std.proofs.lemmas.Bool.{false≢true}
use mathlib.Core.Option.{some}
use Rattle.evl_base.specs.declared.board.Board.{Board}
use Rattle.evl_base.specs.declared.mutex_kind.MutexKind.{MutexKind}
use Rattle.evl_base.specs.declared.mutex_kind.MutexKind.TheVariants.{Normal, Recursive, Ceiling}
use Rattle.evl_base.specs.declared.entry.Entry.{Entry}
use Rattle.evl_pipeline.proofs.PortLaws.{at-none}
use Rattle.evl_mutex.specs.Queues.{is_nobody}
use Rattle.evl_mutex.specs.Mutexes.{Mutex, ceiling_of, has_ceiling, opened_mutex}
use Rattle.evl_words.proofs.Sequences.{at_replicate}
use Rattle.evl_kernel.specs.declared.waits.Wait.{Wait}
use Rattle.evl_kernel.specs.state.States.{State}
use Rattle.evl_kernel.specs.state.KernelViews.{KernelView}
use Rattle.evl_kernel.specs.state.Openings.{opening}
use Rattle.evl_kernel.specs.histories.Histories.{History, IsLegal, Run, opened_kernel}
use Rattle.evl_kernel.specs.histories.MutexRests.{got_it}
use Rattle.evl_kernel.specs.calls.MutexEffects.{record_at, has_got}
use Rattle.evl_core.specs.declared.views.CorePart.{CorePart}
use Rattle.evl_core.specs.accounts.Accounts.{threads_of}
use Rattle.evl_core.specs.rule.CoreRule.{newcomer_part}
use Rattle.evl_core.specs.rule.Known.{ComesFrom, ceilings_of, past_of}
use Rattle.evl_core.specs.rule.Ceilings.{has_ceiling as is_ceiled, is_ceiling}
use Rattle.evl_core.specs.rule.Ties.{AreTied, MutexTied}
use Rattle.evl_core.proofs.rule.CoreSteps.{none_some}
use Rattle.evl_core.proofs.rule.TieRule.{slot_is}

-- a mutex has a ceiling as its kind does
pub same_kind : (kind : MutexKind) → is_some (ceiling_of kind) ≡ is_ceiling kind
same_kind Normal = refl
same_kind Recursive = refl
same_kind (Ceiling prio) = refl

opened_at : (kinds : List MutexKind) (i : ℕ) (m : Mutex) → slice_get (map opened_mutex kinds) i ≡ Some m → (has_ceiling m ≡ is_ceiled (slice_get kinds i)) × (m.owner ≡ None) × (m.waiters ≡ [])
opened_at [] zero m at = absurd (cc)
opened_at [] (suc i) m at = absurd (cc)
opened_at (kind ∷ kinds) zero m at = let is : opened_mutex kind ≡ m = cc in subst (λ (q : Mutex). (has_ceiling q ≡ is_ceiling kind) × (q.owner ≡ None) × (q.waiters ≡ [])) is (same_kind kind, refl, refl)
opened_at (kind ∷ kinds) (suc i) m at = opened_at kinds i m at

pub opens_tied : (h : History) → IsLegal h → h.entries ≡ [] → (i : ℕ) → AreTied (λ j. is_ceiled (slice_get h.board.mutexes.items j)) h.state i 0
opens_tied h legal none_yet i m at = (
  o.0,
  record {
    owner = record {
      named = λ n e. absurd (some_none m.owner e o.1);
      marked = λ e. absurd (false≢true (sym e ∙ ap is_nobody o.2));
      raised = λ e some. absurd (false≢true (sym (ap is_some o.1) ∙ some));
      ceiled = λ has n e. absurd (let z : 0 ≡ n + 1 = e in omega arith);
      peopled = λ e. absurd (false≢true e);
    };
    offer = λ t. sym (got t);
  },
)
  where
    some_none : {x : ℕ} (y : Option ℕ) → y ≡ Some x → y ≡ None → ⊥
    some_none y e f = let g = sym e ∙ f in absurd (cc)

    state : h.state ≡ opening h.board h.bank
    state = by h.entries none_yet legal
      where
        by : (es : List Entry) → es ≡ [] → Run (opened_kernel h) es h.plays h.state → h.state ≡ opened_kernel h
        by [] e run = run.1
        by (x ∷ xs) e run = absurd (cc)

    o : (has_ceiling m ≡ is_ceiled (slice_get h.board.mutexes.items i)) × (m.owner ≡ None) × (m.waiters ≡ [])
    o = opened_at h.board.mutexes.items i m (sym (ap (λ (s : State). record_at s i) state) ∙ at)

    got : (t : ℕ) → has_got h.state i t ≡ false
    got t = ap (λ (s : State). has_got s i t) state ∙ ap (got_it i) (at-none {A = Wait} h.board.threads t)

-- so the opening of the one table owes nothing more
pub opens_ties : {S B : Type 0} (past : S → History) (first : B) (y : S) (n : ℕ) → IsLegal (past y) → (past y).entries ≡ [] → (i : ℕ)
    → MutexTied past (λ j. is_ceiled (slice_get (past y).board.mutexes.items j)) i 0 (some (Some y) ∷ []) (replicate n (newcomer_part (past y) first)) 0
opens_ties {S} {B} past first y n legal none_yet i = record {
  free = λ z e. subst (λ (x : S). AreTied (λ j. is_ceiled (slice_get (past y).board.mutexes.items j)) (past x).state i 0) (slot_is y z e) (opens_tied (past y) legal none_yet i);
  taken = λ k c h at has. absurd (none_some h c.taken has (sym (ap (λ (u : CorePart B). u.taken) (at_replicate n k (newcomer_part (past y) first) c at))));
}

-- so the opening over a kernel that has come from the first one owes nothing more
pub opens_as_first : {C : Type 0} (k first : KernelView C) → ComesFrom first k → IsLegal k.history → k.history.entries ≡ [] → (i : ℕ)
    → MutexTied past_of (ceilings_of first) i 0 (some (Some k) ∷ []) (replicate (threads_of k.history) (newcomer_part k.history first)) 0
opens_as_first {C} k first from legal none_yet i =
    subst (λ (b : Board). MutexTied past_of (λ j. is_ceiled (slice_get b.mutexes.items j)) i 0 (some (Some k) ∷ []) (replicate (threads_of k.history) (newcomer_part k.history first)) 0) from.board
    (opens_ties past_of first k (threads_of k.history) legal none_yet i)
