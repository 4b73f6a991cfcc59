-- The dues of a step on a mutex's word by the thread that has the kernel: the token is of it, the word is one of its words, and the table's rule is kept.
use Rattle.std.proofs.Common.{◌≡◌, true, ℕ, ◌+◌, ◌<◌, List, length, Option, refl, sym, subst, arith}
use mathlib.Core.Option.{none}
use Rattle.atomic_table.specs.Seated.{TableId}
use Rattle.atomic_table.specs.Table.{Allows, Step, step}
use Rattle.evl_kernel.specs.state.KernelViews.{KernelView}
use Rattle.evl_words.specs.declared.mutex.place.MutexPlace.{MutexPlace}
use Rattle.evl_words.specs.MutexWorld.{MutexDoes, MutexKind, MutexView, step_may, step_word}
use Rattle.evl_words.specs.Parts.{Tells}
use Rattle.evl_core.specs.rule.Known.{KernelMe, KeptKnown, by_holder, ceilings_of}
use Rattle.evl_core.specs.words.MutexTokens.{HasKernelFor, IsAtTable}
use Rattle.evl_core.specs.rule.ThreadRule.{mutex_of}
use Rattle.evl_core.specs.worlds.OneWorld.{needs_kernel}
use Rattle.evl_core.proofs.words.MutexTokens.{marks_held}

module _ {C : Type 0} (table : TableId) (first : KernelView C) (at : TableId) (id : ℕ) (me : KernelMe C) (ps : List MutexPlace) (t : IsAtTable table first at me.0 ps) (i w : ℕ) (e : w ≡ i) (there : i < length ps) (holder : HasKernelFor i me.0) where
  -- by a step of this kind, with these operands
  pub held_due : (kind : MutexKind) → needs_kernel (ceilings_of first i) kind ≡ true → step_may t.its.number (mutex_of i t.its.thread) kind → (a b : ℕ) → (tells : Tells (Option (KernelView C)) MutexView)
      → ((found : ℕ) (u : MutexView) → MutexDoes t.its.number (mutex_of i t.its.thread) kind found u → tells (step table.slots (1 + i) a b none) t.its.number (mutex_of i t.its.thread, me.1) found (u, me.1))
      → (f : Step (Option (KernelView C)) → ℕ → ℕ) → ((n : ℕ) → step_word n t.its.number (mutex_of i t.its.thread) kind ≡ f (step table.slots (1 + i) a b none) n)
      → (at ≡ table) × (1 + w < table.words) × Allows (KeptKnown first) table.slots id me (1 + w) (f (step table.slots (1 + w) a b none)) (by_holder kind f tells (step table.slots (1 + w) a b none) me)
  held_due kind needs may a b tells weaker f same = (
    t.same,
    omega (arith, e, there, t.words),
    subst (λ n. Allows (KeptKnown first) table.slots id me (1 + n) (f (step table.slots (1 + n) a b none)) (by_holder kind f tells (step table.slots (1 + n) a b none) me)) (sym e)
        (marks_held first table.slots id t.its.number t.its.thread me t.its.one i (omega (arith, there, t.all)) holder kind needs may (step table.slots (1 + i) a b none) refl tells weaker f same),
  )
