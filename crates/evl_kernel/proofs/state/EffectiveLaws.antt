-- The ranks and the rings that the recorded owners of a board's threads compute are those over all threads.
use Rattle.std.proofs.Common.{◌≡◌, ◌<◌, ◌≤◌, ℕ, suc, Bool, true, false, List, [], ◌∷◌, length, find, Option, Some, None, is_some, option_and_then, if◌then◌else◌, refl, sym, ap, ◌∙◌, arith}
use Rattle.evl_base.specs.Limits.{thread_limit}
use Rattle.evl_mutex.specs.Chains.{HasNoRing, reaches, waits_for}
use Rattle.evl_mutex.specs.Mutexes.{Mutex, is_waited_for_by}
use Rattle.evl_mutex.specs.Owners as owners
use Rattle.evl_mutex.proofs.ChainLaws.{reaches-complete, reaches-sound}
use Rattle.evl_sched.specs.Ranks as ranks
use Rattle.evl_sched.specs.Threads.{is_attached}
use Rattle.evl_kernel.specs.declared.waits.Awaited.TheVariants.{Mutex as OnMutex}
use Rattle.evl_kernel.specs.waiting.Beginnings.{waits_back}
use Rattle.evl_kernel.specs.state.ElementsViews.{owners_of}
use Rattle.evl_kernel.specs.state.Records.{RecordsView, IsSound, state_of}
use Rattle.evl_kernel.specs.waiting.Standing.{in_mutex, stands_at}
use Rattle.evl_kernel.specs.calls.ThreadCalls.{rank_of}
use Rattle.evl_kernel.proofs.calls.HandLaws.{within}
use Rattle.evl_kernel.proofs.calls.MutexQueues.{back_is}
use Rattle.evl_kernel.proofs.state.RankLaws.{rank_told}

-- a walk of more steps than there are threads that wait finds no more
reaches-more : (next : ℕ → Option ℕ) (m n : ℕ) → HasNoRing next → ((from to : ℕ) → next from ≡ Some to → from < m) → m ≤ n → (from to : ℕ) → reaches n next from to ≡ reaches m next from to
reaches-more next m n none low more from to = by (reaches n next from to) refl (reaches m next from to) refl
  where
    wide : (a b : ℕ) → next a ≡ Some b → a < n
    wide a b is = omega (arith, low a b is, more)

    by : (x : Bool) → reaches n next from to ≡ x → (y : Bool) → reaches m next from to ≡ y → reaches n next from to ≡ reaches m next from to
    by true e y f = e ∙ sym (reaches-complete next none m low from to (reaches-sound next n from to e))
    by false e true f = reaches-complete next none n wide from to (reaches-sound next m from to f) ∙ sym f
    by false e false f = e ∙ sym f

-- each thread that waits for an owner is in a queue
waiter_stands : (ms : List Mutex) (from to : ℕ) → waits_for ms from ≡ Some to → (n : ℕ) × (stands_at in_mutex ms n from ≡ true)
waiter_stands [] from to e = absurd (none_some e)
  where
    none_some : {A : Type 0} {x : A} → None ≡ Some x → ⊥
    none_some e = cc
waiter_stands (m ∷ ms) from to e = by (waiter_stands ms from to) (is_waited_for_by from m) refl e
  where
    by : (waits_for ms from ≡ Some to → (n : ℕ) × (stands_at in_mutex ms n from ≡ true)) → (b : Bool) → is_waited_for_by from m ≡ b → option_and_then (λ x. x.owner) (if b then Some m else find (is_waited_for_by from) ms) ≡ Some to
        → (n : ℕ) × (stands_at in_mutex (m ∷ ms) n from ≡ true)
    by later true is e = (0, is)
    by later false is e = let at = later e in (suc at.0, at.1)

module _ {C : Type 0} (r : RecordsView C) (h : IsSound r) where
  abbrev mutexes_in : List Mutex
  mutexes_in = r.elements.elements.mutexes

  no_ring : HasNoRing (waits_for mutexes_in)
  no_ring = h.waits.sound.mutexes.no_ring

  -- only threads of the board wait
  low : (from to : ℕ) → waits_for mutexes_in from ≡ Some to → from < length r.elements.base
  low from to is =
      let at = waiter_stands mutexes_in from to is in
      let there : from < length r.waits = within r.waits from (ap is_some (h.waits.going (OnMutex (record { 0 = at.0 })) from at.1)) in
      omega (arith, there, h.waits.places, h.ranks.size)

  pub rank_as : (thread : ℕ) → owners.rank_of (owners_of r.elements) thread ≡ rank_of (state_of r) thread
  rank_as = rank_told (owners_of r.elements) r.sched.sched h.ranks.told no_ring low

  -- each attached thread is picked by its effective rank
  pub given_as : (thread : ℕ) → is_attached r.sched.sched thread ≡ true → ranks.rank_of r.sched thread ≡ rank_of (state_of r) thread
  given_as thread attached = h.ranks.given thread attached ∙ rank_as thread

  pub back_as : (owner thread : ℕ) → waits_back mutexes_in owner thread ≡ reaches (length r.elements.base) (waits_for mutexes_in) owner thread
  back_as owner thread = back_is mutexes_in owner thread ∙ reaches-more (waits_for mutexes_in) (length r.elements.base) thread_limit no_ring low h.ranks.told.few owner thread
