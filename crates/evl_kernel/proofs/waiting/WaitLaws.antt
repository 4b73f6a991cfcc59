-- In every legal history the waits are proper: queues, waits, the ready list and deadlines agree.
use Rattle.std.proofs.Common.{◌≡◌, ℕ, zero, suc, ◌==◌, ◌⊎◌, inl, inr, Bool, true, false, not, ◌&&◌, ◌||◌, List, [], ◌∷◌, Option, Some, None, is_none, slice_set, slice_index_or, refl, sym, ap, ◌∙◌, subst}
use Rattle.std.specs.Option.{option_map, option_map_or}
use Rattle.std.proofs.lemmas.Bool.{false≢true, eqb-true, or_from}
use Rattle.std.proofs.lemmas.Option.{none-some}
use Rattle.std.proofs.Math.Bool.{and-true}
use Rattle.evl_base.proofs.Plain.{eqb-swap_false}
use Rattle.evl_base.specs.declared.reply.Reply.{Reply}
use Rattle.evl_clock.specs.Clocks.{deadline_at}
use Rattle.evl_sched.specs.Threads.{Sched, is_oob, is_ready, readied, stage_of}
use Rattle.evl_sched.proofs.ReadyLaws.{ready-other}
use Rattle.evl_kernel.specs.declared.waits.Awaited.{Awaited}
use Rattle.evl_kernel.specs.declared.waits.Wait.{Wait}
use Rattle.evl_kernel.specs.state.States.{State, with_clock, with_sched, with_waits}
use Rattle.evl_kernel.specs.calls.Elements.{elements}
use Rattle.evl_kernel.specs.waiting.Waits.{wait_of, wait_at, going_on, ended_by, woken}
use Rattle.evl_kernel.specs.histories.WaitInvariant.{WaitsAreProper, is_blocked}
use Rattle.evl_kernel.specs.waiting.Standing.{AreSound, stands_for}
use Rattle.evl_kernel.proofs.waiting.ReadyLaws.{ReadyAnew, ready-as}
use Rattle.evl_kernel.proofs.waiting.WaitRecords.{index_there}

-- what is at a place that was set: what was set there, or nothing
pub index_set : {A : Type 0} (xs : List (Option A)) (m : ℕ) (v : Option A) → (slice_index_or (slice_set xs m v) m None ≡ v) ⊎ (slice_index_or (slice_set xs m v) m None ≡ None)
index_set [] m v = inr refl
index_set (x ∷ xs) zero v = inl refl
index_set (x ∷ xs) (suc m) v = index_set xs m v

-- the thread has another wait now, and all others the same
module _ (s : State) (thread : ℕ) (wait : Option Wait) where
  pub wait_there : (t : ℕ) → (t == thread) ≡ false → wait_of (slice_set s.waits thread wait) t ≡ wait_at s t
  wait_there t ne = index_there s.waits thread t wait None (eqb-swap_false t thread ne)

-- all is proper beside these threads
pub record ProperBeside (s : State) (others : ℕ → Bool) : Type 0 where
  pub sound : AreSound (elements s)
  pub stands : (on : Awaited) (t : ℕ) → others t ≡ false → stands_for (elements s) on t ≡ true → wait_at s t ≡ Some (going_on on)
  pub waits : (on : Awaited) (t : ℕ) → others t ≡ false → wait_at s t ≡ Some (going_on on) → stands_for (elements s) on t ≡ true
  pub ready : (t : ℕ) → others t ≡ false → is_ready s.sched t ≡ (is_oob (stage_of s.sched t) && not (is_blocked s t))
  pub dated : (t date : ℕ) → others t ≡ false → deadline_at s.clock t ≡ Some date → is_blocked s t ≡ true

pub proper_beside : (s : State) (others : ℕ → Bool) → WaitsAreProper s → ProperBeside s others
proper_beside s others h = record {
  sound = h.sound;
  stands = λ on t ne. h.stands on t;
  waits = λ on t ne. h.waits on t;
  ready = λ t ne. h.ready t;
  dated = λ t date ne. h.dated t date;
}

-- beside none: all is proper
pub proper_all : (s : State) → ProperBeside s (λ t. false) → WaitsAreProper s
proper_all s h = record {
  sound = h.sound;
  stands = λ on t. h.stands on t refl;
  waits = λ on t. h.waits on t refl;
  ready = λ t. h.ready t refl;
  dated = λ t date. h.dated t date refl;
}

-- Whatever becomes of a thread that is in no queue, where its wait doesn't go on, it is ready as its stage says, and it has
-- no deadline.
module _ (s : State) (thread : ℕ) (others : ℕ → Bool) (h : ProperBeside s (λ t. (thread == t) || others t)) (away : (on : Awaited) → stands_for (elements s) on thread ≡ false)
    (waits : List (Option Wait)) (beside : (t : ℕ) → (t == thread) ≡ false → wait_of waits t ≡ wait_at s t)
    (over : option_map_or (λ (w : Wait). is_none w.outcome) (wait_of waits thread) false ≡ false)
    (sched : Sched) (anew : ReadyAnew s.sched sched thread) (deadlines : List (Option ℕ))
    (none : (date : ℕ) → slice_index_or deadlines thread None ≡ Some date → ⊥)
    (same : (t : ℕ) → (t == thread) ≡ false → slice_index_or deadlines t None ≡ deadline_at s.clock t) where
  abbrev pub freed : State
  freed = with_sched (with_clock (with_waits s waits) (record s.clock { deadlines = deadlines })) sched

  blocked_there : (t : ℕ) → (t == thread) ≡ false → is_blocked freed t ≡ is_blocked s t
  blocked_there t ne = ap (λ (o : Option Wait). option_map_or (λ (w : Wait). is_none w.outcome) o false) (beside t ne)

  apart : (t : ℕ) → (t == thread) ≡ false → others t ≡ false → ((thread == t) || others t) ≡ false
  apart t ne other = or_from (thread == t) (others t) (eqb-swap_false t thread ne) other

  pub proper_freed : ProperBeside freed others
  proper_freed = record {
    sound = h.sound;
    stands = λ on t other stands. stood on t other stands (t == thread) refl;
    waits = λ on t other is. waited on t other is (t == thread) refl;
    ready = λ t other. is_ready_ t other (t == thread) refl;
    dated = λ t date other is. is_dated t date other is (t == thread) refl;
  }
    where
      stood : (on : Awaited) (t : ℕ) → others t ≡ false → stands_for (elements s) on t ≡ true → (b : Bool) → (t == thread) ≡ b → wait_of waits t ≡ Some (going_on on)
      stood on t other stands true is = absurd (false≢true (sym (away on) ∙ (ap (λ (m : ℕ). stands_for (elements s) on m) (sym (eqb-true t thread is)) ∙ stands)))
      stood on t other stands false ne = beside t ne ∙ h.stands on t (apart t ne other) stands

      never : (on : Awaited) → wait_of waits thread ≡ Some (going_on on) → ⊥
      never on is = false≢true (sym over ∙ ap (λ (o : Option Wait). option_map_or (λ (w : Wait). is_none w.outcome) o false) is)

      waited : (on : Awaited) (t : ℕ) → others t ≡ false → wait_of waits t ≡ Some (going_on on) → (b : Bool) → (t == thread) ≡ b → stands_for (elements s) on t ≡ true
      waited on t other its true is = absurd (never on (ap (wait_of waits) (sym (eqb-true t thread is)) ∙ its))
      waited on t other its false ne = h.waits on t (apart t ne other) (sym (beside t ne) ∙ its)

      is_ready_ : (t : ℕ) → others t ≡ false → (b : Bool) → (t == thread) ≡ b → is_ready sched t ≡ (is_oob (stage_of sched t) && not (is_blocked freed t))
      is_ready_ t other true is =
          subst (λ (m : ℕ). is_ready sched m ≡ (is_oob (stage_of sched m) && not (is_blocked freed m))) (sym (eqb-true t thread is))
          (anew.itself ∙ sym (ap (λ (c : Bool). is_oob (stage_of sched thread) && not c) over ∙ and-true (is_oob (stage_of sched thread))))
      is_ready_ t other false ne =
          anew.others t ne ∙ (h.ready t (apart t ne other) ∙ ((λ i. is_oob (sym (anew.stages t ne) i) && not (sym (blocked_there t ne) i))))

      is_dated : (t date : ℕ) → others t ≡ false → slice_index_or deadlines t None ≡ Some date → (b : Bool) → (t == thread) ≡ b → is_blocked freed t ≡ true
      is_dated t date other its true is = absurd (none date (ap (λ (m : ℕ). slice_index_or deadlines m None) (sym (eqb-true t thread is)) ∙ its))
      is_dated t date other its false ne = blocked_there t ne ∙ h.dated t date (apart t ne other) (sym (same t ne) ∙ its)

abbrev pub over_if : Option Wait → Type 0
over_if o = option_map_or (λ (w : Wait). is_none w.outcome) o false ≡ false

-- what is set is over, and so is what is there then
pub over_set : (waits : List (Option Wait)) (thread : ℕ) (wait : Option Wait) → over_if wait → over_if (wait_of (slice_set waits thread wait) thread)
over_set waits thread wait h = by (index_set waits thread wait)
  where
    by : (wait_of (slice_set waits thread wait) thread ≡ wait) ⊎ (wait_of (slice_set waits thread wait) thread ≡ None) → over_if (wait_of (slice_set waits thread wait) thread)
    by (inl is) = ap (λ (o : Option Wait). option_map_or (λ (w : Wait). is_none w.outcome) o false) is ∙ h
    by (inr is) = ap (λ (o : Option Wait). option_map_or (λ (w : Wait). is_none w.outcome) o false) is

-- a wait ends
pub proper_woken : (s : State) (thread : ℕ) (outcome : Reply) (others : ℕ → Bool) → ProperBeside s (λ t. (thread == t) || others t) → ((on : Awaited) → stands_for (elements s) on thread ≡ false)
    → ProperBeside (woken s thread outcome) others
proper_woken s thread outcome others h away =
    proper_freed s thread others h away (slice_set s.waits thread (option_map (ended_by outcome) (wait_at s thread))) (wait_there s thread (option_map (ended_by outcome) (wait_at s thread)))
    (over_set s.waits thread (option_map (ended_by outcome) (wait_at s thread)) (over_now (wait_at s thread))) (readied s.sched thread)
    (record { itself = ready-as s.sched thread; others = λ t ne. ready-other s.sched thread t ne; stages = λ t ne. refl })
    (slice_set s.clock.deadlines thread None) none (λ t ne. index_there s.clock.deadlines thread t None None (eqb-swap_false t thread ne))
  where
    over_now : (o : Option Wait) → over_if (option_map (ended_by outcome) o)
    over_now None = refl
    over_now (Some w) = refl

    none : (date : ℕ) → slice_index_or (slice_set s.clock.deadlines thread None) thread None ≡ Some date → ⊥
    none date is = by (index_set s.clock.deadlines thread None)
      where
        by : (slice_index_or (slice_set s.clock.deadlines thread None) thread None ≡ None) ⊎ (slice_index_or (slice_set s.clock.deadlines thread None) thread None ≡ None) → ⊥
        by (inl nothing) = none-some _ (sym nothing ∙ is)
        by (inr nothing) = none-some _ (sym nothing ∙ is)
