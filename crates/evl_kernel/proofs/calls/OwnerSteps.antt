-- The threads recorded at a mutex after a step of it: those that were, and those that the step names.
use Rattle.std.proofs.Common.{◌≡◌, ℕ, ◌==◌, ◌⊎◌, inl, inr, Bool, true, false, not, ◌&&◌, ◌||◌, List, [], ◌∷◌, Some, None, is_some, Ok, Err, slice_get, if◌then◌else◌, refl, sym, ap, ◌∙◌, subst}
use Rattle.std.specs.Option.{option_map_or}
use Rattle.std.proofs.lemmas.Bool.{false≢true, and_parts, eqb-true, or_cases, or_left, or_right}
use Rattle.evl_base.specs.declared.refusal.Refusal.TheVariants.{Busy, Invalid, NotOwner}
use Rattle.evl_base.specs.declared.reply.Reply.{Reply}
use Rattle.evl_mutex.specs.declared.waiter.Waiter.{Waiter}
use Rattle.evl_mutex.specs.Queues.{dropped_from, enqueued_by_rank, is_nobody, stands_in}
use Rattle.evl_mutex.specs.Mutexes as mutex
use Rattle.evl_mutex.specs.Mutexes.{Mutex, has_ceiling, is_open_to, is_owned_by, is_waited_for_by}
use Rattle.evl_mutex.proofs.QueueLaws.{stands-dropped, stands-enqueued}
use Rattle.evl_kernel.specs.state.States.{Elements}
use Rattle.evl_kernel.specs.calls.Effects.{Answered, done}
use Rattle.evl_kernel.specs.calls.Semaphores.{semaphore}
use Rattle.evl_kernel.specs.calls.FlagGroups.{flag_group}
use Rattle.evl_kernel.specs.calls.CrossBuffers.{cross_buffer}
use Rattle.evl_kernel.specs.calls.Mutexes as step
use Rattle.evl_kernel.specs.calls.Mutexes.{MutexStep, handed_told, mutex as machine}
use Rattle.evl_kernel.specs.calls.Elements.{ElementStep, element, on_sem, on_flags, on_xbuf, on_mutex}
use Rattle.evl_kernel.specs.waiting.Standing.{in_mutex}
use Rattle.evl_kernel.specs.histories.OwnerInvariant.{is_recorded}
use Rattle.evl_kernel.proofs.calls.ElementSteps.{err_ok, nth-made, ok_is}
use Rattle.evl_kernel.proofs.calls.QueueSteps.{all_at}

-- whatever is said of threads
module _ (A : ℕ → Type 0) where
  -- it is true of all who are recorded at the mutex
  abbrev pub OfRecorded : Mutex → Type 0
  OfRecorded m = (t : ℕ) → is_recorded m t ≡ true → A t

  -- at all mutexes
  abbrev pub OfAll : List Mutex → Type 0
  OfAll ms = (n : ℕ) (m : Mutex) → slice_get ms n ≡ Some m → OfRecorded m

  -- of whom a step names
  abbrev pub OfNamed : MutexStep → Type 0
  OfNamed (step.claim w owner) = A w.thread × A owner
  OfNamed (step.release thread) = Unit {0}
  OfNamed (step.raise thread) = A thread
  OfNamed (step.drop thread) = Unit {0}

  abbrev pub OfNewcomers : ElementStep → Type 0
  OfNewcomers (on_mutex n made) = OfNamed made
  OfNewcomers _ = Unit {0}

  module _ (m : Mutex) (h : OfRecorded m) where
    waits : (t : ℕ) → stands_in t m.waiters ≡ true → A t
    waits t is = h t (or_right (is_owned_by t m) (stands_in t m.waiters) is)

    after_claim : (w : Waiter) (owner : ℕ) → A w.thread → A owner → OfRecorded (mutex.claimed_mutex m w owner)
    after_claim w owner mine its t is = by (or_cases (owner == t) (stands_in t (enqueued_by_rank w m.waiters)) is)
      where
        waiting : ((w.thread == t) ≡ true) ⊎ (stands_in t m.waiters ≡ true) → A t
        waiting (inl same) = subst A (eqb-true w.thread t same) mine
        waiting (inr stood) = waits t stood

        by : ((owner == t) ≡ true) ⊎ (stands_in t (enqueued_by_rank w m.waiters) ≡ true) → A t
        by (inl same) = subst A (eqb-true owner t same) its
        by (inr stands) = waiting (or_cases (w.thread == t) (stands_in t m.waiters) (sym (stands-enqueued w m.waiters t) ∙ stands))

    after_release : OfRecorded (mutex.released_mutex m).after
    after_release = by m.waiters refl
      where
        by : (ws : List Waiter) → m.waiters ≡ ws → OfRecorded (mutex.handed_to m ws).after
        by [] are t is = absurd (false≢true is)
        by (w ∷ ws) are t is = waits t (ap (stands_in t) are ∙ stood (not (is_nobody ws) || has_ceiling m) is)
          where
            stood : (b : Bool) → (option_map_or (λ (o : ℕ). o == t) (if b then Some w.thread else None) false || stands_in t ws) ≡ true → stands_in t (w ∷ ws) ≡ true
            stood true e = e
            stood false e = or_right (w.thread == t) (stands_in t ws) e

    after_raise : (thread : ℕ) → A thread → OfRecorded (mutex.raised_mutex m thread)
    after_raise thread its t is = by (or_cases (thread == t) (stands_in t m.waiters) is)
      where
        by : ((thread == t) ≡ true) ⊎ (stands_in t m.waiters ≡ true) → A t
        by (inl same) = subst A (eqb-true thread t same) its
        by (inr stood) = waits t stood

    after_drop : (thread : ℕ) → OfRecorded (mutex.drop_waiter thread m)
    after_drop thread t is = by (is_nobody (dropped_from thread m.waiters) && not (has_ceiling m)) is
      where
        stood : stands_in t (dropped_from thread m.waiters) ≡ true → A t
        stood e = waits t ((and_parts (not (t == thread)) (stands_in t m.waiters) (sym (stands-dropped thread m.waiters t) ∙ e)).1)

        owned : (is_owned_by t m ≡ true) ⊎ (stands_in t (dropped_from thread m.waiters) ≡ true) → A t
        owned (inl e) = h t (or_left (is_owned_by t m) (is_waited_for_by t m) e)
        owned (inr e) = stood e

        by : (b : Bool) → (option_map_or (λ (o : ℕ). o == t) (if b then None else m.owner) false || stands_in t (dropped_from thread m.waiters)) ≡ true → A t
        by true e = stood e
        by false e = owned (or_cases (is_owned_by t m) (stands_in t (dropped_from thread m.waiters)) e)

  left_is : (x p : Mutex) (said reply : Reply) → ◌≡◌ {A = Answered Mutex} (Ok (said, x)) (Ok (reply, p)) → OfRecorded x → OfRecorded p
  left_is x p said reply made h = subst OfRecorded (ap (λ (y : Reply × Mutex). y.1) (ok_is made)) h

  after_step : (m p : Mutex) (reply : Reply) (made : MutexStep) → machine m made ≡ Ok (reply, p) → OfNamed made → OfRecorded m → OfRecorded p
  after_step m p reply (step.claim w owner) is named h = left_is (mutex.claimed_mutex m w owner) p _ reply is (after_claim m h w owner named.0 named.1)
  after_step m p reply (step.release thread) is named h = by (is_open_to thread m) is
    where
      by : (b : Bool) → if◌then◌else◌ {A = Answered Mutex} b (Ok (handed_told (mutex.released_mutex m), (mutex.released_mutex m).after)) (Err NotOwner) ≡ Ok (reply, p) → OfRecorded p
      by true e = left_is (mutex.released_mutex m).after p _ reply e (after_release m h)
      by false e = absurd (err_ok e)
  after_step m p reply (step.raise thread) is named h = by (has_ceiling m) (is_some m.owner) is
    where
      by : (b c : Bool) → if◌then◌else◌ {A = Answered Mutex} b (if◌then◌else◌ {A = Answered Mutex} c (Err Busy) (done (mutex.raised_mutex m thread))) (Err Invalid) ≡ Ok (reply, p) → OfRecorded p
      by true true e = absurd (err_ok e)
      by true false e = left_is (mutex.raised_mutex m thread) p _ reply e (after_raise m h thread named)
      by false c e = absurd (err_ok e)
  after_step m p reply (step.drop thread) is named h = left_is (mutex.drop_waiter thread m) p _ reply is (after_drop m h thread)

  -- at all mutexes after a step of any element
  pub all_after : (e after : Elements) (reply : Reply) (made : ElementStep) → element e made ≡ Ok (reply, after) → OfNewcomers made → OfAll e.mutexes → OfAll after.mutexes
  all_after e after reply (on_sem n one) is named h = subst (λ (x : Elements). OfAll x.mutexes) (nth-made semaphore (λ qs. record e { sems = qs }) e.sems n one reply after is).after_is h
  all_after e after reply (on_flags n one) is named h = subst (λ (x : Elements). OfAll x.mutexes) (nth-made flag_group (λ fs. record e { flags = fs }) e.flags n one reply after is).after_is h
  all_after e after reply (on_xbuf n one) is named h = subst (λ (x : Elements). OfAll x.mutexes) (nth-made cross_buffer (λ xs. record e { xbufs = xs }) e.xbufs n one reply after is).after_is h
  all_after e after reply (on_mutex n one) is named h =
      let made = nth-made machine (λ ms. record e { mutexes = ms }) e.mutexes n one reply after is in
      subst (λ (x : Elements). OfAll x.mutexes) made.after_is
      (all_at in_mutex e.mutexes n made.before made.left made.here OfRecorded h (after_step made.before made.left reply one made.made named (h n made.before made.here)))
