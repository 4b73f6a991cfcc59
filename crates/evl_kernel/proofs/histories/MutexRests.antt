-- The steps by which waiters alone leave a mutex: ends of waits, and each step of another element.
use Rattle.std.proofs.Common.{◌≡◌, ◌≤◌, ◌⊎◌, ⊎_elim, ℕ, ◌==◌, ◌&&◌, ◌||◌, Bool, true, false, not, List, [], ◌∷◌, ◌++◌, Option, Some, None, is_some, is_none, option_map, Ok, Err, slice_get, slice_set, slice_index_or, if◌then◌else◌, refl, sym, ap, ◌∙◌, subst}
use Rattle.std.specs.Option.{option_map_or}
use Rattle.std.proofs.lemmas.Bool.{false≢true, eq-eqb, eqb-true, or_right}
use Rattle.std.proofs.lemmas.Option.{same_Some}
use Rattle.std.proofs.Math.Bool.{and-false}
use Rattle.evl_base.specs.Limits.{thread_limit}
use Rattle.evl_base.specs.declared.reply.Reply.{Reply}
use Rattle.evl_base.specs.declared.reply.Reply.TheVariants.{TimedOut}
use Rattle.evl_mutex.specs.Mutexes.{Mutex as MutexRecorded, has_ceiling, ceiling_of, drop_waiter}
use Rattle.evl_mutex.specs.declared.waiter.Waiter.{Waiter}
use Rattle.evl_mutex.specs.Queues.{dropped_from, is_nobody}
use Rattle.evl_kernel.specs.declared.waits.Awaited.{Awaited}
use Rattle.evl_kernel.specs.declared.waits.Awaited.TheVariants.{Sem, Flags, Writing, Reading, Mutex}
use Rattle.evl_kernel.specs.declared.waits.Wait.{Wait}
use Rattle.evl_kernel.specs.state.States.{State, Elements}
use Rattle.evl_kernel.specs.calls.Effects.{Answered, if_done, lifted}
use Rattle.evl_kernel.specs.calls.Semaphores.{semaphore as sem_machine}
use Rattle.evl_kernel.specs.calls.FlagGroups.{flag_group}
use Rattle.evl_kernel.specs.calls.CrossBuffers.{cross_buffer}
use Rattle.evl_kernel.specs.calls.Mutexes as mutex_step
use Rattle.evl_kernel.specs.calls.Mutexes.{mutex as mutex_machine, mutex_wakes}
use Rattle.evl_kernel.specs.calls.Elements.{ElementStep, on_sem, on_flags, on_xbuf, on_mutex, element, elements, with_elements, touched, wakes}
use Rattle.evl_kernel.specs.waiting.Waits.{wait_of, wait_at, ended_by, woken, all_woken}
use Rattle.evl_kernel.specs.waiting.Endings.{drop_step, leaving_queue}
use Rattle.evl_kernel.specs.settling.Settling.{deadline_left}
use Rattle.evl_kernel.specs.waiting.Standing.{in_mutex, is_served, stands_at, stands_for}
use Rattle.evl_kernel.specs.histories.WaitInvariant.{is_blocked}
use Rattle.evl_kernel.specs.histories.MutexRests.{is_for, is_done, got_it, is_of_mutexes, left_by}
use Rattle.evl_kernel.proofs.calls.ElementSteps.{nth-made, ok_is}
use Rattle.evl_kernel.proofs.calls.QueueSteps.{Gone}
use Rattle.evl_kernel.proofs.calls.QueueLaws.{Dropped, IsAsked, asked_goes, drop_goes}
use Rattle.evl_kernel.proofs.calls.LeavesLaws.{Leaves}
use Rattle.evl_kernel.proofs.state.SetLaws.{set_here, set_there}
use Rattle.evl_kernel.proofs.waiting.ProperLaws.{IsProper}
use Rattle.evl_kernel.proofs.waiting.WaitLaws.{index_set, wait_there}

-- A wait that isn't for mutex n
abbrev pub IsElse : ℕ → Option Wait → Type 0
IsElse n wait = option_map_or (λ (w : Wait). is_for n w.on) wait false ≡ false

module _ (n : ℕ) where
  pub else_got : (o : Option Wait) → IsElse n o → got_it n o ≡ false
  else_got None e = refl
  else_got (Some w) e = ap (λ b. b && option_map_or is_done w.outcome false) e

  else_ended : (o : Option Wait) (outcome : Reply) → IsElse n o → IsElse n (option_map (ended_by outcome) o)
  else_ended None outcome e = refl
  else_ended (Some w) outcome e = e

  timed_got : (o : Option Wait) → got_it n (option_map (ended_by TimedOut) o) ≡ false
  timed_got None = refl
  timed_got (Some w) = and-false (is_for n w.on)

  going_got : (w : Wait) → w.outcome ≡ None → got_it n (Some w) ≡ false
  going_got w e = ap (λ (o : Option Reply). is_for n w.on && option_map_or is_done o false) e ∙ and-false (is_for n w.on)

  -- one thread's wait is set, where neither the old one nor the new one got the mutex
  pub got_set : (s : State) (thread : ℕ) (v : Option Wait) → got_it n (wait_at s thread) ≡ false → got_it n v ≡ false → (t : ℕ) → got_it n (wait_of (slice_set s.waits thread v) t) ≡ got_it n (wait_at s t)
  got_set s thread v old new t = by (t == thread) refl
    where
      here : got_it n (wait_of (slice_set s.waits thread v) thread) ≡ false
      here = ⊎_elim (λ (e : slice_index_or (slice_set s.waits thread v) thread None ≡ v). ap (got_it n) e ∙ new) (λ (e : slice_index_or (slice_set s.waits thread v) thread None ≡ None). ap (got_it n) e) (index_set s.waits thread v)

      by : (b : Bool) → (t == thread) ≡ b → got_it n (wait_of (slice_set s.waits thread v) t) ≡ got_it n (wait_at s t)
      by true same = subst (λ (k : ℕ). got_it n (wait_of (slice_set s.waits thread v) k) ≡ got_it n (wait_at s k)) (sym (eqb-true t thread same)) (here ∙ sym old)
      by false ne = ap (got_it n) (wait_there s thread v t ne)

  pub else_woken : (s : State) (thread : ℕ) (outcome : Reply) (t : ℕ) → IsElse n (wait_at s t) → IsElse n (wait_at (woken s thread outcome) t)
  else_woken s thread outcome t was = by (t == thread) refl
    where
      v : Option Wait
      v = option_map (ended_by outcome) (wait_at s thread)

      here : IsElse n (wait_at s thread) → IsElse n (wait_of (slice_set s.waits thread v) thread)
      here e = ⊎_elim (λ (x : slice_index_or (slice_set s.waits thread v) thread None ≡ v). subst (IsElse n) (sym x) (else_ended (wait_at s thread) outcome e)) (λ (x : slice_index_or (slice_set s.waits thread v) thread None ≡ None). subst (IsElse n) (sym x) refl) (index_set s.waits thread v)

      by : (b : Bool) → (t == thread) ≡ b → IsElse n (wait_of (slice_set s.waits thread v) t)
      by true same = subst (λ (k : ℕ). IsElse n (wait_of (slice_set s.waits thread v) k)) (sym (eqb-true t thread same)) (here (subst (λ (k : ℕ). IsElse n (wait_at s k)) (eqb-true t thread same) was))
      by false ne = subst (IsElse n) (sym (wait_there s thread v t ne)) was

-- of one mutex: the same, or only waiters left
pub record Went (m m' : MutexRecorded) : Type 0 where
  pub gone : List ℕ
  pub left : m' ≡ left_by gone m
  pub kind : m'.kind ≡ m.kind
  pub owner : (o : ℕ) → m'.owner ≡ Some o → m.owner ≡ Some o
  pub waited : is_nobody m'.waiters ≡ false → is_nobody m.waiters ≡ false
  pub held : is_nobody m'.waiters ≡ false → m'.owner ≡ m.owner
  pub stays : has_ceiling m' ≡ true → m'.owner ≡ m.owner

pub went_same : (m : MutexRecorded) → Went m m
went_same m = record { gone = []; left = refl; kind = refl; owner = λ o e. e; waited = λ e. e; held = λ e. refl; stays = λ e. refl }

-- who left first, and who left then
pub left-both : (later sooner : List ℕ) (m : MutexRecorded) → left_by (later ++ sooner) m ≡ left_by later (left_by sooner m)
left-both [] sooner m = refl
left-both (thread ∷ later) sooner m = ap (drop_waiter thread) (left-both later sooner m)

went_after : (a b c : MutexRecorded) → Went a b → Went b c → Went a c
went_after a b c x y = record { gone = y.gone ++ x.gone; left = y.left ∙ ap (left_by y.gone) x.left ∙ sym (left-both y.gone x.gone a); kind = y.kind ∙ x.kind; owner = λ o e. x.owner o (y.owner o e); waited = λ e. x.waited (y.waited e); held = λ e. y.held e ∙ x.held (y.waited e); stays = λ e. y.stays e ∙ x.stays (subst (λ k. is_some (ceiling_of k) ≡ true) y.kind e) }

none_if : (b : Bool) (x : Option ℕ) (o : ℕ) → (if b then None else x) ≡ Some o → x ≡ Some o
none_if true x o e = absurd (cc)
none_if false x o e = e

nobody_dropped : (thread : ℕ) (ws : List Waiter) → is_nobody (dropped_from thread ws) ≡ false → is_nobody ws ≡ false
nobody_dropped thread [] e = e
nobody_dropped thread (w ∷ ws) e = refl

kept_if : (b c : Bool) (x : Option ℕ) → c ≡ true → (if b && not c then None else x) ≡ x
kept_if true true x e = refl
kept_if false true x e = refl
kept_if true false x e = absurd (false≢true e)
kept_if false false x e = absurd (false≢true e)

held_if : (b c : Bool) (x : Option ℕ) → b ≡ false → (if b && not c then None else x) ≡ x
held_if false c x e = refl
held_if true c x e = absurd (false≢true (sym e))

went_dropped : (thread : ℕ) (m : MutexRecorded) → Went m (drop_waiter thread m)
went_dropped thread m = record { gone = thread ∷ []; left = refl; kind = refl; owner = λ o e. none_if (is_nobody (dropped_from thread m.waiters) && not (has_ceiling m)) m.owner o e; waited = nobody_dropped thread m.waiters; held = held_if (is_nobody (dropped_from thread m.waiters)) (has_ceiling m) m.owner; stays = kept_if (is_nobody (dropped_from thread m.waiters)) (has_ceiling m) m.owner }

-- since a state, of mutex n
abbrev pub RecordsSince : ℕ → State → State → Type 0
RecordsSince n old new = (m' : MutexRecorded) → slice_get new.elements.mutexes n ≡ Some m' → (m : MutexRecorded) × (slice_get old.elements.mutexes n ≡ Some m) × Went m m'

abbrev pub Since : ℕ → State → State → Type 0
Since n old new = RecordsSince n old new × ((t : ℕ) → got_it n (wait_at new t) ≡ got_it n (wait_at old t))

module _ (n : ℕ) where
  pub since_same : (s : State) → Since n s s
  since_same s = ((λ m e. (m, e, went_same m)), (λ t. refl))

  pub since_after : (a b c : State) → Since n a b → Since n b c → Since n a c
  since_after a b c x y = (
    (λ m e. let later = y.0 m e in let sooner = x.0 later.0 later.1 in (sooner.0, sooner.1, went_after sooner.0 later.0 m sooner.2 later.2)),
    (λ t. y.1 t ∙ x.1 t),
  )

  since_woken : (s : State) (thread : ℕ) (outcome : Reply) → got_it n (wait_at s thread) ≡ false → got_it n (option_map (ended_by outcome) (wait_at s thread)) ≡ false → Since n s (woken s thread outcome)
  since_woken s thread outcome old new = ((λ m e. (m, e, went_same m)), got_set n s thread (option_map (ended_by outcome) (wait_at s thread)) old new)

  pub since_all_woken : (s : State) (served : List (ℕ × Reply)) → ((t : ℕ) → is_served t served ≡ true → IsElse n (wait_at s t)) → Since n s (all_woken s served)
  since_all_woken s [] others = since_same s
  since_all_woken s ((thread, outcome) ∷ rest) others =
      let own : IsElse n (wait_at s thread) = others thread (ap (λ b. b || is_served thread rest) (eq-eqb thread thread refl)) in
      since_after s (woken s thread outcome) (all_woken (woken s thread outcome) rest)
      (since_woken s thread outcome (else_got n (wait_at s thread) own) (else_got n (option_map (ended_by outcome) (wait_at s thread)) (else_ended n (wait_at s thread) outcome own)))
      (since_all_woken (woken s thread outcome) rest (λ t is. else_woken n s thread outcome t (others t (or_right (thread == t) (is_served t rest) is))))

-- a step of another element leaves the mutexes
pub mutexes_stay : (e after : Elements) (reply : Reply) (step : ElementStep) → is_of_mutexes step ≡ false → element e step ≡ Ok (reply, after) → after.mutexes ≡ e.mutexes
mutexes_stay e after reply (on_sem k step) ne is = let made = nth-made sem_machine (λ xs. record e { sems = xs }) e.sems k step reply after is in sym (ap (λ (x : Elements). x.mutexes) made.after_is)
mutexes_stay e after reply (on_flags k step) ne is = let made = nth-made flag_group (λ xs. record e { flags = xs }) e.flags k step reply after is in sym (ap (λ (x : Elements). x.mutexes) made.after_is)
mutexes_stay e after reply (on_xbuf k step) ne is = let made = nth-made cross_buffer (λ xs. record e { xbufs = xs }) e.xbufs k step reply after is in sym (ap (λ (x : Elements). x.mutexes) made.after_is)
mutexes_stay e after reply (on_mutex k step) ne is = absurd (false≢true (sym ne))

-- who leaves a queue, where the mutexes stay, waits for something else
else_gone : (n : ℕ) (e after : Elements) → after.mutexes ≡ e.mutexes → (t : ℕ) (on : Awaited) → stands_for e on t ≡ true → stands_for after on t ≡ false → is_for n on ≡ false
else_gone n e after same t (Sem id) stood gone = refl
else_gone n e after same t (Flags id) stood gone = refl
else_gone n e after same t (Writing id way) stood gone = refl
else_gone n e after same t (Reading id way) stood gone = refl
else_gone n e after same t (Mutex id) stood gone = absurd (false≢true (sym gone ∙ ap (λ (ms : List MutexRecorded). stands_at in_mutex ms id.0 t) same ∙ stood))

pub with_mutexes : (n : ℕ) (s : State) (after : Elements) → after.mutexes ≡ (elements s).mutexes → Since n s (with_elements s after)
with_mutexes n s after same = ((λ m e. (m, ap (λ (ms : List MutexRecorded). slice_get ms n) (sym same) ∙ e, went_same m)), (λ t. refl))

-- a step that was asked for, of another element
module _ (n count : ℕ) (few : count ≤ thread_limit) (s : State) (h : IsProper count s) where
  pub else_at : (after : Elements) → after.mutexes ≡ (elements s).mutexes → (t : ℕ) → Gone (elements s) t after → IsElse n (wait_at s t)
  else_at after same t went = subst (IsElse n) (sym (h.proper.stands went.on t went.stood)) (else_gone n (elements s) after same t went.on went.stood went.gone)

  pub since_touched : (by : Option ℕ) (step : ElementStep) → IsAsked step → is_of_mutexes step ≡ false → Leaves (Since n s) (touched s by step).effect
  since_touched by step asked other = left (element (elements s) step) refl
    where
      left : (a : Answered Elements) → element (elements s) step ≡ a → Leaves (Since n s) (lifted (λ e. all_woken (with_elements s e) (wakes (elements s) step)) a)
      left (Err refusal) is = tt
      left (Ok (reply, after)) is =
          let same = mutexes_stay (elements s) after reply step other is in
          let stepped = asked_goes (elements s) h.proper.sound after reply step asked is in
          since_after n s (with_elements s after) (all_woken (with_elements s after) (wakes (elements s) step)) (with_mutexes n s after same)
          (since_all_woken n (with_elements s after) (wakes (elements s) step) (λ t served. else_at after same t (stepped.goes.left t served)))

  -- a deadline of a thread whose wait goes on
  module _ (thread : ℕ) (going : is_blocked s thread ≡ true) where
    abbrev timed : State
    timed = woken s thread TimedOut

    going_on_got : got_it n (wait_at s thread) ≡ false
    going_on_got = by (wait_at s thread) going
      where
        outcome_none : (o : Option Reply) → is_none o ≡ true → o ≡ None
        outcome_none None e = refl
        outcome_none (Some r) e = absurd (false≢true e)

        by : (o : Option Wait) → option_map_or (λ (w : Wait). is_none w.outcome) o false ≡ true → got_it n o ≡ false
        by None e = refl
        by (Some w) e = going_got n w (outcome_none w.outcome e)

    since_timed : Since n s timed
    since_timed = since_woken n s thread TimedOut going_on_got (timed_got n (wait_at s thread))

    -- its thread leaves the queue of a mutex
    left_mutex : (k : ℕ) (after : Elements) (reply : Reply) → element (elements s) (on_mutex k (mutex_step.drop thread)) ≡ Ok (reply, after) → RecordsSince n timed (with_elements timed after)
    left_mutex k after reply is m' e =
        let made = nth-made mutex_machine (λ ms. record (elements s) { mutexes = ms }) (elements s).mutexes k (mutex_step.drop thread) reply after is in
        let now : drop_waiter thread made.before ≡ made.left = ap (λ (x : Reply × MutexRecorded). x.1) (ok_is made.made) in
        let at : slice_get (slice_set (elements s).mutexes k made.left) n ≡ Some m' = ap (λ (x : Elements). slice_get x.mutexes n) made.after_is ∙ e in
        by made.before made.left made.here now at (k == n) refl
      where
        by : (q p : MutexRecorded) → slice_get (elements s).mutexes k ≡ Some q → drop_waiter thread q ≡ p → slice_get (slice_set (elements s).mutexes k p) n ≡ Some m' → (b : Bool) → (k == n) ≡ b
            → (m : MutexRecorded) × (slice_get (elements s).mutexes n ≡ Some m) × Went m m'
        by q p here now at true same =
            let number = eqb-true k n same in
            let is_p : p ≡ m' = same_Some _ _ (sym (set_here (elements s).mutexes k q p here) ∙ ap (slice_get (slice_set (elements s).mutexes k p)) number ∙ at) in
            (q, ap (slice_get (elements s).mutexes) (sym number) ∙ here, subst (Went q) (now ∙ is_p) (went_dropped thread q))
        by q p here now at false other = (m', sym (set_there (elements s).mutexes k n p other) ∙ at, went_same m')

    pub nobody_woken : (k : ℕ) → wakes (elements s) (on_mutex k (mutex_step.drop thread)) ≡ []
    nobody_woken k = by (slice_get (elements s).mutexes k)
      where
        by : (o : Option MutexRecorded) → option_map_or (λ (m : MutexRecorded). mutex_wakes m (mutex_step.drop thread)) o [] ≡ []
        by None = refl
        by (Some m) = refl

    -- what leaves the queue of this wait
    since_left : (on : Awaited) (after : Elements) (reply : Reply) → element (elements s) (drop_step thread on) ≡ Ok (reply, after) → Since n timed (all_woken (with_elements timed after) (wakes (elements s) (drop_step thread on)))
    since_left on after reply is = by on is (subst (Dropped (elements s) on thread (wakes (elements s) (drop_step thread on))) (ap (if_done (elements s)) is) (drop_goes (elements s) h.proper.sound thread on))
      where
        beside : (on : Awaited) → is_of_mutexes (drop_step thread on) ≡ false → element (elements s) (drop_step thread on) ≡ Ok (reply, after) → Dropped (elements s) on thread (wakes (elements s) (drop_step thread on)) after
            → Since n timed (all_woken (with_elements timed after) (wakes (elements s) (drop_step thread on)))
        beside on other is gone =
            let same = mutexes_stay (elements s) after reply (drop_step thread on) other is in
            since_after n timed (with_elements timed after) (all_woken (with_elements timed after) (wakes (elements s) (drop_step thread on))) (with_mutexes n timed after same)
            (since_all_woken n (with_elements timed after) (wakes (elements s) (drop_step thread on)) (λ t served. else_woken n s thread TimedOut t (else_at after same t (gone.drops.left t served))))

        by : (on : Awaited) → element (elements s) (drop_step thread on) ≡ Ok (reply, after) → Dropped (elements s) on thread (wakes (elements s) (drop_step thread on)) after
            → Since n timed (all_woken (with_elements timed after) (wakes (elements s) (drop_step thread on)))
        by (Sem id) is gone = beside (Sem id) refl is gone
        by (Flags id) is gone = beside (Flags id) refl is gone
        by (Writing id way) is gone = beside (Writing id way) refl is gone
        by (Reading id way) is gone = beside (Reading id way) refl is gone
        by (Mutex id) is gone = subst (λ (ws : List (ℕ × Reply)). Since n timed (all_woken (with_elements timed after) ws)) (sym (nobody_woken id.0)) (left_mutex id.0 after reply is, (λ t. refl))

    pub since_expired : Since n s (deadline_left s thread).1
    since_expired = by (wait_at s thread)
      where
        left : (w : Wait) (a : Answered Elements) → element (elements s) (drop_step thread w.on) ≡ a → Since n s (if_done timed (lifted (λ e. all_woken (with_elements timed e) (wakes (elements s) (drop_step thread w.on))) a))
        left w (Err refusal) is = since_timed
        left w (Ok (reply, after)) is = since_after n s timed (all_woken (with_elements timed after) (wakes (elements s) (drop_step thread w.on))) since_timed (since_left w.on after reply is)

        by : (o : Option Wait) → Since n s (if_done timed (leaving_queue timed thread o).effect)
        by None = since_timed
        by (Some w) = left w (element (elements s) (drop_step thread w.on)) refl
