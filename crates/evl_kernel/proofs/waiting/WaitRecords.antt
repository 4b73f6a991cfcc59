-- The waits of the records: each thread in a queue waits for that, after each step of an element.
use Rattle.std.proofs.Common.{◌≡◌, ◌≢◌, ◌<◌, ℕ, zero, suc, ◌==◌, ◌⊎◌, inl, inr, Bool, true, false, ◌&&◌, ◌||◌, List, [], ◌∷◌, length, Option, Some, None, Ok, Err, slice_get, slice_set, slice_index_or, if◌then◌else◌, refl, sym, ap, ◌∙◌, subst, arith}
use Rattle.std.specs.Option.{option_map, option_map_or}
use Rattle.std.proofs.lemmas.Bool.{false≢true, eq-eqb, eqb-true}
use Rattle.std.proofs.lemmas.Bool.Decides.{nat_tests}
use Rattle.std.proofs.lemmas.List.{length-set}
use Rattle.std.proofs.lemmas.Option.{none-some, same_Some}
use Rattle.evl_base.proofs.Plain.{eqb-swap_false}
use Rattle.evl_base.specs.Limits.{thread_limit}
use Rattle.evl_base.specs.declared.refusal.Refusal.{Refusal}
use Rattle.evl_base.specs.declared.refusal.Refusal.TheVariants.{Deadlock}
use Rattle.evl_base.specs.declared.reply.Reply.{Reply}
use Rattle.evl_base.specs.declared.reply.Reply.TheVariants.{Begun, TimedOut}
use Rattle.evl_sched.specs.Calls.{stranger_refusal}
use Rattle.evl_sched.specs.Ranks as ranks
use Rattle.evl_sched.specs.Ranks.{Ranked}
use Rattle.evl_mutex.specs.Mutexes.{Mutex as MutexRecorded}
use Rattle.evl_mutex.specs.Owners.{Owners}
use Rattle.evl_sched.specs.Threads.{refused_first, stage_of, Sched, unready}
use Rattle.evl_kernel.specs.declared.waits.Awaited.{Awaited}
use Rattle.evl_kernel.specs.declared.waits.Awaited.TheVariants.{Sem, Flags, Writing, Reading, Mutex}
use Rattle.evl_kernel.specs.declared.waits.Wait.{Wait}
use Rattle.evl_kernel.specs.declared.waits.Wanted.{Wanted}
use Rattle.evl_kernel.specs.state.States.{State, Elements, with_clock}
use Rattle.evl_kernel.specs.calls.Effects.{Answered, if_done, known, lifted, refused_by}
use Rattle.evl_kernel.specs.calls.Semaphores as sem_step
use Rattle.evl_kernel.specs.calls.Semaphores.{semaphore, sem_wakes}
use Rattle.evl_kernel.specs.calls.FlagGroups as flag_step
use Rattle.evl_kernel.specs.calls.FlagGroups.{flag_group, flag_wakes}
use Rattle.evl_kernel.specs.calls.CrossBuffers as through
use Rattle.evl_kernel.specs.calls.CrossBuffers.{cross_buffer, xbuf_wakes}
use Rattle.evl_kernel.specs.calls.Mutexes as mutex_step
use Rattle.evl_kernel.specs.calls.Mutexes.{mutex, mutex_wakes}
use Rattle.evl_kernel.specs.state.ElementsViews.{ElementsView, owners_of}
use Rattle.evl_sync.specs.Semaphores.{Semaphore}
use Rattle.evl_sync.specs.FlagGroups.{FlagGroup}
use Rattle.evl_xbuf.specs.Xbufs.{Xbuf, same_stage}
use Rattle.evl_kernel.specs.calls.Elements.{ElementStep, element, elements, serves, stepping, stepping_to, wakes, with_elements}
use Rattle.evl_kernel.specs.waiting.Beginnings.{awaited_by, begin_refusal, begin_step, beginning, form_refusal, is_named, is_there, may_name, range_refusal, ring_refusal, would_ring, size_refusal, stage_wanted, step_of_waiter, waiter_refusal}
use Rattle.evl_kernel.specs.waiting.Endings.{drop_step, outcome_of, leaving_queue, left_by, served_by_leaving}
use Rattle.evl_kernel.specs.settling.Settling.{deadline_left}
use Rattle.evl_kernel.specs.calls.ThreadCalls.{rank_of}
use Rattle.evl_kernel.specs.waiting.Standing.{is_served, stands_for}
use Rattle.evl_kernel.specs.waiting.Waits.{wait_at, wait_of, going_on, wait_begun, woken, all_woken, is_past, blocked_on}
use Rattle.evl_kernel.specs.state.Records.{RanksAreKept, RecordsView, IsSound, KeepsCallbacks, WaitsAreKept, state_of}
use Rattle.evl_kernel.proofs.calls.ElementSteps.{ok_err, stepping-done, stepping-refused}
use Rattle.evl_kernel.proofs.calls.QueueSteps.{Comes}
use Rattle.evl_kernel.proofs.calls.QueueLaws.{Begins, Dropped, IsAsked, Stepped, asked_goes, begin_goes}
use Rattle.evl_kernel.proofs.calls.BeginLaws.{free_to_begin}
use Rattle.evl_kernel.proofs.state.RankLaws.{attached_of}
use Rattle.evl_kernel.proofs.state.EffectiveLaws.{given_as}
use Rattle.evl_clock.specs.Clocks.{with_deadline}
use Rattle.evl_kernel.specs.calls.TimerCalls.{posted_if}

fewer_by : (m n : ℕ) → (suc m == suc n) ≡ false → (m == n) ≡ false
fewer_by m n e = grind (arith, nat_tests)

-- what is at another place than the one that was set, and at that place
pub index_there : {A : Type 0} (xs : List A) (m n : ℕ) (v d : A) → (m == n) ≡ false → slice_index_or (slice_set xs m v) n d ≡ slice_index_or xs n d
index_there [] m n v d e = refl
index_there (x ∷ xs) zero zero v d e = absurd (false≢true (sym e))
index_there (x ∷ xs) zero (suc n) v d e = refl
index_there (x ∷ xs) (suc m) zero v d e = refl
index_there (x ∷ xs) (suc m) (suc n) v d e = index_there xs m n v d (fewer_by m n e)

pub index_here : {A : Type 0} (xs : List A) (m : ℕ) (v d : A) → m < length xs → slice_index_or (slice_set xs m v) m d ≡ v
index_here [] m v d within = absurd (omega (arith, within))
index_here (x ∷ xs) zero v d within = refl
index_here (x ∷ xs) (suc m) v d within = index_here xs m v d (omega (arith, within))

module _ (threads : ℕ) (e : Elements) (waits : List (Option Wait)) (kept : WaitsAreKept threads e waits) where
  -- a thread whose wait doesn't go on is in no queue
  pub away_of : (thread : ℕ) → ((on : Awaited) → wait_of waits thread ≢ Some (going_on on)) → (on : Awaited) → stands_for e on thread ≡ false
  away_of thread other on = by (stands_for e on thread) refl
    where
      by : (b : Bool) → stands_for e on thread ≡ b → b ≡ false
      by true is = absurd (other on (kept.going on thread is))
      by false is = refl

  pub idle_away : (thread : ℕ) → wait_of waits thread ≡ None → (on : Awaited) → stands_for e on thread ≡ false
  idle_away thread none = away_of thread (λ on is. none-some _ (sym none ∙ is))

  -- the wait of a thread that is in no queue changes
  pub set_wait : (thread : ℕ) (w : Option Wait) → ((on : Awaited) → stands_for e on thread ≡ false) → WaitsAreKept threads e (slice_set waits thread w)
  set_wait thread w away = record { few = kept.few; sound = kept.sound; places = length-set waits thread w ∙ kept.places; going = λ on other stands. by on other stands (thread == other) refl }
    where
      by : (on : Awaited) (other : ℕ) → stands_for e on other ≡ true → (b : Bool) → (thread == other) ≡ b → wait_of (slice_set waits thread w) other ≡ Some (going_on on)
      by on other stands true is = absurd (false≢true (sym (away on) ∙ (ap (λ (t : ℕ). stands_for e on t) (eqb-true thread other is) ∙ stands)))
      by on other stands false is = index_there waits thread other w None is ∙ kept.going on other stands

  pub waits_set : (thread : ℕ) (w : Option Wait) (changed : List (Option Wait)) → changed ≡ slice_set waits thread w → ((on : Awaited) → stands_for e on thread ≡ false) → WaitsAreKept threads e changed
  waits_set thread w changed is away = subst (WaitsAreKept threads e) (sym is) (set_wait thread w away)

  -- a wait that has ended is finished
  pub finished_kept : (thread : ℕ) (reply : Reply) → Ok reply ≡ outcome_of (wait_of waits thread) → (changed : List (Option Wait)) → changed ≡ slice_set waits thread None → WaitsAreKept threads e changed
  finished_kept thread reply ended changed is =
      waits_set thread None changed is (away_of thread (λ on going. ok_err (ended ∙ ap outcome_of going)))

  -- a thread is in one queue at most
  one_queue : (thread : ℕ) (on other : Awaited) → stands_for e on thread ≡ true → stands_for e other thread ≡ true → on ≡ other
  one_queue thread on other first second = ap (λ (w : Wait). w.on) (same_Some _ _ (sym (kept.going on thread first) ∙ kept.going other thread second))

  -- a step of an element: some are let go
  module _ (served : List (ℕ × Reply)) (after : Elements) (stepped : Stepped e served after) where
    pub kept_after : WaitsAreKept threads after waits
    kept_after = record { few = kept.few; sound = stepped.sound; places = kept.places; going = λ on t stands. kept.going on t (stepped.goes.old on t stands) }

    pub away_after : (t : ℕ) → is_served t served ≡ true → (on : Awaited) → stands_for after on t ≡ false
    away_after t is on = by (stands_for after on t) refl
      where
        by : (b : Bool) → stands_for after on t ≡ b → b ≡ false
        by false stands = refl
        by true stands =
            let left = stepped.goes.left t is in
            let same = one_queue t left.on on left.stood (stepped.goes.old on t stands) in
            sym stands ∙ (ap (λ (x : Awaited). stands_for after x t) (sym same) ∙ left.gone)

  -- a wait begins
  module _ (thread : ℕ) (on : Awaited) (told : Option Reply) (woken : List (ℕ × Reply)) (after : Elements) (begins : Begins e thread on told woken after) (none : wait_of waits thread ≡ None) where
    -- it is served at once
    pub kept_served : (outcome : Reply) → told ≡ Some outcome → (w : Option Wait) (changed : List (Option Wait)) → changed ≡ slice_set waits thread w → WaitsAreKept threads after changed
    kept_served outcome at_once w changed is =
        let goes = begins.at_once outcome at_once in
        let mid : WaitsAreKept threads after waits = record { few = kept.few; sound = begins.sound; places = kept.places; going = λ other t stands. kept.going other t (goes.old other t stands) } in
        subst (WaitsAreKept threads after) (sym is) (set_away mid)
      where
        set_away : WaitsAreKept threads after waits → WaitsAreKept threads after (slice_set waits thread w)
        set_away mid = record {
          few = mid.few;
          sound = mid.sound;
          places = length-set waits thread w ∙ mid.places;
          going = λ other t stands. by other t stands (thread == t) refl;
        }
          where
            by : (other : Awaited) (t : ℕ) → stands_for after other t ≡ true → (b : Bool) → (thread == t) ≡ b → wait_of (slice_set waits thread w) t ≡ Some (going_on other)
            by other t stands true same = absurd (none-some _ (sym none ∙ (ap (wait_of waits) (eqb-true thread t same) ∙ mid.going other t stands)))
            by other t stands false ne = index_there waits thread t w None ne ∙ mid.going other t stands

    -- it goes on
    pub kept_waiting : told ≡ None → thread < threads → (changed : List (Option Wait)) → changed ≡ slice_set waits thread (Some (going_on on)) → WaitsAreKept threads after changed
    kept_waiting nothing there changed is = subst (WaitsAreKept threads after) (sym is) (record {
      few = kept.few;
      sound = begins.sound;
      places = length-set waits thread _ ∙ kept.places;
      going = λ other t stands. by other t stands (t == thread) refl;
    })
      where
        comes : Comes e on thread after
        comes = begins.waits nothing

        mine : wait_of (slice_set waits thread (Some (going_on on))) thread ≡ Some (going_on on)
        mine = index_here waits thread (Some (going_on on)) None (omega (arith, there, kept.places))

        alone : (other : Awaited) → (on ≡ other) ⊎ (stands_for e other thread ≡ true) → on ≡ other
        alone other (inl same) = same
        alone other (inr stood) = absurd (false≢true (sym (idle_away thread none other) ∙ stood))

        by : (other : Awaited) (t : ℕ) → stands_for after other t ≡ true → (b : Bool) → (t == thread) ≡ b → wait_of (slice_set waits thread (Some (going_on on))) t ≡ Some (going_on other)
        by other t stands true same =
            let is_t = eqb-true t thread same in
            ap (wait_of (slice_set waits thread (Some (going_on on)))) is_t
            ∙ (mine ∙ ap (λ (x : Awaited). Some (going_on x)) (alone other (comes.alone other (ap (stands_for after other) (sym is_t) ∙ stands))))
        by other t stands false ne = index_there waits thread t _ None (eqb-swap_false t thread ne) ∙ kept.going other t (sym (comes.same other t ne) ∙ stands)

  -- a thread leaves the queue in which it waits
  module _ (thread : ℕ) (on : Awaited) (served : List (ℕ × Reply)) (after : Elements) (dropped : Dropped e on thread served after) where
    pub dropped_kept : WaitsAreKept threads after waits
    dropped_kept = record { few = kept.few; sound = dropped.sound; places = kept.places; going = λ other t stands. kept.going other t (dropped.drops.old other t stands) }

    pub dropped_away : Some on ≡ option_map (λ (w : Wait). w.on) (wait_of waits thread) → (other : Awaited) → stands_for after other thread ≡ false
    dropped_away its other = by (stands_for after other thread) refl
      where
        by : (b : Bool) → stands_for after other thread ≡ b → b ≡ false
        by false stands = refl
        by true stands =
            let same : on ≡ other = same_Some _ _ (its ∙ ap (option_map (λ (w : Wait). w.on)) (kept.going other thread (dropped.drops.old other thread stands))) in
            sym stands ∙ (ap (λ (x : Awaited). stands_for after x thread) (sym same) ∙ dropped.drops.gone)

    -- each thread that this serves is in no queue then
    pub dropped_apart : (t : ℕ) → is_served t served ≡ true → (other : Awaited) → stands_for after other t ≡ false
    dropped_apart t is other = by (stands_for after other t) refl
      where
        by : (b : Bool) → stands_for after other t ≡ b → b ≡ false
        by false stands = refl
        by true stands =
            let left = dropped.drops.left t is in
            let same = one_queue t left.on other left.stood (dropped.drops.old other t stands) in
            sym stands ∙ (ap (λ (x : Awaited). stands_for after x t) (sym same) ∙ left.gone)

-- who is ready, and who waits, has nothing to do with callbacks
module _ {C : Type 0} (r : RecordsView C) where
  pub keeps-sched : (q : Ranked) → KeepsCallbacks r (record r { sched = q })
  keeps-sched q = record { brings = λ number callback stands. stands; handlers_are = refl }

  pub keeps-waits : (waits : List (Option Wait)) → KeepsCallbacks r (record r { waits = waits })
  keeps-waits waits = record { brings = λ number callback stands. stands; handlers_are = refl }

  pub keeps-changed : (e : ElementsView) (q : Ranked) (waits : List (Option Wait)) → KeepsCallbacks r (record r { elements = e; sched = q; waits = waits })
  keeps-changed e q waits = record { brings = λ number callback stands. stands; handlers_are = refl }

  -- what a thread that may begin a wait has
  pub may_begin_is : IsSound r → (thread rank : ℕ) (wants : Wanted) → stranger_refusal r.sched.sched thread ≡ None → rank ≡ ranks.rank_of r.sched thread
      → form_refusal wants ≡ None → may_name (state_of r) thread wants ≡ true → same_stage (stage_wanted wants) (stage_of r.sched.sched thread) ≡ true → (waiter_refusal (state_of r) thread wants ≡ None) × (rank ≡ rank_of (state_of r) thread)
  may_begin_is h thread rank wants passed is form may same = (
    rw (passed, form, may, same) refl,
    is ∙ given_as r h thread (attached_of r.sched.sched thread passed),
  )

-- the elements change, and nothing else of the records
module _ {C : Type 0} (r : RecordsView C) (h : IsSound r) where
  pub sound_with : (after : ElementsView) (q : Ranked) (waits : List (Option Wait)) → RanksAreKept r.threads (owners_of after) q → WaitsAreKept r.threads after.elements waits
      → IsSound (record r { elements = after; sched = q; waits = waits })
  sound_with after q waits ranked kept = record { allowed = h.allowed; timers_allowed = h.timers_allowed; clock_sound = h.clock_sound; ranks = ranked; waits = kept }

  -- where the recorded owners are the same, the ranks are
  pub ranks_as : (after : ElementsView) → owners_of after ≡ owners_of r.elements → RanksAreKept r.threads (owners_of after) r.sched
  ranks_as after owners = subst (λ (o : Owners). RanksAreKept r.threads o r.sched) (sym owners) h.ranks

  -- by a step that was asked for
  module _ (step : ElementStep) (asked : IsAsked step) (reply : Reply) (after : ElementsView) (made : element r.elements.elements step ≡ Ok (reply, after.elements)) where
    went : Stepped r.elements.elements (wakes r.elements.elements step) after.elements
    went = asked_goes r.elements.elements h.waits.sound after.elements reply step asked made

    pub asked_sound : owners_of after ≡ owners_of r.elements → IsSound (record r { elements = after })
    asked_sound owners = sound_with after r.sched r.waits (ranks_as after owners) (kept_after r.threads r.elements.elements r.waits h.waits (wakes r.elements.elements step) after.elements went)

    -- and the ranks are handed on
    pub asked_ranked : (q : Ranked) → RanksAreKept r.threads (owners_of after) q → IsSound (record r { elements = after; sched = q })
    asked_ranked q ranked = sound_with after q r.waits ranked (kept_after r.threads r.elements.elements r.waits h.waits (wakes r.elements.elements step) after.elements went)

    pub asked_away : (t : ℕ) → is_served t (wakes r.elements.elements step) ≡ true → (on : Awaited) → stands_for after.elements on t ≡ false
    asked_away t is on = away_after r.threads r.elements.elements r.waits h.waits (wakes r.elements.elements step) after.elements went t is on

    pub asked_done : (served : List (ℕ × Reply)) → wakes r.elements.elements step ≡ served → stepping (state_of r) step ≡ Ok (reply, all_woken (state_of (record r { elements = after })) served)
    asked_done served is =
        stepping-done (λ s. s) (state_of r) step reply after.elements made
        ∙ ap (λ (ws : List (ℕ × Reply)). Ok (reply, all_woken (state_of (record r { elements = after })) ws)) is

pub refused_as : {C : Type 0} (r : RecordsView C) (step : ElementStep) (refusal : Refusal) (after : ElementsView) → (element r.elements.elements step ≡ Err refusal) × (after ≡ r.elements)
    → (stepping (state_of r) step ≡ Err refusal) × (state_of (record r { elements = after }) ≡ state_of r)
refused_as r step refusal after (is, same) = (stepping-refused (λ s. s) (state_of r) step refusal is, ap (λ (e : ElementsView). state_of (record r { elements = e })) same)

-- who is alone among the served
pub alone_served : (t : ℕ) (outcome : Reply) (served : List (ℕ × Reply)) → served ≡ (t, outcome) ∷ [] → is_served t served ≡ true
alone_served t outcome served is = ap (is_served t) is ∙ ap (λ (b : Bool). b || false) (eq-eqb t t refl)

-- a wait begins
module _ {C : Type 0} (r : RecordsView C) (h : IsSound r) (thread rank : ℕ) (wants : Wanted) (until : Option ℕ) (none : wait_of r.waits thread ≡ None) (there : thread < r.threads)
    (may : begin_refusal (state_of r) thread wants ≡ None) (after : ElementsView) (made : element r.elements.elements (step_of_waiter thread rank wants) ≡ Ok (Begun, after.elements)) where
  pub begin_away : (on : Awaited) → stands_for r.elements.elements on thread ≡ false
  begin_away on = idle_away r.threads r.elements.elements r.waits h.waits thread none on

  pub begin_few : thread < thread_limit
  begin_few = omega (arith, there, h.waits.few)

  begins : Begins r.elements.elements thread (awaited_by wants) (serves r.elements.elements (step_of_waiter thread rank wants)) (wakes r.elements.elements (step_of_waiter thread rank wants)) after.elements
  begins = begin_goes r.elements.elements h.waits.sound after.elements Begun thread rank begin_few wants begin_away (free_to_begin (state_of r) thread wants may) made

  pub sound_served : (outcome : Reply) → serves r.elements.elements (step_of_waiter thread rank wants) ≡ Some outcome → (w : Option Wait) (waits : List (Option Wait)) → waits ≡ slice_set r.waits thread w
      → owners_of after ≡ owners_of r.elements → IsSound (record r { elements = after; waits = waits })
  sound_served outcome served w waits is owners =
      sound_with r h after r.sched waits (ranks_as r h after owners) (kept_served r.threads r.elements.elements r.waits h.waits thread (awaited_by wants) _ _ after.elements begins none outcome served w waits is)

  pub sound_ranked : serves r.elements.elements (step_of_waiter thread rank wants) ≡ None → (q : Ranked) → RanksAreKept r.threads (owners_of after) q
      → (waits : List (Option Wait)) → waits ≡ slice_set r.waits thread (Some (going_on (awaited_by wants))) → IsSound (record r { elements = after; sched = q; waits = waits })
  sound_ranked nothing q ranked waits is =
      sound_with r h after q waits ranked (kept_waiting r.threads r.elements.elements r.waits h.waits thread (awaited_by wants) _ _ after.elements begins none nothing there waits is)

  pub sound_waiting : serves r.elements.elements (step_of_waiter thread rank wants) ≡ None → (waits : List (Option Wait)) → waits ≡ slice_set r.waits thread (Some (going_on (awaited_by wants)))
      → owners_of after ≡ owners_of r.elements → IsSound (record r { elements = after; waits = waits })
  sound_waiting nothing waits is owners = sound_ranked nothing r.sched (ranks_as r h after owners) waits is

  -- each thread that is served as the wait begins is in no queue then
  pub begin_freed : (outcome : Reply) → serves r.elements.elements (step_of_waiter thread rank wants) ≡ Some outcome → (t : ℕ) → is_served t (wakes r.elements.elements (step_of_waiter thread rank wants)) ≡ true
      → (on : Awaited) → stands_for after.elements on t ≡ false
  begin_freed outcome served t is on =
      away_after r.threads r.elements.elements r.waits h.waits (wakes r.elements.elements (step_of_waiter thread rank wants)) after.elements (record { sound = begins.sound; goes = begins.at_once outcome served }) t is on

  module _ (its : rank ≡ rank_of (state_of r) thread) where
    pub begin_is : (outcome : Option Reply) → serves r.elements.elements (step_of_waiter thread rank wants) ≡ outcome → (others : List (ℕ × Reply)) → wakes r.elements.elements (step_of_waiter thread rank wants) ≡ others
        → (beginning (state_of r) thread wants until).effect ≡ Ok (Begun, all_woken (wait_begun (with_elements (state_of r) after.elements) thread (awaited_by wants) until outcome) others)
    begin_is outcome served others ends =
        let s = state_of r in
        let step = begin_step s thread wants in
        let same : step_of_waiter thread rank wants ≡ step = ap (λ (m : ℕ). step_of_waiter thread m wants) its in
        let f = λ (x : State). wait_begun x thread (awaited_by wants) until (serves (elements s) step) in
        let made_so : element (elements s) step ≡ Ok (Begun, after.elements) = ap (element r.elements.elements) (sym same) ∙ made in
        let told : serves (elements s) step ≡ outcome = ap (serves r.elements.elements) (sym same) ∙ served in
        let woken_so : wakes (elements s) step ≡ others = ap (wakes r.elements.elements) (sym same) ∙ ends in
        ap (λ (o : Option Refusal). refused_by o (stepping_to f s step)) may
        ∙ (stepping-done f s step Begun after.elements made_so
        ∙ (λ i. Ok (Begun, all_woken (wait_begun (with_elements s after.elements) thread (awaited_by wants) until (told i)) (woken_so i))))

-- a beginning that nothing refuses is of an element that is there
abbrev begin_rest : State → ℕ → Wanted → Option Refusal
begin_rest s thread wants = refused_first (range_refusal wants) (refused_first (waiter_refusal s thread wants) (refused_first (size_refusal (elements s) wants) (ring_refusal s thread wants)))

-- a beginning that none of these refuses
pub may_begin_all : (s : State) (thread : ℕ) (wants : Wanted) → is_there (elements s) (awaited_by wants) ≡ true → is_named s wants ≡ true → range_refusal wants ≡ None → waiter_refusal s thread wants ≡ None
    → size_refusal (elements s) wants ≡ None → would_ring s thread wants ≡ false → begin_refusal s thread wants ≡ None
may_begin_all s thread wants has names range may size ring = rw (has, names, range, may, size, ring) refl

-- a waiter that leaves an element that there isn't wakes nobody
nobody_woken : (e : Elements) (thread : ℕ) (on : Awaited) (refusal : Refusal) → element e (drop_step thread on) ≡ Err refusal → wakes e (drop_step thread on) ≡ []
nobody_woken e thread (Sem id) refusal = by (slice_get e.sems id.0)
  where
    by : (o : Option Semaphore) → known o (λ q. lifted (λ left. record e { sems = slice_set e.sems id.0 left }) (semaphore q (sem_step.drop thread))) ≡ Err refusal
        → option_map_or (λ q. sem_wakes q (sem_step.drop thread)) o [] ≡ []
    by None is = refl
    by (Some q) is = refl
nobody_woken e thread (Flags id) refusal = by (slice_get e.flags id.0)
  where
    by : (o : Option FlagGroup) → known o (λ f. lifted (λ left. record e { flags = slice_set e.flags id.0 left }) (flag_group f (flag_step.drop thread))) ≡ Err refusal
        → option_map_or (λ f. flag_wakes f (flag_step.drop thread)) o [] ≡ []
    by None is = refl
    by (Some f) is = refl
nobody_woken e thread (Mutex id) refusal = by (slice_get e.mutexes id.0)
  where
    by : (o : Option MutexRecorded) → known o (λ m. lifted (λ left. record e { mutexes = slice_set e.mutexes id.0 left }) (mutex m (mutex_step.drop thread))) ≡ Err refusal
        → option_map_or (λ m. mutex_wakes m (mutex_step.drop thread)) o [] ≡ []
    by None is = refl
    by (Some m) is = refl
nobody_woken e thread (Writing id way) refusal = by (slice_get e.xbufs id.0)
  where
    by : (o : Option Xbuf) → known o (λ x. lifted (λ left. record e { xbufs = slice_set e.xbufs id.0 left }) (cross_buffer x (through.drop thread way))) ≡ Err refusal
        → option_map_or (λ x. xbuf_wakes x (through.drop thread way)) o [] ≡ []
    by None is = refl
    by (Some x) is = absurd (ok_err is)
nobody_woken e thread (Reading id way) refusal = by (slice_get e.xbufs id.0)
  where
    by : (o : Option Xbuf) → known o (λ x. lifted (λ left. record e { xbufs = slice_set e.xbufs id.0 left }) (cross_buffer x (through.drop thread way))) ≡ Err refusal
        → option_map_or (λ x. xbuf_wakes x (through.drop thread way)) o [] ≡ []
    by None is = refl
    by (Some x) is = absurd (ok_err is)

-- a thread may leave its queue first, its wait end then, and last those of whom that serves
expired_as : (s : State) (thread : ℕ)
    → all_woken (woken (with_elements s (left_by (elements s) thread (wait_at s thread))) thread TimedOut) (served_by_leaving (elements s) thread (wait_at s thread)) ≡ (deadline_left s thread).1
expired_as s thread = by (wait_at s thread)
  where
    by : (o : Option Wait) → all_woken (woken (with_elements s (left_by (elements s) thread o)) thread TimedOut) (served_by_leaving (elements s) thread o)
        ≡ if_done (woken s thread TimedOut) (leaving_queue (woken s thread TimedOut) thread o).effect
    by None = refl
    by (Some w) = of (element (elements s) (drop_step thread w.on)) refl
      where
        of : (a : Answered Elements) → element (elements s) (drop_step thread w.on) ≡ a
            → all_woken (woken (with_elements s (if_done (elements s) a)) thread TimedOut) (wakes (elements s) (drop_step thread w.on))
            ≡ if_done (woken s thread TimedOut) (lifted (λ e. all_woken (with_elements (woken s thread TimedOut) e) (wakes (elements s) (drop_step thread w.on))) a)
        of (Ok (reply, after)) is = refl
        of (Err refusal) is = ap (all_woken (woken s thread TimedOut)) (nobody_woken (elements s) thread w.on refusal is)

-- step by step
pub expired_by : (s left woke after : State) (thread : ℕ) (served : List (ℕ × Reply)) → left ≡ with_elements s (left_by (elements s) thread (wait_at s thread))
    → served_by_leaving (elements s) thread (wait_at s thread) ≡ served → woke ≡ woken left thread TimedOut → after ≡ all_woken woke served → after ≡ (deadline_left s thread).1
expired_by s left woke after thread served leaves serves ends wakes =
    let left_is = with_elements s (left_by (elements s) thread (wait_at s thread)) in
    wakes
    ∙ (ap (λ (x : State). all_woken x served) (ends ∙ ap (λ (x : State). woken x thread TimedOut) leaves)
    ∙ (ap (all_woken (woken left_is thread TimedOut)) (sym serves) ∙ expired_as s thread))

-- a claim that closes a ring
pub claim_rings : (s : State) (thread : ℕ) (wants : Wanted) (until : Option ℕ) → is_there (elements s) (awaited_by wants) ≡ true → is_named s wants ≡ true → range_refusal wants ≡ None
    → waiter_refusal s thread wants ≡ None → size_refusal (elements s) wants ≡ None → would_ring s thread wants ≡ true → (beginning s thread wants until).effect ≡ Err Deadlock
claim_rings s thread wants until has names range may size ring = rw (has, names, range, may, size, ring) refl

-- the elements and the ranks change, and the wait of a blocked thread begins
pub blocked_as : (s : State) (e : Elements) (thread : ℕ) (on : Awaited) (until : Option ℕ) (q : Sched) (waits : List (Option Wait)) (t : State) → q ≡ unready s.sched thread → waits ≡ slice_set s.waits thread (Some (going_on on))
    → t ≡ posted_if (is_past s.clock.now until) (with_clock (record s { elements = e; sched = q; waits = waits }) (with_deadline s.clock thread until))
    → t ≡ blocked_on (with_elements s e) thread on until
blocked_as s e thread on until q waits t blocked set is =
    is ∙ (λ i. posted_if (is_past s.clock.now until) (with_clock (record s { elements = e; sched = blocked i; waits = set i }) (with_deadline s.clock thread until)))
