-- A wait has the deadline with which it began, as long as it goes on.
use Rattle.std.proofs.Common.{◌≡◌, ◌<◌, ℕ, ◌==◌, Bool, true, false, List, [], ◌∷◌, length, min, Option, Some, None, Result, Ok, Err, is_none, slice_index_or, slice_set, refl, sym, ap, subst, ◌∙◌, arith}
use Rattle.std.specs.Option.{option_map, option_map_or}
use Rattle.std.proofs.lemmas.Bool.{false≢true, eqb-true}
use Rattle.std.proofs.lemmas.List.{length-replicate, length-set}
use Rattle.std.proofs.Math.Nat.{min-eq_left}
use Rattle.evl_base.proofs.Plain.{eqb-swap_false}
use Rattle.evl_base.specs.Limits.{thread_limit}
use Rattle.evl_base.specs.declared.board.Board.{Board}
use Rattle.evl_base.specs.declared.call.Call.{Call}
use Rattle.evl_base.specs.declared.refusal.Refusal.{Refusal}
use Rattle.evl_base.specs.declared.refusal.Refusal.TheVariants.{Invalid}
use Rattle.evl_base.specs.declared.reply.Reply.{Reply}
use Rattle.evl_base.specs.declared.reply.Reply.TheVariants.{TimedOut}
use Rattle.evl_clock.specs.Clocks as clocks
use Rattle.evl_clock.specs.Clocks.{deadline_at}
use Rattle.evl_kernel.specs.declared.waits.Awaited.{Awaited}
use Rattle.evl_kernel.specs.declared.waits.Wanted.{Wanted}
use Rattle.evl_kernel.specs.declared.waits.Wait.{Wait}
use Rattle.evl_kernel.specs.state.States.{Elements, State, Handler, with_clock}
use Rattle.evl_kernel.specs.calls.Effects.{Answered, lifted, leaving, if_done}
use Rattle.evl_kernel.specs.calls.Elements.{ElementStep, elements, with_elements, element, wakes, serves, stepping_to, touched}
use Rattle.evl_kernel.specs.waiting.Waits.{wait_of, wait_at, with_wait, going_on, ended_by, is_past, suspended, wait_begun as begun, woken, all_woken}
use Rattle.evl_kernel.specs.waiting.Beginnings.{awaited_by, begin_refusal, begin_step, beginning}
use Rattle.evl_kernel.specs.waiting.Endings.{drop_step, finish, goes_inband, inband_if, outcome_of}
use Rattle.evl_kernel.specs.calls.TimerCalls.{posted_if}
use Rattle.evl_kernel.specs.calls.Families.{begins, task_of}
use Rattle.evl_kernel.specs.calls.Serving.{answer, ends_a_wait, general_refusal}
use Rattle.evl_kernel.specs.settling.Settling.{deadline_left}
use Rattle.evl_kernel.specs.state.Openings.{opening}
use Rattle.evl_kernel.specs.histories.Histories.{History, IsLegal, opened_kernel}
use Rattle.evl_kernel.specs.histories.WaitInvariant.{DeadlinesStand, is_blocked, until_of}
use Rattle.evl_kernel.proofs.calls.LeavesLaws.{Leaves, leaves-if_done, leaves-refused}
use Rattle.evl_kernel.proofs.state.OpeningLaws.{threads_few}
use Rattle.evl_kernel.proofs.calls.ThreadSteps.{leaves-threads}
use Rattle.evl_kernel.proofs.waiting.WaitSteps.{KeptByWakes, kept-deadline, leaves-touched, leaves-beginning, leaves-finish, timed-by}
use Rattle.evl_kernel.proofs.histories.StateWalk.{KeptByEach, KeptByOwn, follows_holds, holds-answer, run_holds}
use Rattle.evl_kernel.proofs.waiting.WaitLaws.{over_if, over_set, wait_there}
use Rattle.evl_kernel.proofs.waiting.WaitRecords.{index_here, index_there}
use Rattle.evl_kernel.proofs.waiting.ProperSteps.{over_none, passed_all, proper_at}

abbrev goes_on : Option Wait → Bool
goes_on o = option_map_or (λ (w : Wait). is_none w.outcome) o false

-- there is a place for the deadline of each thread
abbrev pub HasDates : ℕ → State → Type 0
HasDates threads s = length s.clock.deadlines ≡ min threads thread_limit

opened_so : (board : Board) (bank : List Handler) → HasDates board.threads (opening board bank)
unfolding clocks.opening
opened_so board bank = length-replicate {A = Option ℕ} (min board.threads thread_limit) None

pub dates_at : (of : History) → IsLegal of → HasDates of.board.threads of.state
dates_at of legal = run_holds (HasDates of.board.threads) each own (opened_kernel of) of.entries of.plays of.state (opened_so of.board of.bank) legal
  where
    waiting : KeptByWakes (HasDates of.board.threads)
    waiting = record {
      changed = λ s e h. h;
      waiting = λ s thread wait h. h;
      freed = λ s thread h. length-set s.clock.deadlines thread None ∙ h;
      queued = λ s ready h. h;
    }

    each : KeptByEach (HasDates of.board.threads)
    each = record {
      lined = λ s q h. h;
      banked = λ s number home b h. h;
      clocked = λ s c same h. ap (λ (ds : List (Option ℕ)). length ds) same ∙ h;
      paid = λ s before delta now h. h;
      asked = λ s by step plain may h. leaves-touched (HasDates of.board.threads) waiting s by step h;
      expired = λ s thread h. kept-deadline (HasDates of.board.threads) waiting s thread h;
    }

    own : (s : State) (caller : ℕ) (asked : Call) → KeptByOwn (HasDates of.board.threads) s caller asked
    own s caller asked = record {
      threads = λ step is passed h. leaves-threads (HasDates of.board.threads) (λ s q h. h) s caller step h;
      begun = λ on until is passed h. leaves-beginning (HasDates of.board.threads) waiting (timed-by (HasDates of.board.threads) waiting (λ s h. h) (λ s thread until h. length-set s.clock.deadlines thread until ∙ h)) s caller on until h;
      ended = λ keep is h. leaves-finish (HasDates of.board.threads) waiting s caller keep (λ x hx. hx) h;
    }

-- Something holds of this thread's deadline where it is blocked.
module _ (thread : ℕ) (Q : Option ℕ → Type 0) where
  abbrev Dated : State → Type 0
  Dated s = is_blocked s thread ≡ true → Q (deadline_at s.clock thread)

  as_before : (s x : State) → wait_at x thread ≡ wait_at s thread → deadline_at x.clock thread ≡ deadline_at s.clock thread → Dated s → Dated x
  as_before s x same date h is = subst Q (sym date) (h (sym (ap goes_on same) ∙ is))

  not_blocked : (x : State) → over_if (wait_at x thread) → Dated x
  not_blocked x over is = absurd (false≢true (sym over ∙ is))

  -- its wait, or that of another thread, is set to one that doesn't go on
  dated_wait : (s : State) (other : ℕ) (wait : Option Wait) → over_if wait → Dated s → Dated (with_wait s other wait)
  dated_wait s other wait over h = by (thread == other) refl
    where
      by : (b : Bool) → (thread == other) ≡ b → Dated (with_wait s other wait)
      by true is = not_blocked (with_wait s other wait) (subst (λ (m : ℕ). over_if (wait_of (slice_set s.waits other wait) m)) (sym (eqb-true thread other is)) (over_set s.waits other wait over))
      by false ne = as_before s (with_wait s other wait) (wait_there s other wait thread ne) refl h

  dated_woken : (s : State) (other : ℕ) (outcome : Reply) → Dated s → Dated (woken s other outcome)
  dated_woken s other outcome h = by (thread == other) refl
    where
      wait : Option Wait
      wait = option_map (ended_by outcome) (wait_at s other)

      over_now : (o : Option Wait) → over_if (option_map (ended_by outcome) o)
      over_now None = refl
      over_now (Some w) = refl

      by : (b : Bool) → (thread == other) ≡ b → Dated (woken s other outcome)
      by true is = not_blocked (woken s other outcome) (subst (λ (m : ℕ). over_if (wait_of (slice_set s.waits other wait) m)) (sym (eqb-true thread other is)) (over_set s.waits other wait (over_now (wait_at s other))))
      by false ne = as_before s (woken s other outcome) (wait_there s other wait thread ne) (index_there s.clock.deadlines other thread None None (eqb-swap_false thread other ne)) h

  dated_all_woken : (s : State) (served : List (ℕ × Reply)) → Dated s → Dated (all_woken s served)
  dated_all_woken s [] h = h
  dated_all_woken s ((other, outcome) ∷ others) h = dated_all_woken (woken s other outcome) others (dated_woken s other outcome h)

  dated_stepping : (then_ : State → State) (s : State) (step : ElementStep) → ((e : Elements) → Dated (then_ (with_elements s e))) → Leaves Dated (stepping_to then_ s step)
  dated_stepping then_ s step kept = by (element (elements s) step)
    where
      by : (a : Answered Elements) → Leaves Dated (lifted (λ e. all_woken (then_ (with_elements s e)) (wakes (elements s) step)) a)
      by (Ok (reply, e)) = dated_all_woken (then_ (with_elements s e)) (wakes (elements s) step) (kept e)
      by (Err refusal) = tt

  dated_touched : (s : State) (by : Option ℕ) (step : ElementStep) → Dated s → Leaves Dated (touched s by step).effect
  dated_touched s by step h = dated_stepping (λ x. x) s step (λ e. h)

  dated_expired : (s : State) (other : ℕ) → Dated s → Dated (deadline_left s other).1
  dated_expired s other h = by (wait_at s other)
    where
      after : State
      after = woken s other TimedOut

      ended : Dated after
      ended = dated_woken s other TimedOut h

      by : (o : Option Wait) → Dated (if_done after (option_map_or (λ (w : Wait). touched after None (drop_step other w.on)) o (record { touches = []; effect = Err Invalid })).effect)
      by None = ended
      by (Some w) = leaves-if_done Dated after _ ended (dated_touched after None (drop_step other w.on) ended)

  dated_finish : (s : State) (caller : ℕ) (keep : Bool) → Dated s → Leaves Dated (finish s caller keep)
  dated_finish s caller keep h = by (outcome_of (wait_at s caller))
    where
      free : Dated (with_wait s caller None)
      free = dated_wait s caller None refl h

      goes : (b : Bool) → Dated (inband_if b (with_wait s caller None) caller)
      goes true = free
      goes false = free

      by : (r : Result Reply Refusal) → Leaves Dated (leaving (inband_if (goes_inband s caller keep) (with_wait s caller None) caller) r)
      by (Ok reply) = goes (goes_inband s caller keep)
      by (Err refusal) = tt

  kept_by_each : KeptByEach Dated
  kept_by_each = record {
    lined = λ s q h. h;
    banked = λ s number home b h. h;
    clocked = λ s c same h. as_before s (with_clock s c) refl (ap (λ (ds : List (Option ℕ)). slice_index_or ds thread None) same) h;
    paid = λ s before delta now h. h;
    asked = λ s by step plain may h. dated_touched s by step h;
    expired = λ s other h. dated_expired s other h;
  }

  -- a wait begins, where what is left holds at once
  dated_beginning : (s : State) (caller : ℕ) (wants : Wanted) (until : Option ℕ) → ((e : Elements) (served : Option Reply) → Dated (begun (with_elements s e) caller (awaited_by wants) until served))
      → Leaves Dated (beginning s caller wants until).effect
  dated_beginning s caller wants until kept =
      let step = begin_step s caller wants in
      leaves-refused Dated (begin_refusal s caller wants) _ (λ none. dated_stepping (λ x. begun x caller (awaited_by wants) until (serves (elements s) step)) s step (λ e. kept e (serves (elements s) step)))

  -- of another thread
  begun_by_another : (s : State) (caller : ℕ) (on : Awaited) (until : Option ℕ) (served : Option Reply) → (thread == caller) ≡ false → Dated s → Dated (begun s caller on until served)
  begun_by_another s caller on until (Some outcome) ne h = as_before s (with_wait s caller (Some (ended_by outcome (going_on on)))) (wait_there s caller (Some (ended_by outcome (going_on on))) thread ne) refl h
  begun_by_another s caller on until None ne h = by (is_past s.clock.now until)
    where
      suspended_so : Dated (suspended s caller on until)
      suspended_so = as_before s (suspended s caller on until) (wait_there s caller (Some (going_on on)) thread ne) (index_there s.clock.deadlines caller thread until None (eqb-swap_false thread caller ne)) h

      by : (b : Bool) → Dated (posted_if b (suspended s caller on until))
      by true = suspended_so
      by false = suspended_so

  -- its own
  begun_by_itself : (s : State) (on : Awaited) (until : Option ℕ) (served : Option Reply) → thread < length s.clock.deadlines → Q until → Dated (begun s thread on until served)
  begun_by_itself s on until (Some outcome) within it = not_blocked (with_wait s thread (Some (ended_by outcome (going_on on)))) (over_set s.waits thread (Some (ended_by outcome (going_on on))) refl)
  begun_by_itself s on until None within it = by (is_past s.clock.now until)
    where
      set : Q (slice_index_or (slice_set s.clock.deadlines thread until) thread None)
      set = subst Q (sym (index_here s.clock.deadlines thread until None within)) it

      by : (b : Bool) → Dated (posted_if b (suspended s thread on until))
      by true = λ is. set
      by false = λ is. set

  kept_by_own : (s : State) (caller : ℕ) (asked : Call)
      → ((wants : Wanted) (until : Option ℕ) → task_of asked ≡ begins wants until → general_refusal s caller asked ≡ None → Dated s → Leaves Dated (beginning s caller wants until).effect)
      → KeptByOwn Dated s caller asked
  kept_by_own s caller asked begins_so = record {
    threads = λ step is passed h. leaves-threads Dated (λ x q hx. hx) s caller step h;
    begun = begins_so;
    ended = λ keep is h. dated_finish s caller keep h;
  }

  -- another thread's call
  kept_by_another : (s : State) (caller : ℕ) (asked : Call) → (thread == caller) ≡ false → KeptByOwn Dated s caller asked
  kept_by_another s caller asked ne = kept_by_own s caller asked (λ wants until is passed h. dated_beginning s caller wants until (λ e served. begun_by_another (with_elements s e) caller (awaited_by wants) until served ne h))

pub deadlines_are : DeadlinesStand
deadlines_are h legal fits caller asked reply plays new step thread is = record { kept = kept; begun = begun_ }
  where
    old : State
    old = h.state

    after : (m : ℕ) (Q : Option ℕ → Type 0) → KeptByOwn (Dated m Q) old caller asked → Dated m Q old → Dated m Q new
    after m Q own was = follows_holds (Dated m Q) (kept_by_each m Q) old (answer old caller asked) reply plays new was (holds-answer (Dated m Q) (kept_by_each m Q) old caller asked own was) step

    idle : (wants : Wanted) (until : Option ℕ) → task_of asked ≡ begins wants until → general_refusal old caller asked ≡ None → is_blocked old caller ≡ false
    idle wants until its passed = over_none old caller (passed_all old caller asked (ap ends_a_wait its) passed).idle

    kept : is_blocked old thread ≡ true → deadline_at new.clock thread ≡ deadline_at old.clock thread
    kept was = after thread Q (by (thread == caller) refl) (λ before. refl) is
      where
        Q : Option ℕ → Type 0
        Q date = date ≡ deadline_at old.clock thread

        by : (b : Bool) → (thread == caller) ≡ b → KeptByOwn (Dated thread Q) old caller asked
        by true same = kept_by_own thread Q old caller asked (λ on until its passed hx. absurd (false≢true (sym (idle on until its passed) ∙ ap (is_blocked old) (sym (eqb-true thread caller same)) ∙ was)))
        by false ne = kept_by_another thread Q old caller asked ne

    own_date : is_blocked old caller ≡ false → is_blocked new caller ≡ true → deadline_at new.clock caller ≡ until_of (task_of asked)
    own_date not = after caller Q (kept_by_own caller Q old caller asked begins_so) (λ was. absurd (false≢true (sym not ∙ was)))
      where
        Q : Option ℕ → Type 0
        Q date = date ≡ until_of (task_of asked)

        begins_so : (wants : Wanted) (until : Option ℕ) → task_of asked ≡ begins wants until → general_refusal old caller asked ≡ None → Dated caller Q old → Leaves (Dated caller Q) (beginning old caller wants until).effect
        begins_so wants until its passed hx = dated_beginning caller Q old caller wants until (λ e served. begun_by_itself caller Q (with_elements old e) (awaited_by wants) until served within (ap until_of (sym its)))
          where
            within : caller < length old.clock.deadlines
            within = omega (arith, (passed_all old caller asked (ap ends_a_wait its) passed).there, (proper_at h legal fits).threads_are, dates_at h legal ∙ min-eq_left (threads_few h.board fits))

    begun_ : is_blocked old thread ≡ false → (thread ≡ caller) × (deadline_at new.clock thread ≡ until_of (task_of asked))
    begun_ not = by (thread == caller) refl
      where
        by : (b : Bool) → (thread == caller) ≡ b → (thread ≡ caller) × (deadline_at new.clock thread ≡ until_of (task_of asked))
        by true same =
            let number = eqb-true thread caller same in
            (number, subst (λ (m : ℕ). deadline_at new.clock m ≡ until_of (task_of asked)) (sym number) (own_date (ap (is_blocked old) (sym number) ∙ not) (ap (is_blocked new) (sym number) ∙ is)))
        by false ne = absurd (after thread (λ date. ⊥) (kept_by_another thread (λ date. ⊥) old caller asked ne) (λ was. absurd (false≢true (sym not ∙ was))) is)
