-- The laws of every state that steps of elements, waits that begin and end, and deadlines leave: they change elements,
-- waits, deadlines and the ready list, and nothing else.
use Rattle.std.proofs.Common.{ℕ, Bool, true, false, List, [], ◌∷◌, Option, Some, None, Result, Ok, Err}
use Rattle.std.specs.Option.{option_map, option_map_or}
use Rattle.evl_base.specs.declared.refusal.Refusal.{Refusal}
use Rattle.evl_base.specs.declared.refusal.Refusal.TheVariants.{Invalid}
use Rattle.evl_base.specs.declared.reply.Reply.{Reply}
use Rattle.evl_base.specs.declared.reply.Reply.TheVariants.{TimedOut}
use Rattle.evl_base.specs.declared.stage.Stage.TheVariants.{Inband}
use Rattle.evl_clock.specs.Clocks.{with_deadline}
use Rattle.evl_sched.specs.Threads.{readied, unready, stage_set}
use Rattle.evl_kernel.specs.declared.waits.Awaited.{Awaited}
use Rattle.evl_kernel.specs.declared.waits.Wanted.{Wanted}
use Rattle.evl_kernel.specs.declared.waits.Wait.{Wait}
use Rattle.evl_kernel.specs.state.States.{Elements, State, with_clock, with_sched}
use Rattle.evl_kernel.specs.calls.Effects.{Answered, lifted, leaving, if_done}
use Rattle.evl_kernel.specs.calls.Elements.{ElementStep, elements, with_elements, element, wakes, serves, stepping_to, touched, on_mutex}
use Rattle.evl_kernel.specs.calls.Mutexes as mutex
use Rattle.evl_kernel.specs.waiting.Waits.{wait_at, with_wait, going_on, ended_by, is_past, blocked_on, wait_begun, woken, all_woken}
use Rattle.evl_kernel.specs.waiting.Beginnings.{awaited_by, begin_refusal, begin_step, beginning}
use Rattle.evl_kernel.specs.waiting.Endings.{drop_step, finish, goes_inband, inband_if, outcome_of}
use Rattle.evl_kernel.specs.settling.Settling.{deadline_left}
use Rattle.evl_kernel.specs.calls.TimerCalls.{posted_clock, posted_if}
use Rattle.evl_kernel.proofs.calls.LeavesLaws.{Leaves, leaves-refused, leaves-if_done}
use Rattle.evl_kernel.specs.calls.OwnerCalls.{raiser_refusal, raising}

-- what the end of a wait changes keeps this
pub record KeptByWakes (P : State → Type 0) : Type 0 where
  pub changed : (s : State) (e : Elements) → P s → P (with_elements s e)
  pub waiting : (s : State) (thread : ℕ) (wait : Option Wait) → P s → P (with_wait s thread wait)
  pub freed : (s : State) (thread : ℕ) → P s → P (with_clock s (with_deadline s.clock thread None))
  pub queued : (s : State) (ready : List ℕ) → P s → P (with_sched s (record s.sched { ready = ready }))

module _ (P : State → Type 0) (k : KeptByWakes P) where
  pub kept-woken : (s : State) (thread : ℕ) (outcome : Reply) → P s → P (woken s thread outcome)
  kept-woken s thread outcome h =
      let ended = with_wait s thread (option_map (ended_by outcome) (wait_at s thread)) in
      k.queued (with_clock ended (with_deadline s.clock thread None)) (readied s.sched thread).ready
      (k.freed ended thread (k.waiting s thread (option_map (ended_by outcome) (wait_at s thread)) h))

  pub kept-all_woken : (s : State) (served : List (ℕ × Reply)) → P s → P (all_woken s served)
  kept-all_woken s [] h = h
  kept-all_woken s ((thread, outcome) ∷ others) h = kept-all_woken (woken s thread outcome) others (kept-woken s thread outcome h)

  pub leaves-stepping : (then_ : State → State) → ((x : State) → P x → P (then_ x)) → (s : State) (step : ElementStep) → P s → Leaves P (stepping_to then_ s step)
  leaves-stepping then_ kept s step h = left (element (elements s) step)
    where
      left : (a : Answered Elements) → Leaves P (lifted (λ e. all_woken (then_ (with_elements s e)) (wakes (elements s) step)) a)
      left (Ok (reply, e)) = kept-all_woken (then_ (with_elements s e)) (wakes (elements s) step) (kept (with_elements s e) (k.changed s e h))
      left (Err refusal) = tt

  pub leaves-touched : (s : State) (by : Option ℕ) (step : ElementStep) → P s → Leaves P (touched s by step).effect
  leaves-touched s by step h = leaves-stepping (λ x. x) (λ x hx. hx) s step h

  -- a ceiling
  pub leaves-raising : (s : State) (thread n : ℕ) → P s → Leaves P (raising s thread n).effect
  leaves-raising s thread n h = leaves-refused P (raiser_refusal s thread n) _ (λ passed. leaves-touched s (Some thread) (on_mutex n (mutex.raise thread)) h)

  -- a deadline: whatever holds once its thread's wait has ended holds at the end
  pub kept-left : (s : State) (thread : ℕ) → P (woken s thread TimedOut) → P (deadline_left s thread).1
  kept-left s thread h = by (wait_at s thread)
    where
      after : State
      after = woken s thread TimedOut

      by : (o : Option Wait) → P (if_done after (option_map_or (λ (w : Wait). touched after None (drop_step thread w.on)) o (record { touches = []; effect = Err Invalid })).effect)
      by None = h
      by (Some w) = leaves-if_done P after _ h (leaves-touched after None (drop_step thread w.on) h)

  pub kept-deadline : (s : State) (thread : ℕ) → P s → P (deadline_left s thread).1
  kept-deadline s thread h = kept-left s thread (kept-woken s thread TimedOut h)

  -- a wait that is finished, where it stays true as its thread goes in-band
  pub leaves-finish : (s : State) (thread : ℕ) (keep : Bool) → ((x : State) → P x → P (with_sched x (stage_set x.sched thread Inband))) → P s → Leaves P (finish s thread keep)
  leaves-finish s thread keep goes h = by (outcome_of (wait_at s thread))
    where
      free : State
      free = with_wait s thread None

      is_free : P free
      is_free = k.waiting s thread None h

      if_it_goes : (b : Bool) → P (inband_if b free thread)
      if_it_goes true = goes free is_free
      if_it_goes false = is_free

      by : (r : Result Reply Refusal) → Leaves P (leaving (inband_if (goes_inband s thread keep) free thread) r)
      by (Ok reply) = if_it_goes (goes_inband s thread keep)
      by (Err refusal) = tt

  -- a deadline is set, and line 0 is posted where it isn't after now
  pub timed-by : ((s : State) → P s → P (posted_clock s)) → ((s : State) (thread : ℕ) (until : Option ℕ) → P s → P (with_clock s (with_deadline s.clock thread until)))
      → (s : State) (thread : ℕ) (until : Option ℕ) → P s → P (posted_if (is_past s.clock.now until) (with_clock s (with_deadline s.clock thread until)))
  timed-by posted dated s thread until h = by (is_past s.clock.now until)
    where
      by : (b : Bool) → P (posted_if b (with_clock s (with_deadline s.clock thread until)))
      by true = posted (with_clock s (with_deadline s.clock thread until)) (dated s thread until h)
      by false = dated s thread until h

  -- a wait that begins, where it stays true with its deadline, and the event of line 0 that this may post
  module _ (timed : (s : State) (thread : ℕ) (until : Option ℕ) → P s → P (posted_if (is_past s.clock.now until) (with_clock s (with_deadline s.clock thread until)))) where
    pub kept-blocked : (s : State) (thread : ℕ) (on : Awaited) (until : Option ℕ) → P s → P (blocked_on s thread on until)
    kept-blocked s thread on until h =
        let waiting = with_wait s thread (Some (going_on on)) in
        timed (with_sched waiting (unready s.sched thread)) thread until (k.queued waiting (unready s.sched thread).ready (k.waiting s thread (Some (going_on on)) h))

    pub kept-begun : (s : State) (thread : ℕ) (on : Awaited) (until : Option ℕ) (served : Option Reply) → P s → P (wait_begun s thread on until served)
    kept-begun s thread on until None h = kept-blocked s thread on until h
    kept-begun s thread on until (Some outcome) h = k.waiting s thread (Some (ended_by outcome (going_on on))) h

    pub leaves-beginning : (s : State) (thread : ℕ) (wants : Wanted) (until : Option ℕ) → P s → Leaves P (beginning s thread wants until).effect
    leaves-beginning s thread wants until h =
        let step = begin_step s thread wants in
        leaves-refused P (begin_refusal s thread wants) _ (λ passed.
        leaves-stepping (λ x. wait_begun x thread (awaited_by wants) until (serves (elements s) step)) (λ x hx. kept-begun x thread (awaited_by wants) until (serves (elements s) step) hx) s step h)
