-- The effect on mutexes of settling, and of every call that isn't about one: waits for them end by their deadlines alone.
use Rattle.std.proofs.Common.{◌≡◌, ◌≤◌, ◌⊎◌, inl, inr, ⊎_elim, ℕ, ◌==◌, ◌&&◌, Bool, true, false, not, List, ◌++◌, Option, Some, None, is_some, Result, Ok, Err, slice_get, slice_set, slice_index_or, refl, sym, ap, ◌∙◌, subst, arith}
use Rattle.std.specs.Option.{option_map_or}
use Rattle.std.proofs.lemmas.Bool.{false≢true, eqb-true}
use Rattle.std.proofs.Math.Bool.{and-false}
use Rattle.evl_base.specs.Limits.{thread_limit}
use Rattle.evl_base.specs.declared.call.Call.{Call}
use Rattle.evl_base.specs.declared.refusal.Refusal.{Refusal}
use Rattle.evl_base.specs.declared.refusal.Refusal.TheVariants.{Busy}
use Rattle.evl_base.specs.declared.reply.Reply.{Reply}
use Rattle.evl_base.specs.declared.reply.Reply.TheVariants.{Done, TimedOut, Begun, Count, Bits, Number, Bytes, Chosen, Handed}
use Rattle.evl_pipeline.specs.Lines as lines
use Rattle.evl_mutex.specs.Mutexes.{IsSoundMutex, ceiling_of}
use Rattle.evl_mutex.specs.Queues.{dropped_from as dropped}
use Rattle.evl_mutex.proofs.SoundLaws.{all-at}
use Rattle.evl_sched.specs.Threads.{stage_of}
use Rattle.evl_kernel.specs.declared.waits.Awaited.{Awaited}
use Rattle.evl_kernel.specs.declared.waits.Awaited.TheVariants.{Sem, Flags, Writing, Reading, Mutex}
use Rattle.evl_kernel.specs.declared.waits.Wait.{Wait}
use Rattle.evl_kernel.specs.declared.waits.Wanted.{Wanted}
use Rattle.evl_kernel.specs.declared.waits.Wanted.TheVariants as wanted
use Rattle.evl_kernel.specs.state.States.{State, Elements, Banked, with_lines, with_clock, with_banked, come_home}
use Rattle.evl_kernel.specs.calls.Effects.{Answered, Effect, done, lifted, leaving}
use Rattle.evl_kernel.specs.calls.Elements.{ElementStep, element, elements, with_elements, touched, wakes, serves}
use Rattle.evl_kernel.specs.calls.LineCalls as line_call
use Rattle.evl_kernel.specs.calls.ThreadCalls.{rank_of}
use Rattle.evl_kernel.specs.waiting.Waits.{wait_of, wait_at, with_wait, going_on, ended_by, is_past, suspended, wait_begun, all_woken}
use Rattle.evl_kernel.specs.waiting.Beginnings.{awaited_by, begin_refusal, begin_step, beginning, step_of_waiter}
use Rattle.evl_kernel.specs.waiting.Endings.{finish, goes_inband, got_mutex, has_got_mutex, inband_if, outcome_of}
use Rattle.evl_kernel.specs.calls.TimerCalls.{posted_if}
use Rattle.evl_kernel.specs.calls.Families.{LineStep, request, free, arrive, post, stall, unstall, line_effect, Task, on_lines, on_clock, on_threads, on_element, on_staged, begins, ends, performing, task_of, raises}
use Rattle.evl_kernel.specs.calls.Serving.{general_refusal, answer, ends_a_wait}
use Rattle.evl_kernel.specs.settling.Settling.{after_action as acted, deadline_left, answer_given as given, nothing}
use Rattle.evl_kernel.specs.histories.Histories.{Follows, Step}
use Rattle.evl_kernel.specs.histories.MutexRests.{is_for, is_done, got_it, OnlyLeft, SettlingOnlyDrops, OthersOnlyDrop, is_of_mutexes, left_by, wants_mutex, touches_mutex}
use Rattle.evl_kernel.proofs.calls.QueueLaws.{Begins, begin_goes}
use Rattle.evl_kernel.proofs.calls.AskedSteps.{AsksPlainly, IsCalled, asks, leaves-told}
use Rattle.evl_kernel.proofs.calls.LeavesLaws.{Leaves, leaves-refused, leaves-unless, leaves-known}
use Rattle.evl_kernel.proofs.calls.ClockSteps.{KeptByClock, leaves-clock}
use Rattle.evl_kernel.proofs.state.OpeningLaws.{threads_few}
use Rattle.evl_kernel.proofs.histories.StateWalk.{holds-answer}
use Rattle.evl_kernel.proofs.waiting.ProperLaws.{IsProper, kept_of, proper_asked, proper_expired}
use Rattle.evl_kernel.proofs.calls.BeginLaws.{free_to_begin}
use Rattle.evl_kernel.proofs.calls.ThreadSteps.{leaves-threads}
use Rattle.evl_kernel.proofs.waiting.WaitRecords.{idle_away}
use Rattle.evl_kernel.proofs.waiting.ProperSteps.{Passed, kept_by_each, kept_by_own, passed_all, proper_at}
use Rattle.evl_kernel.proofs.waiting.WaitLaws.{index_set, wait_there}
use Rattle.evl_kernel.proofs.histories.MutexRests.{IsElse, else_at, else_got, got_set, left-both, mutexes_stay, Since, since_after, since_all_woken, since_expired, since_same, since_touched, went_same, with_mutexes}
use Rattle.evl_kernel.proofs.settling.PlayWalk.{KeptByPlays, settles_holds}

-- Proper waits, and of mutex n nothing but this since a state
module _ (n count : ℕ) (few : count ≤ thread_limit) (base : State) where
  abbrev Rests : State → Type 0
  Rests s = IsProper count s × Since n base s

  both : (e : Effect) → Leaves (IsProper count) e → Leaves (Since n base) e → Leaves Rests e
  both (Ok (reply, s)) a b = (a, b)
  both (Err refusal) a b = tt

  since_on : (s : State) → Since n base s → (e : Effect) → Leaves (Since n s) e → Leaves (Since n base) e
  since_on s before (Ok (reply, x)) h = since_after n base s x before h
  since_on s before (Err refusal) h = tt

  rests_by_plays : KeptByPlays Rests
  rests_by_plays = let k = kept_by_each count few in record {
    lined = λ s q h. (k.lined s q h.0, h.1);
    banked = λ s number home b h. (k.banked s number home b h.0, h.1);
    clocked = λ s c same still h. (k.clocked s c same h.0, h.1);
    acted = λ s step asked other h. both (touched s None step).effect (proper_asked count few s h.0 None step asked) (since_on s h.1 (touched s None step).effect (since_touched n count few s h.0 None step asked other));
    expired = λ s thread date is h. (proper_expired count few s h.0 thread, since_after n base s (deadline_left s thread).1 h.1 (since_expired n count few s h.0 thread (h.0.proper.dated thread date is)));
  }

-- with the soundness of the records
only_left : (n count : ℕ) (old new : State) → IsProper count new → Since n old new → OnlyLeft n old new
only_left n count old new proper since = record {
  records = λ m' at.
      let was = since.0 m' at in
      let sound = all-at IsSoundMutex (elements new).mutexes n m' at proper.proper.sound.mutexes.each in
      (was.0, was.1, record { gone = was.2.gone; left = was.2.left; kind = was.2.kind; owner = was.2.owner; waited = was.2.waited; held = was.2.held; raised = sound.raised; stays = was.2.stays });
  got = since.1;
}

pub settling_drops : SettlingOnlyDrops
settling_drops h legal fits caller asked reply plays new step = by (answer h.state caller asked) refl step
  where
    count : ℕ
    count = h.board.threads

    few : count ≤ thread_limit
    few = threads_few h.board fits

    proper : IsProper count h.state
    proper = proper_at h legal fits

    left : Leaves (IsProper count) (answer h.state caller asked)
    left = holds-answer (IsProper count) (kept_by_each count few) h.state caller asked (kept_by_own count few h.state caller asked) proper

    by : (e : Effect) → answer h.state caller asked ≡ e → Follows h.state e (Ok reply) plays new → (mid : State) × (answer h.state caller asked ≡ Ok (reply, mid)) × ((n : ℕ) → OnlyLeft n mid new)
    by (Err refusal) is follows = absurd (cc)
    by (Ok (given, changed)) is (same, settles) =
        let told : reply ≡ given = cc in
        let fine : IsProper count changed = subst (λ (e : Effect). Leaves (IsProper count) e) is left in (
          changed,
          is ∙ ap (λ (r : Reply). Ok (r, changed)) (sym told),
          λ n.
              let end = settles_holds (Rests n count few changed) (rests_by_plays n count few changed) changed new plays (fine, since_same n changed) settles in
              only_left n count changed new end.0 end.1,
        )

-- A call that isn't about a mutex

module _ (n : ℕ) (base : State) where
  since_home : (s : State) (number : ℕ) → Since n base s → Since n base (come_home s number)
  since_home s number h = by (slice_get s.bank number)
    where
      by : (o : Option Banked) → Since n base (option_map_or (with_banked s true number) o s)
      by None = h
      by (Some b) = h

  since_by_clock : KeptByClock (Since n base)
  since_by_clock = record {
    posted = λ s h. h;
    charged = λ s before delta now h. h;
    advanced = λ s delta h. h;
    made = λ s number tag k b h here home allowed free. h;
    started = λ s k date interval h. h;
    stopped = λ s k h. h;
    dropped = λ s k t h there. since_home (with_clock s _) t.callback h;
  }

  since_returned : (s : State) (o : Option (lines.Installed ℕ)) → Since n base s → Since n base (line_call.with_callback_back s o)
  since_returned s None h = h
  since_returned s (Some at) h = since_home s at.callback h

  since_line : (s : State) (step : LineStep) → Since n base s → Leaves (Since n base) (line_effect s step)
  since_line s (request line stage number tag) h = leaves-known (Since n base) (slice_get s.bank number) _ (λ b here.
      leaves-refused (Since n base) (lines.request_refusal s.lines line stage b.handler.kinds) _ (λ passed. leaves-unless (Since n base) (not b.home) Busy
      (done (with_banked (with_lines s (lines.requested s.lines line stage number tag)) false number b)) h))
  since_line s (free line stage) h = leaves-refused (Since n base) (lines.free_refusal s.lines line stage) _ (λ passed.
      since_returned (with_lines s (lines.freed s.lines line stage)) (lines.installed_at s.lines stage line) h)
  since_line s (arrive line) h = leaves-refused (Since n base) (lines.post_refusal line) _ (λ passed. h)
  since_line s (post stage line) h = leaves-refused (Since n base) (lines.post_refusal line) _ (λ passed. h)
  since_line s (stall stage) h = h
  since_line s (unstall stage) h = h

else_wanted : (n : ℕ) (wants : Wanted) → wants_mutex wants ≡ false → is_for n (awaited_by wants) ≡ false
else_wanted n (wanted.Sem id) e = refl
else_wanted n (wanted.Flags id kind) e = refl
else_wanted n (wanted.Write id way bytes) e = refl
else_wanted n (wanted.Read id way len) e = refl
else_wanted n (wanted.Mutex id owner) e = absurd (false≢true (sym e))

pub other_step : (thread rank : ℕ) (wants : Wanted) → wants_mutex wants ≡ false → is_of_mutexes (step_of_waiter thread rank wants) ≡ false
other_step thread rank (wanted.Sem id) e = refl
other_step thread rank (wanted.Flags id kind) e = refl
other_step thread rank (wanted.Write id way bytes) e = refl
other_step thread rank (wanted.Read id way len) e = refl
other_step thread rank (wanted.Mutex id owner) e = absurd (false≢true (sym e))

module _ (n count : ℕ) (few : count ≤ thread_limit) (s : State) (h : IsProper count s) (caller : ℕ) where
  -- a wait begins, for something else
  since_beginning : (wants : Wanted) (until : Option ℕ) → wants_mutex wants ≡ false → Passed s caller → Leaves (Since n s) (beginning s caller wants until).effect
  since_beginning wants until other passed = leaves-refused (Since n s) (begin_refusal s caller wants) _ (λ none. left none (element (elements s) step) refl)
    where
      step : ElementStep
      step = begin_step s caller wants

      on : Awaited
      on = awaited_by wants

      elsewhere : is_for n on ≡ false
      elsewhere = else_wanted n wants other

      idle_got : got_it n (wait_at s caller) ≡ false
      idle_got = ap (got_it n) passed.idle

      ended_here : (after : Elements) → after.mutexes ≡ (elements s).mutexes → (served : List (ℕ × Reply)) → Begins (elements s) caller on (serves (elements s) step) served after
          → (o : Option Reply) → serves (elements s) step ≡ o → Since n s (all_woken (wait_begun (with_elements s after) caller on until o) served)
      ended_here after same served it (Some outcome) told =
          let v : Option Wait = Some (ended_by outcome (going_on on)) in
          let x : State = with_wait (with_elements s after) caller v in
          since_after n s x (all_woken x served)
          ((with_mutexes n s after same).0, got_set n s caller v idle_got (else_got n v elsewhere))
          (since_all_woken n x served (λ t is. else_there v elsewhere t (else_at n count few s h after same t ((it.at_once outcome told).left t is))))
        where
          else_there : (v : Option Wait) → IsElse n v → (t : ℕ) → IsElse n (wait_at s t) → IsElse n (wait_of (slice_set s.waits caller v) t)
          else_there v its t was = by (t == caller) refl
            where
              by : (b : Bool) → (t == caller) ≡ b → IsElse n (wait_of (slice_set s.waits caller v) t)
              by true same = subst (λ (k : ℕ). IsElse n (wait_of (slice_set s.waits caller v) k)) (sym (eqb-true t caller same))
                  (⊎_elim (λ (e : slice_index_or (slice_set s.waits caller v) caller None ≡ v). subst (IsElse n) (sym e) its) (λ (e : slice_index_or (slice_set s.waits caller v) caller None ≡ None). subst (IsElse n) (sym e) refl) (index_set s.waits caller v))
              by false ne = subst (IsElse n) (sym (wait_there s caller v t ne)) was
      ended_here after same served it None told = subst (λ (ws : List (ℕ × Reply)). Since n s (all_woken (wait_begun (with_elements s after) caller on until None) ws)) (sym (it.quiet told)) (by (is_past s.clock.now until))
        where
          v : Option Wait
          v = Some (going_on on)

          waits_now : Since n s (suspended (with_elements s after) caller on until)
          waits_now = ((with_mutexes n s after same).0, got_set n s caller (Some (going_on on)) idle_got (and-false (is_for n on)))

          by : (b : Bool) → Since n s (posted_if b (suspended (with_elements s after) caller on until))
          by true = waits_now
          by false = waits_now

      left : begin_refusal s caller wants ≡ None → (a : Answered Elements) → element (elements s) step ≡ a
          → Leaves (Since n s) (lifted (λ e. all_woken (wait_begun (with_elements s e) caller on until (serves (elements s) step)) (wakes (elements s) step)) a)
      left none (Err refusal) is = tt
      left none (Ok (reply, after)) is =
          let it = begin_goes (elements s) h.proper.sound after reply caller (rank_of s caller) (omega (arith, passed.there, h.threads_are, few)) wants
          (λ on. idle_away count (elements s) s.waits (kept_of count s few h) caller passed.idle on) (free_to_begin s caller wants none) is in
          ended_here after (mutexes_stay (elements s) after reply step (other_step caller (rank_of s caller) wants other) is) (wakes (elements s) step) it (serves (elements s) step) refl

  -- a wait is finished that didn't get a mutex
  got_none : (o : Option Wait) → has_got_mutex o ≡ false → got_it n o ≡ false
  got_none None e = refl
  got_none (Some w) e = by w.on w.outcome e
    where
      by : (on : Awaited) (o : Option Reply) → option_map_or (got_mutex on) o false ≡ false → (is_for n on && option_map_or is_done o false) ≡ false
      by on None e = and-false (is_for n on)
      by (Sem id) (Some r) e = refl
      by (Flags id) (Some r) e = refl
      by (Writing id way) (Some r) e = refl
      by (Reading id way) (Some r) e = refl
      by (Mutex id) (Some r) e = done_not r e
        where
          done_not : (r : Reply) → got_mutex (Mutex id) r ≡ false → ((id.0 == n) && is_done r) ≡ false
          done_not Done e = absurd (false≢true (sym e))
          done_not Begun e = and-false (id.0 == n)
          done_not (Count c) e = and-false (id.0 == n)
          done_not (Bits b) e = and-false (id.0 == n)
          done_not (Number k) e = and-false (id.0 == n)
          done_not (Bytes b) e = and-false (id.0 == n)
          done_not (Chosen t) e = and-false (id.0 == n)
          done_not (Handed next more) e = and-false (id.0 == n)
          done_not TimedOut e = and-false (id.0 == n)

  since_finish : (keep : Bool) → has_got_mutex (wait_at s caller) ≡ false → Leaves (Since n s) (finish s caller keep)
  since_finish keep other = by (outcome_of (wait_at s caller))
    where
      free : Since n s (with_wait s caller None)
      free = ((λ m e. (m, e, went_same m)), got_set n s caller None (got_none (wait_at s caller) other) refl)

      goes : (b : Bool) → Since n s (inband_if b (with_wait s caller None) caller)
      goes true = free
      goes false = free

      by : (r : Result Reply Refusal) → Leaves (Since n s) (leaving (inband_if (goes_inband s caller keep) (with_wait s caller None) caller) r)
      by (Ok reply) = goes (goes_inband s caller keep)
      by (Err refusal) = tt

  since_called : (step : ElementStep) → IsCalled step → is_of_mutexes step ≡ false → Leaves (Since n s) (touched s (Some caller) step).effect
  since_called step (inl tells) other = leaves-told (Since n s) s (Some caller) step tells (since_same n s)
  since_called step (inr plain) other = since_touched n count few s h (Some caller) step plain.0 other

  since_answer : (asked : Call) → touches_mutex s caller (task_of asked) ≡ false → Leaves (Since n s) (answer s caller asked)
  since_answer asked other = leaves-refused (Since n s) (general_refusal s caller asked) _ (λ passed. by (task_of asked) refl (asks asked) other passed)
    where
      by : (task : Task) → task_of asked ≡ task → AsksPlainly task → touches_mutex s caller task ≡ false → general_refusal s caller asked ≡ None → Leaves (Since n s) (performing s caller task).effect
      by (on_lines step) is plain other passed = since_line n s s step (since_same n s)
      by (on_clock step) is plain other passed = leaves-clock (Since n s) (since_by_clock n s) s step (since_same n s)
      by (on_threads step) is plain other passed = leaves-threads (Since n s) (λ x q hx. hx) s caller step (since_same n s)
      by (on_element step) is plain other passed = since_called step plain other
      by (on_staged step_from) is plain other passed = since_called (step_from caller (stage_of s.sched caller)) (plain caller (stage_of s.sched caller)) other
      by (raises k) is plain other passed = absurd (false≢true (sym other))
      by (begins wants until) is plain other passed = since_beginning wants until other (passed_all s caller asked (ap ends_a_wait is) passed)
      by (ends keep) is plain other passed = since_finish keep other

left_after : (n : ℕ) (a b c : State) → Since n a b → OnlyLeft n b c → OnlyLeft n a c
left_after n a b c x y = record {
  records = λ m' at.
      let later = y.records m' at in
      let sooner = x.0 later.0 later.1 in
      (sooner.0, sooner.1, record { gone = later.2.gone ++ sooner.2.gone; left = later.2.left ∙ ap (left_by later.2.gone) sooner.2.left ∙ sym (left-both later.2.gone sooner.2.gone sooner.0); kind = later.2.kind ∙ sooner.2.kind; owner = λ o e. sooner.2.owner o (later.2.owner o e); waited = λ e. sooner.2.waited (later.2.waited e); held = λ e. later.2.held e ∙ sooner.2.held (later.2.waited e); raised = later.2.raised; stays = λ e. later.2.stays e ∙ sooner.2.stays (subst (λ k. is_some (ceiling_of k) ≡ true) later.2.kind e) });
  got = λ t. y.got t ∙ x.1 t;
}

pub others_drop : OthersOnlyDrop
others_drop h legal fits caller asked reply plays new step other n = by reply step
  where
    count : ℕ
    count = h.board.threads

    few : count ≤ thread_limit
    few = threads_few h.board fits

    proper : IsProper count h.state
    proper = proper_at h legal fits

    by : (r : Result Reply Refusal) → Step h.state caller asked r plays new → OnlyLeft n h.state new
    by (Err refusal) step = refused (answer h.state caller asked) step
      where
        refused : (e : Effect) → Follows h.state e (Err refusal) plays new → OnlyLeft n h.state new
        refused (Err why) (same, none, stays) = subst (OnlyLeft n h.state) (sym stays) (only_left n count h.state h.state proper (since_same n h.state))
        refused (Ok (given, changed)) (same, settles) = absurd (cc)
    by (Ok said) step =
        let settled = settling_drops h legal fits caller asked said plays new step in
        let first : Since n h.state settled.0 = subst (λ (e : Effect). Leaves (Since n h.state) e) settled.1 (since_answer n count few h.state proper caller asked other) in
        left_after n h.state settled.0 new first (settled.2 n)
