-- A wait for a mutex ends by getting it, or by its deadline.
use Rattle.std.proofs.Common.{◌≡◌, ◌≤◌, ◌⊎◌, ⊎_elim, ℕ, ◌==◌, eq-eqb, ◌&&◌, ◌||◌, Bool, true, false, not, List, [], ◌∷◌, Option, Some, None, is_some, option_map, Result, Ok, Err, slice_get, slice_set, slice_index_or, if◌then◌else◌, refl, sym, ap, ◌∙◌, subst, arith}
use Rattle.std.specs.Option.{option_map_or}
use Rattle.std.proofs.lemmas.Bool.{false≢true, eq-eqb, eqb-true, or_right}
use Rattle.std.proofs.Math.Bool.{or-true}
use Rattle.evl_base.specs.Limits.{thread_limit}
use Rattle.evl_base.specs.Board.{board_fits}
use Rattle.evl_base.specs.declared.board.Board.{Board}
use Rattle.evl_base.specs.declared.call.Call.{Call}
use Rattle.evl_base.specs.declared.refusal.Refusal.{Refusal}
use Rattle.evl_base.specs.declared.reply.Reply.{Reply}
use Rattle.evl_base.specs.declared.reply.Reply.TheVariants.{Done, TimedOut, Begun, Count, Bits, Number, Bytes, Chosen, Handed}
use Rattle.evl_pipeline.proofs.PortLaws.{at-none}
use Rattle.evl_mutex.specs.Mutexes.{Mutex as MutexRecorded, released_mutex}
use Rattle.evl_kernel.specs.declared.waits.Awaited.{Awaited}
use Rattle.evl_kernel.specs.declared.waits.Awaited.TheVariants.{Sem, Flags, Writing, Reading, Mutex}
use Rattle.evl_kernel.specs.declared.waits.Wait.{Wait}
use Rattle.evl_kernel.specs.declared.waits.Wanted.{Wanted}
use Rattle.evl_kernel.specs.declared.waits.Wanted.TheVariants as wanted
use Rattle.evl_kernel.specs.state.States.{State, Elements, Handler}
use Rattle.evl_kernel.specs.calls.Effects.{Answered, if_done, lifted, leaving}
use Rattle.evl_kernel.specs.calls.Mutexes as mutex_step
use Rattle.evl_kernel.specs.calls.Mutexes.{mutex_wakes}
use Rattle.evl_kernel.specs.calls.Semaphores.{one_served}
use Rattle.evl_kernel.specs.calls.Elements.{ElementStep, on_sem, on_flags, on_xbuf, on_mutex, element, elements, with_elements, touched, wakes, serves}
use Rattle.evl_kernel.specs.waiting.Waits.{is_timeout, wait_of, wait_at, with_wait, going_on, ended_by, is_past, suspended, wait_begun as begun, woken, all_woken}
use Rattle.evl_kernel.specs.waiting.Beginnings.{awaited_by, begin_refusal, begin_step, beginning}
use Rattle.evl_kernel.specs.waiting.Endings.{drop_step, finish, goes_inband, inband_if, is_of_mutex, leaving_queue, outcome_of}
use Rattle.evl_kernel.specs.calls.TimerCalls.{posted_if}
use Rattle.evl_kernel.specs.calls.ThreadCalls.{rank_of}
use Rattle.evl_kernel.specs.state.Openings.{opening}
use Rattle.evl_kernel.specs.calls.Serving.{ends_a_wait}
use Rattle.evl_kernel.specs.settling.Settling.{deadline_left}
use Rattle.evl_kernel.specs.histories.Histories.{History, IsLegal, opened_kernel}
use Rattle.evl_kernel.specs.waiting.Standing.{is_served}
use Rattle.evl_kernel.specs.histories.MutexRests.{is_for, is_done, got_it, is_of_mutexes, wants_mutex}
use Rattle.evl_kernel.specs.histories.MutexEnds.{ends_rightly, MutexWaitsEndRightly}
use Rattle.evl_kernel.proofs.calls.LeavesLaws.{Leaves, leaves-refused}
use Rattle.evl_kernel.proofs.state.OpeningLaws.{threads_few}
use Rattle.evl_kernel.proofs.calls.QueueLaws.{Begins, Dropped, IsAsked, asked_goes, begin_goes, drop_goes}
use Rattle.evl_kernel.proofs.calls.BeginLaws.{free_to_begin}
use Rattle.evl_kernel.proofs.calls.ThreadSteps.{leaves-threads}
use Rattle.evl_kernel.proofs.histories.StateWalk.{KeptByEach, KeptByOwn, run_holds}
use Rattle.evl_kernel.proofs.waiting.ProperLaws.{IsProper, kept_of}
use Rattle.evl_kernel.proofs.waiting.ProperSteps.{Passed, kept_by_each, kept_by_own, passed_all, proper_opening}
use Rattle.evl_kernel.proofs.waiting.WaitLaws.{index_set, wait_there}
use Rattle.evl_kernel.proofs.waiting.WaitRecords.{idle_away}
use Rattle.evl_kernel.proofs.histories.MutexRests.{IsElse, else_at, else_woken, mutexes_stay}
use Rattle.evl_kernel.proofs.histories.MutexDrops.{other_step}

abbrev AllRightly : State → Type 0
AllRightly s = (t : ℕ) → ends_rightly (wait_at s t) ≡ true

-- a wait for something else ends as it likes
else_rightly : (o : Option Wait) → ((n : ℕ) → IsElse n o) → (outcome : Reply) → ends_rightly (option_map (ended_by outcome) o) ≡ true
else_rightly None other outcome = refl
else_rightly (Some w) other outcome = by w.on (λ n. other n)
  where
    by : (on : Awaited) → ((n : ℕ) → is_for n on ≡ false) → (not (is_of_mutex on) || (is_done outcome || is_timeout outcome)) ≡ true
    by (Sem id) f = refl
    by (Flags id) f = refl
    by (Writing id way) f = refl
    by (Reading id way) f = refl
    by (Mutex id) f = absurd (false≢true (sym (f id.0) ∙ eq-eqb id.0 id.0 refl))

done_rightly : (o : Option Wait) → ends_rightly (option_map (ended_by Done) o) ≡ true
done_rightly None = refl
done_rightly (Some w) = or-true (not (is_of_mutex w.on))

timed_rightly : (o : Option Wait) → ends_rightly (option_map (ended_by TimedOut) o) ≡ true
timed_rightly None = refl
timed_rightly (Some w) = or-true (not (is_of_mutex w.on))

rightly_set : (s : State) (thread : ℕ) (v : Option Wait) → AllRightly s → ends_rightly v ≡ true → (t : ℕ) → ends_rightly (wait_of (slice_set s.waits thread v) t) ≡ true
rightly_set s thread v all new t = by (t == thread) refl
  where
    by : (b : Bool) → (t == thread) ≡ b → ends_rightly (wait_of (slice_set s.waits thread v) t) ≡ true
    by true same = subst (λ (k : ℕ). ends_rightly (wait_of (slice_set s.waits thread v) k) ≡ true) (sym (eqb-true t thread same))
        (⊎_elim (λ (e : slice_index_or (slice_set s.waits thread v) thread None ≡ v). ap ends_rightly e ∙ new) (λ (e : slice_index_or (slice_set s.waits thread v) thread None ≡ None). ap ends_rightly e) (index_set s.waits thread v))
    by false ne = ap ends_rightly (wait_there s thread v t ne) ∙ all t

rightly_woken : (s : State) (thread : ℕ) (outcome : Reply) → AllRightly s → ends_rightly (option_map (ended_by outcome) (wait_at s thread)) ≡ true → AllRightly (woken s thread outcome)
rightly_woken s thread outcome all new = rightly_set s thread (option_map (ended_by outcome) (wait_at s thread)) all new

rightly_all_woken : (s : State) (served : List (ℕ × Reply)) → AllRightly s → ((t : ℕ) → is_served t served ≡ true → (n : ℕ) → IsElse n (wait_at s t)) → AllRightly (all_woken s served)
rightly_all_woken s [] all others = all
rightly_all_woken s ((thread, outcome) ∷ rest) all others =
    rightly_all_woken (woken s thread outcome) rest
    (rightly_woken s thread outcome all (else_rightly (wait_at s thread) (others thread (ap (λ b. b || is_served thread rest) (eq-eqb thread thread refl))) outcome))
    (λ t is n. else_woken n s thread outcome t (others t (or_right (thread == t) (is_served t rest) is) n))

-- whom a release serves has got it
rightly_served : (s : State) (o : Option ℕ) → AllRightly s → AllRightly (all_woken s (one_served o))
rightly_served s None all = all
rightly_served s (Some next) all = rightly_woken s next Done all (done_rightly (wait_at s next))

module _ (count : ℕ) (few : count ≤ thread_limit) where
  abbrev Fair : State → Type 0
  Fair s = IsProper count s × AllRightly s

  module _ (s : State) (h : IsProper count s) (all : AllRightly s) where
    -- a step that was asked for
    rightly_asked : (by : Option ℕ) (step : ElementStep) → IsAsked step → Leaves AllRightly (touched s by step).effect
    rightly_asked by step asked = by_step step asked
      where
        beside : (step : ElementStep) → IsAsked step → is_of_mutexes step ≡ false → Leaves AllRightly (touched s by step).effect
        beside step asked other = left (element (elements s) step) refl
          where
            left : (a : Answered Elements) → element (elements s) step ≡ a → Leaves AllRightly (lifted (λ e. all_woken (with_elements s e) (wakes (elements s) step)) a)
            left (Err refusal) is = tt
            left (Ok (reply, after)) is =
                let same = mutexes_stay (elements s) after reply step other is in
                let stepped = asked_goes (elements s) h.proper.sound after reply step asked is in
                rightly_all_woken (with_elements s after) (wakes (elements s) step) all (λ t served n. else_at n count few s h after same t (stepped.goes.left t served))

        on_mutexes : (n : ℕ) (step : mutex_step.MutexStep) → ((m : MutexRecorded) → (o : Option ℕ) × (mutex_wakes m step ≡ one_served o)) → Leaves AllRightly (touched s by (on_mutex n step)).effect
        on_mutexes n step each = left (element (elements s) (on_mutex n step))
          where
            wakes_one : (o : Option MutexRecorded) (after : Elements) → AllRightly (all_woken (with_elements s after) (option_map_or (λ (m : MutexRecorded). mutex_wakes m step) o []))
            wakes_one None after = all
            wakes_one (Some m) after = subst (λ (ws : List (ℕ × Reply)). AllRightly (all_woken (with_elements s after) ws)) (sym (each m).1) (rightly_served (with_elements s after) (each m).0 all)

            left : (a : Answered Elements) → Leaves AllRightly (lifted (λ e. all_woken (with_elements s e) (wakes (elements s) (on_mutex n step))) a)
            left (Err refusal) = tt
            left (Ok (reply, after)) = wakes_one (slice_get (elements s).mutexes n) after

        by_step : (step : ElementStep) → IsAsked step → Leaves AllRightly (touched s by step).effect
        by_step (on_sem n step) asked = beside (on_sem n step) asked refl
        by_step (on_flags n step) asked = beside (on_flags n step) asked refl
        by_step (on_xbuf n step) asked = beside (on_xbuf n step) asked refl
        by_step (on_mutex n (mutex_step.release thread)) asked = on_mutexes n (mutex_step.release thread) (λ m. ((released_mutex m).next, refl))
        by_step (on_mutex n (mutex_step.raise thread)) asked = on_mutexes n (mutex_step.raise thread) (λ m. (None, refl))
        by_step (on_mutex n (mutex_step.claim w owner)) asked = absurd (false≢true asked)
        by_step (on_mutex n (mutex_step.drop t)) asked = absurd (false≢true asked)

    -- a deadline
    rightly_expired : (thread : ℕ) → AllRightly (deadline_left s thread).1
    rightly_expired thread = by (wait_at s thread) refl
      where
        timed : State
        timed = woken s thread TimedOut

        timed_so : AllRightly timed
        timed_so = rightly_woken s thread TimedOut all (timed_rightly (wait_at s thread))

        drops : (on : Awaited) (after : Elements) (reply : Reply) → element (elements s) (drop_step thread on) ≡ Ok (reply, after) → AllRightly (all_woken (with_elements timed after) (wakes (elements s) (drop_step thread on)))
        drops on after reply is = each on is (subst (Dropped (elements s) on thread (wakes (elements s) (drop_step thread on))) (ap (if_done (elements s)) is) (drop_goes (elements s) h.proper.sound thread on))
          where
            beside : (on : Awaited) → is_of_mutexes (drop_step thread on) ≡ false → element (elements s) (drop_step thread on) ≡ Ok (reply, after) → Dropped (elements s) on thread (wakes (elements s) (drop_step thread on)) after → AllRightly (all_woken (with_elements timed after) (wakes (elements s) (drop_step thread on)))
            beside on other is gone =
                let same = mutexes_stay (elements s) after reply (drop_step thread on) other is in
                rightly_all_woken (with_elements timed after) (wakes (elements s) (drop_step thread on)) timed_so (λ t served n. else_woken n s thread TimedOut t (else_at n count few s h after same t (gone.drops.left t served)))

            each : (on : Awaited) → element (elements s) (drop_step thread on) ≡ Ok (reply, after) → Dropped (elements s) on thread (wakes (elements s) (drop_step thread on)) after → AllRightly (all_woken (with_elements timed after) (wakes (elements s) (drop_step thread on)))
            each (Sem id) is gone = beside (Sem id) refl is gone
            each (Flags id) is gone = beside (Flags id) refl is gone
            each (Writing id way) is gone = beside (Writing id way) refl is gone
            each (Reading id way) is gone = beside (Reading id way) refl is gone
            each (Mutex id) is gone = by_mutex (slice_get (elements s).mutexes id.0)
              where
                by_mutex : (o : Option MutexRecorded) → AllRightly (all_woken (with_elements timed after) (option_map_or (λ (m : MutexRecorded). mutex_wakes m (mutex_step.drop thread)) o []))
                by_mutex None = timed_so
                by_mutex (Some m) = timed_so

        left : (w : Wait) (a : Answered Elements) → element (elements s) (drop_step thread w.on) ≡ a → AllRightly (if_done timed (lifted (λ e. all_woken (with_elements timed e) (wakes (elements s) (drop_step thread w.on))) a))
        left w (Err refusal) is = timed_so
        left w (Ok (reply, after)) is = drops w.on after reply is

        by : (o : Option Wait) → wait_at s thread ≡ o → AllRightly (if_done timed (leaving_queue timed thread o).effect)
        by None none = timed_so
        by (Some w) its = left w (element (elements s) (drop_step thread w.on)) refl

    -- a wait that begins
    rightly_beginning : (caller : ℕ) (wants : Wanted) (until : Option ℕ) → Passed s caller → Leaves AllRightly (beginning s caller wants until).effect
    rightly_beginning caller wants until passed = leaves-refused AllRightly (begin_refusal s caller wants) _ (λ none. left none (element (elements s) step) refl)
      where
        step : ElementStep
        step = begin_step s caller wants

        on : Awaited
        on = awaited_by wants

        waits : (after : Elements) → AllRightly (begun (with_elements s after) caller on until None)
        waits after = by (is_past s.clock.now until)
          where
            there : AllRightly (suspended (with_elements s after) caller on until)
            there = rightly_set s caller (Some (going_on on)) all (or-true (not (is_of_mutex on)))

            by : (b : Bool) → AllRightly (posted_if b (suspended (with_elements s after) caller on until))
            by true = there
            by false = there

        served_so : (after : Elements) (reply : Reply) → element (elements s) step ≡ Ok (reply, after) → begin_refusal s caller wants ≡ None → (o : Option Reply) → serves (elements s) step ≡ o
            → AllRightly (all_woken (begun (with_elements s after) caller on until o) (wakes (elements s) step))
        served_so after reply is none None told = subst (λ (ws : List (ℕ × Reply)). AllRightly (all_woken (begun (with_elements s after) caller on until None) ws)) (sym (its.quiet told)) (waits after)
          where
            its : Begins (elements s) caller on (serves (elements s) step) (wakes (elements s) step) after
            its = begin_goes (elements s) h.proper.sound after reply caller (rank_of s caller) (omega (arith, passed.there, h.threads_are, few)) wants
                (λ on. idle_away count (elements s) s.waits (kept_of count s few h) caller passed.idle on) (free_to_begin s caller wants none) is
        served_so after reply is none (Some outcome) told = kind wants refl
          where
            its : Begins (elements s) caller on (serves (elements s) step) (wakes (elements s) step) after
            its = begin_goes (elements s) h.proper.sound after reply caller (rank_of s caller) (omega (arith, passed.there, h.threads_are, few)) wants
                (λ on. idle_away count (elements s) s.waits (kept_of count s few h) caller passed.idle on) (free_to_begin s caller wants none) is

            v : Option Wait
            v = Some (ended_by outcome (going_on on))

            else_there : ((n : ℕ) → IsElse n v) → (t n : ℕ) → IsElse n (wait_at s t) → IsElse n (wait_of (slice_set s.waits caller v) t)
            else_there its t n was = by (t == caller) refl
              where
                by : (b : Bool) → (t == caller) ≡ b → IsElse n (wait_of (slice_set s.waits caller v) t)
                by true same = subst (λ (k : ℕ). IsElse n (wait_of (slice_set s.waits caller v) k)) (sym (eqb-true t caller same))
                    (⊎_elim (λ (e : slice_index_or (slice_set s.waits caller v) caller None ≡ v). subst (IsElse n) (sym e) (its n)) (λ (e : slice_index_or (slice_set s.waits caller v) caller None ≡ None). subst (IsElse n) (sym e) refl) (index_set s.waits caller v))
                by false ne = subst (IsElse n) (sym (wait_there s caller v t ne)) was

            other_so : wants_mutex wants ≡ false → ((n : ℕ) → IsElse n v) → AllRightly (all_woken (with_wait (with_elements s after) caller v) (wakes (elements s) step))
            other_so other elsewhere =
                let same = mutexes_stay (elements s) after reply step (other_step caller (rank_of s caller) wants other) is in
                rightly_all_woken (with_wait (with_elements s after) caller v) (wakes (elements s) step)
                (rightly_set s caller v all (else_rightly (Some (going_on on)) elsewhere outcome))
                (λ t served n. else_there elsewhere t n (else_at n count few s h after same t ((its.at_once outcome told).left t served)))

            kind : (w : Wanted) → wants ≡ w → AllRightly (all_woken (with_wait (with_elements s after) caller v) (wakes (elements s) step))
            kind (wanted.Sem id) e = other_so (ap wants_mutex e) (λ n. ap (λ (x : Wanted). is_for n (awaited_by x)) e)
            kind (wanted.Flags id k) e = other_so (ap wants_mutex e) (λ n. ap (λ (x : Wanted). is_for n (awaited_by x)) e)
            kind (wanted.Write id way bytes) e = other_so (ap wants_mutex e) (λ n. ap (λ (x : Wanted). is_for n (awaited_by x)) e)
            kind (wanted.Read id way len) e = other_so (ap wants_mutex e) (λ n. ap (λ (x : Wanted). is_for n (awaited_by x)) e)
            kind (wanted.Mutex id owner) e = absurd (let none : serves (elements s) (begin_step s caller (wanted.Mutex id owner)) ≡ Some outcome = ap (λ (x : Wanted). serves (elements s) (begin_step s caller x)) (sym e) ∙ told in cc)

        left : begin_refusal s caller wants ≡ None → (a : Answered Elements) → element (elements s) step ≡ a → Leaves AllRightly (lifted (λ e. all_woken (begun (with_elements s e) caller on until (serves (elements s) step)) (wakes (elements s) step)) a)
        left none (Err refusal) is = tt
        left none (Ok (reply, after)) is = served_so after reply is none (serves (elements s) step) refl

    rightly_finish : (caller : ℕ) (keep : Bool) → Leaves AllRightly (finish s caller keep)
    rightly_finish caller keep = by (outcome_of (wait_at s caller))
      where
        free : AllRightly (with_wait s caller None)
        free = rightly_set s caller None all refl

        goes : (b : Bool) → AllRightly (inband_if b (with_wait s caller None) caller)
        goes true = free
        goes false = free

        by : (r : Result Reply Refusal) → Leaves AllRightly (leaving (inband_if (goes_inband s caller keep) (with_wait s caller None) caller) r)
        by (Ok reply) = goes (goes_inband s caller keep)
        by (Err refusal) = tt

  both : (e : Answered State) → Leaves (IsProper count) e → Leaves AllRightly e → Leaves Fair e
  both (Ok (reply, s)) a b = (a, b)
  both (Err refusal) a b = tt

  fair_by_each : KeptByEach Fair
  fair_by_each = let k = kept_by_each count few in record {
    lined = λ s q h. (k.lined s q h.0, h.1);
    banked = λ s number home b h. (k.banked s number home b h.0, h.1);
    clocked = λ s c same h. (k.clocked s c same h.0, h.1);
    paid = λ s before delta now h. (k.paid s before delta now h.0, h.1);
    asked = λ s by step plain may h. both (touched s by step).effect (k.asked s by step plain may h.0) (rightly_asked s h.0 h.1 by step plain);
    expired = λ s thread h. (k.expired s thread h.0, rightly_expired s h.0 h.1 thread);
  }

  fair_by_own : (s : State) (caller : ℕ) (asked : Call) → KeptByOwn Fair s caller asked
  fair_by_own s caller asked = let k = kept_by_own count few s caller asked in record {
    threads = λ step is passed h. both _ (k.threads step is passed h.0) (leaves-threads AllRightly (λ x q hx. hx) s caller step h.1);
    begun = λ wants until is passed h. both _ (k.begun wants until is passed h.0) (rightly_beginning s h.0 h.1 caller wants until (passed_all s caller asked (ap ends_a_wait is) passed));
    ended = λ keep is h. both _ (k.ended keep is h.0) (rightly_finish s h.0 h.1 caller keep);
  }

opened_rightly : (board : Board) (bank : List Handler) → AllRightly (opening board bank)
opened_rightly board bank t = ap ends_rightly (at-none {A = Wait} board.threads t)

all_rightly : (h : History) → IsLegal h → board_fits h.board ≡ true → AllRightly h.state
all_rightly h legal fits =
    let few = threads_few h.board fits in
    (run_holds (Fair h.board.threads few) (fair_by_each h.board.threads few) (fair_by_own h.board.threads few) (opened_kernel h) h.entries h.plays h.state (proper_opening h.board h.bank fits, opened_rightly h.board h.bank) legal).1

pub waits_end_rightly : MutexWaitsEndRightly
waits_end_rightly h legal fits t id on over = by (wait_at h.state t) on over (all_rightly h legal fits t)
  where
    outcome : (o : Option Reply) → is_some o ≡ true → option_map_or (λ r. is_done r || is_timeout r) o true ≡ true → (option_map_or is_done o false) ≡ not (option_map_or is_timeout o false)
    outcome None over fair = absurd (false≢true over)
    outcome (Some Done) over fair = refl
    outcome (Some TimedOut) over fair = refl
    outcome (Some Begun) over fair = absurd (false≢true fair)
    outcome (Some (Count c)) over fair = absurd (false≢true fair)
    outcome (Some (Bits b)) over fair = absurd (false≢true fair)
    outcome (Some (Number n)) over fair = absurd (false≢true fair)
    outcome (Some (Bytes b)) over fair = absurd (false≢true fair)
    outcome (Some (Chosen c)) over fair = absurd (false≢true fair)
    outcome (Some (Handed next more)) over fair = absurd (false≢true fair)

    by : (o : Option Wait) → option_map (λ (w : Wait). w.on) o ≡ Some (Mutex id) → option_map_or (λ (w : Wait). is_some w.outcome) o false ≡ true → ends_rightly o ≡ true
        → got_it id.0 o ≡ not (option_map_or (λ (w : Wait). option_map_or is_timeout w.outcome false) o false)
    by None on over fair = absurd (false≢true over)
    by (Some w) on over fair =
        let is : w.on ≡ Mutex id = cc in
        ap (λ (a : Awaited). is_for id.0 a && option_map_or is_done w.outcome false) is ∙ ap (λ b. b && option_map_or is_done w.outcome false) (eq-eqb id.0 id.0 refl)
        ∙ outcome w.outcome over (sym (ap (λ (a : Awaited). not (is_of_mutex a) || option_map_or (λ r. is_done r || is_timeout r) w.outcome true) is) ∙ fair)
