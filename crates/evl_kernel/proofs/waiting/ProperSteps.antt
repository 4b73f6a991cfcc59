-- Waits that begin and end, and steps on threads, leave the waits proper; so does each run.
use Rattle.std.proofs.Common.{◌≡◌, ◌<◌, ◌≤◌, ℕ, ◌==◌, ◌⊎◌, inl, inr, nat_le, min, Bool, true, false, not, ◌&&◌, ◌||◌, List, replicate, Option, Some, None, Ok, Err, is_none, is_some, slice_set, slice_index_or, if◌then◌else◌, refl, sym, ap, ◌∙◌, subst, arith}
use Rattle.std.specs.Option.{option_map_or}
use Rattle.std.proofs.lemmas.Bool.{false≢true, and_parts, eqb-true}
use Rattle.std.proofs.lemmas.Bool.Decides.{nat_tests}
use Rattle.std.proofs.lemmas.List.{length-set, length-replicate}
use Rattle.std.proofs.lemmas.Option.{none-some, same_Some}
use Rattle.std.proofs.Math.Bool.{and-true, and-false}
use Rattle.evl_base.proofs.Plain.{eqb-swap_false, some-none}
use Rattle.evl_base.specs.Limits.{thread_limit}
use Rattle.evl_base.specs.Board.{board_fits}
use Rattle.evl_base.specs.declared.board.Board.{Board}
use Rattle.evl_base.specs.declared.call.Call.{Call}
use Rattle.evl_base.specs.declared.refusal.Refusal.TheVariants.{Again, Busy, Unknown}
use Rattle.evl_base.specs.declared.reply.Reply.{Reply}
use Rattle.evl_base.specs.declared.stage.Stage.TheVariants.{Inband}
use Rattle.evl_pipeline.proofs.PortLaws.{at-none}
use Rattle.evl_clock.specs.Clocks as clocks
use Rattle.evl_clock.specs.Clocks.{deadline_at}
use Rattle.evl_sched.specs.Calls.{attach_refusal, set_policy_refusal, stranger_refusal}
use Rattle.evl_sched.specs.Threads as threads
use Rattle.evl_sched.specs.Threads.{Sched, is_oob, is_ready, stage_of, stage_set, unready}
use Rattle.evl_sched.specs.declared.seat.Seat.{Seat}
use Rattle.evl_kernel.specs.declared.waits.Awaited.{Awaited}
use Rattle.evl_kernel.specs.declared.waits.Wait.{Wait}
use Rattle.evl_kernel.specs.declared.waits.Wanted.{Wanted}
use Rattle.evl_kernel.specs.state.States.{State, Elements, Handler, with_sched}
use Rattle.evl_kernel.specs.calls.Effects.{Answered, leaving, lifted}
use Rattle.evl_kernel.specs.calls.Elements.{ElementStep, element, elements, serves, wakes, with_elements}
use Rattle.evl_kernel.specs.waiting.Waits.{wait_of, wait_at, with_wait, going_on, ended_by, is_past, suspended, wait_begun as begun, all_woken}
use Rattle.evl_kernel.specs.waiting.Beginnings.{awaited_by, begin_refusal, begin_step, beginning}
use Rattle.evl_kernel.specs.waiting.Endings.{finish, goes_inband, inband_if, outcome_of}
use Rattle.evl_kernel.specs.calls.ThreadCalls as thread_call
use Rattle.evl_kernel.specs.calls.ThreadCalls.{rank_of, detach_refusal}
use Rattle.evl_kernel.specs.calls.TimerCalls.{posted_if}
use Rattle.evl_kernel.specs.calls.Families.{ThreadStep, attach, detach, set_policy, set_stage, pick, tell_rank, thread_effect, task_of}
use Rattle.evl_kernel.specs.calls.Serving.{ends_a_wait, general_refusal}
use Rattle.evl_kernel.specs.state.Openings.{all_opened, opening}
use Rattle.evl_kernel.specs.histories.Histories.{History, IsLegal, opened_kernel}
use Rattle.evl_kernel.specs.histories.WaitInvariant.{WaitsAreProper, WaitsStayProper, is_blocked}
use Rattle.evl_kernel.specs.state.Records.{WaitsAreKept}
use Rattle.evl_kernel.specs.waiting.Standing.{is_served, stands_for}
use Rattle.evl_kernel.proofs.calls.LeavesLaws.{Leaves, leaves-refused}
use Rattle.evl_kernel.proofs.state.OpeningLaws.{nobody_stands, opened_sound, threads_few}
use Rattle.evl_kernel.proofs.waiting.ReadyLaws.{ReadyAnew, anew-attached, anew-detached, anew-policy_set, anew-stage_set, ready-paid, stage-paid, unready-itself, unready-other}
use Rattle.evl_kernel.proofs.calls.QueueSteps.{Comes}
use Rattle.evl_kernel.proofs.calls.QueueLaws.{Begins, Stepped, begin_goes}
use Rattle.evl_kernel.proofs.calls.BeginLaws.{free_to_begin}
use Rattle.evl_kernel.proofs.histories.StateWalk.{KeptByEach, KeptByOwn, run_holds}
use Rattle.evl_kernel.proofs.waiting.WaitLaws.{ProperBeside, proper_all, proper_beside, proper_freed, over_if, over_set, wait_there}
use Rattle.evl_kernel.proofs.waiting.WaitRecords.{away_after, away_of, idle_away, index_here, index_there}
use Rattle.evl_kernel.proofs.waiting.ProperLaws.{IsProper, is_woken, kept_of, proper_asked, proper_expired}

-- A thread whose wait doesn't go on is ready as its stage says, has no deadline, and is in no queue.
module _ (n : ℕ) (few : n ≤ thread_limit) (s : State) (h : IsProper n s) (thread : ℕ) (over : over_if (wait_at s thread)) where
  pub ready_as : is_ready s.sched thread ≡ is_oob (stage_of s.sched thread)
  ready_as = h.proper.ready thread ∙ (ap (λ (c : Bool). is_oob (stage_of s.sched thread) && not c) over ∙ and-true (is_oob (stage_of s.sched thread)))

  no_date : (date : ℕ) → deadline_at s.clock thread ≡ Some date → ⊥
  no_date date is = false≢true (sym over ∙ h.proper.dated thread date is)

  pub stands_nowhere : (on : Awaited) → stands_for (elements s) on thread ≡ false
  stands_nowhere = away_of n (elements s) s.waits (kept_of n s few h) thread (λ on is. false≢true (sym over ∙ ap (λ (o : Option Wait). option_map_or (λ (w : Wait). is_none w.outcome) o false) is))

  -- its seat changes
  pub proper_seat : (sched : Sched) → ReadyAnew s.sched sched thread → IsProper n (with_sched s sched)
  proper_seat sched anew = record {
    proper = proper_all (with_sched s sched)
        (proper_freed s thread (λ t. false) (proper_beside s (λ t. (thread == t) || false) h.proper) stands_nowhere s.waits (λ t ne. refl) over sched anew s.clock.deadlines no_date (λ t ne. refl));
    threads_are = h.threads_are;
    places = h.places;
  }

  -- and its wait, to one that doesn't go on either
  pub proper_wait : (wait : Option Wait) → over_if wait → (sched : Sched) → ReadyAnew s.sched sched thread → IsProper n (with_sched (with_wait s thread wait) sched)
  proper_wait wait ended sched anew = record {
    proper = proper_all (with_sched (with_wait s thread wait) sched)
        (proper_freed s thread (λ t. false) (proper_beside s (λ t. (thread == t) || false) h.proper) stands_nowhere (slice_set s.waits thread wait) (wait_there s thread wait)
        (over_set s.waits thread wait ended) sched anew s.clock.deadlines no_date (λ t ne. refl));
    threads_are = h.threads_are;
    places = length-set s.waits thread wait ∙ h.places;
  }

  pub same_seat : ReadyAnew s.sched s.sched thread
  same_seat = record { itself = ready_as; others = λ t ne. refl; stages = λ t ne. refl }

-- what is against a call, and what is known where nothing is
pub record Passed (s : State) (caller : ℕ) : Type 0 where
  pub idle : wait_at s caller ≡ None
  pub there : caller < s.threads

pub passed_all : (s : State) (caller : ℕ) (asked : Call) → ends_a_wait (task_of asked) ≡ false → general_refusal s caller asked ≡ None → Passed s caller
passed_all s caller asked other = by (ends_a_wait (task_of asked)) other (wait_at s caller) refl (nat_le s.threads caller) refl
  where
    below : (a b : ℕ) → nat_le a b ≡ false → b < a
    below a b e = grind (arith, nat_tests)

    by : (ending : Bool) → ending ≡ false → (o : Option Wait) → wait_at s caller ≡ o → (out : Bool) → nat_le s.threads caller ≡ out
        → (if not ending && is_some o then Some Busy else (if out then Some Unknown else None)) ≡ None → Passed s caller
    by true e o its out is h = absurd (false≢true (sym e))
    by false e (Some w) its out is h = absurd (some-none _ h)
    by false e None its true is h = absurd (some-none _ h)
    by false e None its false is h = record { idle = its; there = below s.threads caller is }

pub over_none : (s : State) (thread : ℕ) → wait_at s thread ≡ None → over_if (wait_at s thread)
over_none s thread none = ap (λ (o : Option Wait). option_map_or (λ (w : Wait). is_none w.outcome) o false) none

module _ (n : ℕ) (few : n ≤ thread_limit) where
  proper_threads : (s : State) (caller : ℕ) (step : ThreadStep) → wait_at s caller ≡ None → IsProper n s → Leaves (IsProper n) (thread_effect s caller step)
  proper_threads s caller (attach policy stage) idle h = leaves-refused (IsProper n) (attach_refusal s.sched caller policy) _ (λ passed.
      proper_seat n few s h caller (over_none s caller idle) _ (anew-attached s.sched caller policy stage))
  proper_threads s caller detach idle h = leaves-refused (IsProper n) (detach_refusal s caller) _ (λ passed.
      proper_seat n few s h caller (over_none s caller idle) _ (anew-detached s.sched caller))
  proper_threads s caller (set_policy policy) idle h = leaves-refused (IsProper n) (set_policy_refusal s.sched caller policy) _ (λ passed.
      proper_seat n few s h caller (over_none s caller idle) _ (anew-policy_set s.sched caller policy (ready_as n few s h caller (over_none s caller idle))))
  proper_threads s caller (set_stage stage) idle h = leaves-refused (IsProper n) (stranger_refusal s.sched caller) _ (λ passed.
      proper_seat n few s h caller (over_none s caller idle) _ (anew-stage_set s.sched caller stage (ready_as n few s h caller (over_none s caller idle))))
  proper_threads s caller pick idle h = h
  proper_threads s caller (tell_rank thread) idle h = leaves-refused (IsProper n) (stranger_refusal s.sched thread) _ (λ passed. h)

  -- a wait is finished
  proper_finish : (s : State) (caller : ℕ) (keep : Bool) → IsProper n s → Leaves (IsProper n) (finish s caller keep)
  proper_finish s caller keep h = by (wait_at s caller) refl
    where
      free : Bool → State
      free goes = inband_if goes (with_wait s caller None) caller

      gone : (goes : Bool) → over_if (wait_at s caller) → IsProper n (free goes)
      gone true over = proper_wait n few s h caller over None refl (stage_set s.sched caller Inband) (anew-stage_set s.sched caller Inband (ready_as n few s h caller over))
      gone false over = proper_wait n few s h caller over None refl s.sched (same_seat n few s h caller over)

      by_outcome : (w : Wait) → wait_at s caller ≡ Some w → (o : Option Reply) → w.outcome ≡ o → Leaves (IsProper n) (leaving (free (goes_inband s caller keep)) (option_map_or (λ outcome. Ok outcome) o (Err Again)))
      by_outcome w its None none = tt
      by_outcome w its (Some outcome) is =
          gone (goes_inband s caller keep) (ap (λ (o : Option Wait). option_map_or (λ (v : Wait). is_none v.outcome) o false) its ∙ ap (λ (o : Option Reply). is_none o) is)

      by : (o : Option Wait) → wait_at s caller ≡ o → Leaves (IsProper n) (leaving (free (goes_inband s caller keep)) (outcome_of o))
      by None none = tt
      by (Some w) its = by_outcome w its w.outcome refl

  -- a wait begins
  module _ (s : State) (caller : ℕ) (passed : Passed s caller) (h : IsProper n s) (until : Option ℕ) (on : Awaited) (told : Option Reply) (served : List (ℕ × Reply)) (after : Elements)
      (begins : Begins (elements s) caller on told served after) where
    abbrev at_once : State
    at_once = with_elements s after

    kept : WaitsAreKept n (elements s) s.waits
    kept = kept_of n s few h

    nowhere : (other : Awaited) → stands_for (elements s) other caller ≡ false
    nowhere = idle_away n (elements s) s.waits kept caller passed.idle

    -- it is served
    proper_served : (outcome : Reply) → told ≡ Some outcome → IsProper n (all_woken (begun at_once caller on until (Some outcome)) served)
    proper_served outcome is =
        is_woken n (begun at_once caller on until (Some outcome)) served h.threads_are (length-set s.waits caller _ ∙ h.places)
        (proper_freed at_once caller (λ t. is_served t served) beside away (slice_set s.waits caller (Some (ended_by outcome (going_on on)))) (wait_there s caller (Some (ended_by outcome (going_on on))))
        (over_set s.waits caller (Some (ended_by outcome (going_on on))) refl) s.sched (same_seat n few s h caller (over_none s caller passed.idle)) s.clock.deadlines
        (no_date n few s h caller (over_none s caller passed.idle)) (λ t ne. refl))
        (away_after n (elements s) s.waits kept served after stepped)
      where
        stepped : Stepped (elements s) served after
        stepped = record { sound = begins.sound; goes = begins.at_once outcome is }

        away : (other : Awaited) → stands_for after other caller ≡ false
        away other = by (stands_for after other caller) refl
          where
            by : (b : Bool) → stands_for after other caller ≡ b → b ≡ false
            by true stands = absurd (false≢true (sym (nowhere other) ∙ stepped.goes.old other caller stands))
            by false stands = refl

        both : (a b : Bool) → (a || b) ≡ false → b ≡ false
        both true b e = absurd (false≢true (sym e))
        both false b e = e

        beside : ProperBeside at_once (λ t. (caller == t) || is_served t served)
        beside = record {
          sound = begins.sound;
          stands = λ other t ne stands. h.proper.stands other t (sym (stepped.goes.same other t (both (caller == t) (is_served t served) ne)) ∙ stands);
          waits = λ other t ne its. stepped.goes.same other t (both (caller == t) (is_served t served) ne) ∙ h.proper.waits other t its;
          ready = λ t ne. h.proper.ready t;
          dated = λ t date ne. h.proper.dated t date;
        }

    -- it waits
    module _ (nothing : told ≡ None) where
      comes : Comes (elements s) on caller after
      comes = begins.waits nothing

      mine : wait_of (slice_set s.waits caller (Some (going_on on))) caller ≡ Some (going_on on)
      mine = index_here s.waits caller (Some (going_on on)) None (omega (arith, passed.there, h.threads_are, h.places))

      theirs : (t : ℕ) → (t == caller) ≡ false → wait_of (slice_set s.waits caller (Some (going_on on))) t ≡ wait_at s t
      theirs t ne = wait_there s caller (Some (going_on on)) t ne

      proper_after : WaitsAreProper (suspended at_once caller on until)
      proper_after = record {
        sound = begins.sound;
        stands = λ other t is. stands_ other t is (t == caller) refl;
        waits = λ other t is. waits_ other t is (t == caller) refl;
        ready = λ t. ready_ t (t == caller) refl;
        dated = λ t date is. dated_ t date is (t == caller) refl;
      }
        where
          -- the caller waits for this alone
          alone : (other : Awaited) → (on ≡ other) ⊎ (stands_for (elements s) other caller ≡ true) → on ≡ other
          alone other (inl same) = same
          alone other (inr stood) = absurd (false≢true (sym (nowhere other) ∙ stood))

          stands_ : (other : Awaited) (t : ℕ) → stands_for after other t ≡ true → (b : Bool) → (t == caller) ≡ b → wait_of (slice_set s.waits caller (Some (going_on on))) t ≡ Some (going_on other)
          stands_ other t is true same =
              subst (λ (m : ℕ). wait_of (slice_set s.waits caller (Some (going_on on))) m ≡ Some (going_on other)) (sym (eqb-true t caller same))
              (mine ∙ ap (λ (x : Awaited). Some (going_on x)) (alone other (comes.alone other (ap (stands_for after other) (sym (eqb-true t caller same)) ∙ is))))
          stands_ other t is false ne = theirs t ne ∙ h.proper.stands other t (sym (comes.same other t ne) ∙ is)

          on_is : (other : Awaited) → wait_of (slice_set s.waits caller (Some (going_on on))) caller ≡ Some (going_on other) → on ≡ other
          on_is other is = ap (λ (w : Wait). w.on) (same_Some _ _ (sym mine ∙ is))

          waits_ : (other : Awaited) (t : ℕ) → wait_of (slice_set s.waits caller (Some (going_on on))) t ≡ Some (going_on other) → (b : Bool) → (t == caller) ≡ b → stands_for after other t ≡ true
          waits_ other t is true same =
              subst (λ (m : ℕ). stands_for after other m ≡ true) (sym (eqb-true t caller same))
              (ap (λ (x : Awaited). stands_for after x caller) (sym (on_is other (ap (wait_of (slice_set s.waits caller (Some (going_on on)))) (sym (eqb-true t caller same)) ∙ is))) ∙ comes.there)
          waits_ other t is false ne = comes.same other t ne ∙ h.proper.waits other t (sym (theirs t ne) ∙ is)

          block : Option Wait → Bool
          block o = option_map_or (λ (w : Wait). is_none w.outcome) o false

          ready_ : (t : ℕ) (b : Bool) → (t == caller) ≡ b → is_ready (unready s.sched caller) t ≡ (is_oob (stage_of s.sched t) && not (block (wait_of (slice_set s.waits caller (Some (going_on on))) t)))
          ready_ t true same =
              subst (λ (m : ℕ). is_ready (unready s.sched caller) m ≡ (is_oob (stage_of s.sched m) && not (block (wait_of (slice_set s.waits caller (Some (going_on on))) m)))) (sym (eqb-true t caller same))
              (unready-itself s.sched caller ∙ sym (ap (λ (o : Option Wait). is_oob (stage_of s.sched caller) && not (block o)) mine ∙ and-false (is_oob (stage_of s.sched caller))))
          ready_ t false ne =
              unready-other s.sched caller t ne ∙ (h.proper.ready t ∙ ap (λ (o : Option Wait). is_oob (stage_of s.sched t) && not (block o)) (sym (theirs t ne)))

          dated_ : (t date : ℕ) → slice_index_or (slice_set s.clock.deadlines caller until) t None ≡ Some date → (b : Bool) → (t == caller) ≡ b
              → block (wait_of (slice_set s.waits caller (Some (going_on on))) t) ≡ true
          dated_ t date is true same =
              subst (λ (m : ℕ). block (wait_of (slice_set s.waits caller (Some (going_on on))) m) ≡ true) (sym (eqb-true t caller same)) (ap block mine)
          dated_ t date is false ne = ap block (theirs t ne) ∙ h.proper.dated t date (sym (index_there s.clock.deadlines caller t until None (eqb-swap_false t caller ne)) ∙ is)

      proper_blocked : IsProper n (all_woken (begun at_once caller on until None) served)
      proper_blocked = subst (λ (ws : List (ℕ × Reply)). IsProper n (all_woken (begun at_once caller on until None) ws)) (sym (begins.quiet nothing)) (by (is_past s.clock.now until))
        where
          by : (b : Bool) → IsProper n (posted_if b (suspended at_once caller on until))
          by true = record {
            proper = record { sound = proper_after.sound; stands = proper_after.stands; waits = proper_after.waits; ready = proper_after.ready; dated = proper_after.dated };
            threads_are = h.threads_are;
            places = length-set s.waits caller _ ∙ h.places;
          }
          by false = record { proper = proper_after; threads_are = h.threads_are; places = length-set s.waits caller _ ∙ h.places }

    pub proper_begun : (o : Option Reply) → told ≡ o → IsProper n (all_woken (begun at_once caller on until o) served)
    proper_begun None nothing = proper_blocked nothing
    proper_begun (Some outcome) is = proper_served outcome is

  proper_beginning : (s : State) (caller : ℕ) (wants : Wanted) (until : Option ℕ) → Passed s caller → IsProper n s → Leaves (IsProper n) (beginning s caller wants until).effect
  proper_beginning s caller wants until passed h = leaves-refused (IsProper n) (begin_refusal s caller wants) _ (λ none. left none (element (elements s) step) refl)
    where
      step : ElementStep
      step = begin_step s caller wants

      left : begin_refusal s caller wants ≡ None → (a : Answered Elements) → element (elements s) step ≡ a
          → Leaves (IsProper n) (lifted (λ e. all_woken (begun (with_elements s e) caller (awaited_by wants) until (serves (elements s) step)) (wakes (elements s) step)) a)
      left none (Err refusal) is = tt
      left none (Ok (reply, after)) is =
          let begins = begin_goes (elements s) h.proper.sound after reply caller (rank_of s caller) (omega (arith, passed.there, h.threads_are, few)) wants
          (λ on. idle_away n (elements s) s.waits (kept_of n s few h) caller passed.idle on) (free_to_begin s caller wants none) is in
          proper_begun s caller passed h until (awaited_by wants) (serves (elements s) step) (wakes (elements s) step) after begins (serves (elements s) step) refl

  pub kept_by_each : KeptByEach (IsProper n)
  kept_by_each = record {
    lined = λ s q h. record { proper = record { sound = h.proper.sound; stands = h.proper.stands; waits = h.proper.waits; ready = h.proper.ready; dated = h.proper.dated }; threads_are = h.threads_are; places = h.places };
    banked = λ s number home b h. record { proper = record { sound = h.proper.sound; stands = h.proper.stands; waits = h.proper.waits; ready = h.proper.ready; dated = h.proper.dated }; threads_are = h.threads_are; places = h.places };
    clocked = λ s c same h. record {
      proper = record {
        sound = h.proper.sound;
        stands = h.proper.stands;
        waits = h.proper.waits;
        ready = h.proper.ready;
        dated = λ t date is. h.proper.dated t date (ap (λ (ds : List (Option ℕ)). slice_index_or ds t None) (sym same) ∙ is);
      };
      threads_are = h.threads_are;
      places = h.places;
    };
    paid = λ s before delta now h. proper_paid s before delta now h;
    asked = λ s by step plain may h. proper_asked n few s h by step plain;
    expired = λ s thread h. proper_expired n few s h thread;
  }
    where
      oob : (s : State) → IsProper n s → (t : ℕ) → is_ready s.sched t ≡ true → is_oob (stage_of s.sched t) ≡ true
      oob s h t ready = (and_parts (is_oob (stage_of s.sched t)) (not (is_blocked s t)) (sym (h.proper.ready t) ∙ ready)).0

      proper_paid : (s : State) (before delta now : ℕ) → IsProper n s → IsProper n (thread_call.paid_between s before delta now)
      proper_paid s before delta now h = record {
        proper = record {
          sound = h.proper.sound;
          stands = h.proper.stands;
          waits = h.proper.waits;
          ready = λ t. ready-paid (thread_call.rank_of s) s.sched before delta now t (oob s h)
              ∙ (h.proper.ready t ∙ ap (λ (v : _). is_oob v && not (is_blocked s t)) (sym (stage-paid (thread_call.rank_of s) s.sched before delta now t)));
          dated = h.proper.dated;
        };
        threads_are = h.threads_are;
        places = h.places;
      }

  pub kept_by_own : (s : State) (caller : ℕ) (asked : Call) → KeptByOwn (IsProper n) s caller asked
  kept_by_own s caller asked = record {
    threads = λ step is passed h. proper_threads s caller step (passed_all s caller asked (ap ends_a_wait is) passed).idle h;
    begun = λ wants until is passed h. proper_beginning s caller wants until (passed_all s caller asked (ap ends_a_wait is) passed) h;
    ended = λ keep is h. proper_finish s caller keep h;
  }

-- a new kernel
pub proper_opening : (board : Board) (bank : List Handler) → board_fits board ≡ true → IsProper board.threads (opening board bank)
unfolding threads.opening clocks.opening
proper_opening board bank fits = record {
  proper = record {
    sound = opened_sound board fits;
    stands = λ on t stands. absurd (false≢true (sym (nobody on t) ∙ stands));
    waits = λ on t is. absurd (none-some _ (sym (no_wait t) ∙ is));
    ready = λ t. sym (ap (λ (o : Option Seat). is_oob (option_map_or (λ (seat : Seat). seat.stage) o Inband) && not (is_blocked (opening board bank) t)) (at-none {A = Seat} board.threads t));
    dated = λ t date is. absurd (none-some _ (sym (at-none {A = ℕ} (min board.threads thread_limit) t) ∙ is));
  };
  threads_are = refl;
  places = length-replicate board.threads None;
}
  where
    no_wait : (t : ℕ) → wait_of (replicate board.threads None) t ≡ None
    no_wait t = at-none {A = Wait} board.threads t

    nobody : (on : Awaited) (t : ℕ) → stands_for (all_opened board) on t ≡ false
    nobody = nobody_stands board

pub proper_at : (h : History) → IsLegal h → board_fits h.board ≡ true → IsProper h.board.threads h.state
proper_at h legal fits =
    let few = threads_few h.board fits in
    run_holds (IsProper h.board.threads) (kept_by_each h.board.threads few) (kept_by_own h.board.threads few) (opened_kernel h) h.entries h.plays h.state (proper_opening h.board h.bank fits) legal

pub waits_stay : WaitsStayProper
waits_stay h legal fits = (proper_at h legal fits).proper
