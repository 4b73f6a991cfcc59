-- Only ticks, steps on threads and waits change the scheduler's record, and none of them changes the stage of a thread but
-- its own caller's.
use Rattle.std.proofs.Common.{◌≡◌, ℕ, ◌-◌, zero, suc, ◌==◌, ◌&&◌, nat_le, not, Bool, true, false, true≢false, ◌≤◌, List, [], ◌∷◌, length, Option, Some, None, slice_index_or, if◌then◌else◌, refl, sym, ap, ◌∙◌, arith}
use Rattle.std.specs.Option.{option_map, option_map_or}
use Rattle.std.proofs.lemmas.List.{length-replicate, length-set}
use Rattle.evl_base.specs.declared.call.Call.{Call}
use Rattle.evl_base.specs.declared.policy.Policy.{Policy}
use Rattle.evl_base.specs.declared.policy.Policy.TheVariants.{Fifo, Rr, Quota, Weak}
use Rattle.evl_base.specs.declared.stage.Stage.{Stage}
use Rattle.evl_base.specs.declared.stage.Stage.TheVariants.{Inband}
use Rattle.evl_sched.specs.declared.seat.Seat.{Seat}
use Rattle.evl_sched.specs.Threads as threads
use Rattle.evl_sched.specs.Threads.{Sched, seat_at, stage_of, with_seat}
use Rattle.evl_sched.proofs.StageLaws.{stage-attached, stage-charged, stage-detached, stage-policy_set, stage-stage_set}
use Rattle.evl_sched.specs.Picks.{picked}
use Rattle.evl_sched.specs.Groups.{is_new_second}
use Rattle.evl_sched.specs.Charges.{slice_charged, policy_charged, thread_charged, charged, refilled_groups, refilled_at}
use Rattle.evl_sched.specs.Calls.{attach_refusal, set_policy_refusal, stranger_refusal}
use Rattle.evl_kernel.specs.state.States.{State}
use Rattle.evl_kernel.specs.calls.ThreadCalls as thread_call
use Rattle.evl_kernel.specs.calls.Serving.{answer}
use Rattle.evl_base.specs.declared.board.Board.{Board}
use Rattle.evl_kernel.specs.state.States.{Handler}
use Rattle.evl_kernel.specs.state.Openings.{opening}
use Rattle.evl_kernel.specs.histories.Histories.{History, IsLegal, opened_kernel}
use Rattle.std.specs.Prelude.{Result, Ok, Err}
use Rattle.std.proofs.lemmas.Bool.{ne_eqb}
use Rattle.evl_base.specs.declared.refusal.Refusal.{Refusal}
use Rattle.evl_base.specs.declared.reply.Reply.{Reply}
use Rattle.evl_sched.specs.Policies.{is_weak}
use Rattle.evl_kernel.specs.calls.Effects.{leaving}
use Rattle.evl_kernel.specs.waiting.Waits.{wait_at, with_wait}
use Rattle.evl_kernel.specs.waiting.Endings.{finish, goes_inband, has_got_mutex, inband_if, outcome_of}
use Rattle.evl_kernel.specs.histories.Laws.{StagesAreTheThreadsOwn, StagesStayWhereNobodyMoves}
use Rattle.evl_kernel.specs.calls.Families.{ThreadStep, attach, detach, set_policy, set_stage, pick, tell_rank, thread_effect, ends, moves_caller, on_threads, task_of}
use Rattle.evl_kernel.proofs.calls.LeavesLaws.{Leaves, leaves-refused}
use Rattle.evl_kernel.proofs.waiting.WaitSteps.{KeptByWakes, kept-deadline, leaves-touched, leaves-beginning, leaves-finish, timed-by}
use Rattle.evl_kernel.proofs.histories.StateWalk.{KeptByEach, KeptByOwn, follows_holds, holds-answer, run_holds}
use Rattle.evl_kernel.specs.calls.ThreadCalls.{detach_refusal}

-- whatever is said of the scheduler's record alone, and stays true when the picked thread pays and when others are ready
module _ (Q : Sched → Type 0) (pays : (rank : ℕ → ℕ) (q : Sched) (before delta now : ℕ) → Q q → Q (refilled_at before now (charged rank q delta))) (queues : (q : Sched) (ready : List ℕ) → Q q → Q (record q { ready = ready })) where
  abbrev pub Holds : State → Type 0
  Holds s = Q s.sched

  kept_waiting : KeptByWakes Holds
  kept_waiting = record { changed = λ s e h. h; waiting = λ s thread wait h. h; freed = λ s thread h. h; queued = λ s ready h. queues s.sched ready h }

  pub kept_by_each : KeptByEach Holds
  kept_by_each = record {
    lined = λ s q h. h;
    banked = λ s number home b h. h;
    clocked = λ s c same h. h;
    paid = λ s before delta now h. pays (thread_call.rank_of s) s.sched before delta now h;
    asked = λ s by step plain may h. leaves-touched Holds kept_waiting s by step h;
    expired = λ s thread h. kept-deadline Holds kept_waiting s thread h;
  }

  -- where it stays true of this caller's steps on threads, and as the caller goes in-band
  pub kept_by_own : (s : State) (caller : ℕ) (asked : Call) → ((step : ThreadStep) → Holds s → Leaves Holds (thread_effect s caller step)) → ((q : Sched) → Q q → Q (threads.stage_set q caller Inband)) → KeptByOwn Holds s caller asked
  kept_by_own s caller asked steps goes = record {
    threads = λ step is passed h. steps step h;
    begun = λ on until is passed h. leaves-beginning Holds kept_waiting (timed-by Holds kept_waiting (λ s h. h) (λ s thread until h. h)) s caller on until h;
    ended = λ keep is h. leaves-finish Holds kept_waiting s caller keep (λ x hx. goes x.sched hx) h;
  }

-- the stage of a thread that isn't the caller
module _ (thread : ℕ) where
  stage-paid : (stage : Stage) (rank : ℕ → ℕ) (q : Sched) (before delta now : ℕ) → stage_of q thread ≡ stage → stage_of (refilled_at before now (charged rank q delta)) thread ≡ stage
  stage-paid stage rank q before delta now h = by (is_new_second before now)
    where
      by : (b : Bool) → stage_of (if b then refilled_groups (charged rank q delta) else charged rank q delta) thread ≡ stage
      by true = stage-charged rank q delta thread ∙ h
      by false = stage-charged rank q delta thread ∙ h

  stage-threads : (s : State) (caller : ℕ) (step : ThreadStep) → (thread == caller) ≡ false → Leaves (λ x. stage_of x.sched thread ≡ stage_of s.sched thread) (thread_effect s caller step)
  stage-threads s caller (attach policy stage) other = leaves-refused (λ x. stage_of x.sched thread ≡ stage_of s.sched thread) (attach_refusal s.sched caller policy) _ (λ passed. stage-attached s.sched caller policy stage thread other)
  stage-threads s caller detach other = leaves-refused (λ x. stage_of x.sched thread ≡ stage_of s.sched thread) (detach_refusal s caller) _ (λ passed. stage-detached s.sched caller thread other)
  stage-threads s caller (set_policy policy) other = leaves-refused (λ x. stage_of x.sched thread ≡ stage_of s.sched thread) (set_policy_refusal s.sched caller policy) _ (λ passed. stage-policy_set s.sched caller policy thread)
  stage-threads s caller (set_stage stage) other = leaves-refused (λ x. stage_of x.sched thread ≡ stage_of s.sched thread) (stranger_refusal s.sched caller) _ (λ passed. stage-stage_set s.sched caller stage thread other)
  stage-threads s caller pick other = refl
  stage-threads s caller (tell_rank n) other = leaves-refused (λ x. stage_of x.sched thread ≡ stage_of s.sched thread) (stranger_refusal s.sched n) _ (λ passed. refl)

pub stages_are : StagesAreTheThreadsOwn
stages_are old caller asked reply plays new step thread other =
    let Q = λ (q : Sched). stage_of q thread ≡ stage_of old.sched thread in
    let pays = stage-paid thread (stage_of old.sched thread) in
    let queues : (q : Sched) (ready : List ℕ) → Q q → Q (record q { ready = ready }) = λ q ready h. h in
    let each = kept_by_each Q pays queues in
    follows_holds (λ s. Q s.sched) each old (answer old caller asked) reply plays new refl
    (holds-answer (λ s. Q s.sched) each old caller asked
    (kept_by_own Q pays queues old caller asked (λ step h. stage-threads thread old caller step (ne_eqb thread caller other)) (λ q h. stage-stage_set q caller Inband thread (ne_eqb thread caller other) ∙ h)) refl) step

-- the stage of every thread, where the caller isn't moved
module _ (thread : ℕ) (stage : Stage) where
  abbrev Stays : State → Type 0
  Stays s = stage_of s.sched thread ≡ stage

  stays-threads : (s : State) (caller : ℕ) (step : ThreadStep) → moves_caller (on_threads step) ≡ false → Stays s → Leaves Stays (thread_effect s caller step)
  stays-threads s caller (attach policy to) still h = absurd (true≢false still)
  stays-threads s caller detach still h = absurd (true≢false still)
  stays-threads s caller (set_policy policy) still h = leaves-refused Stays (set_policy_refusal s.sched caller policy) _ (λ passed. stage-policy_set s.sched caller policy thread ∙ h)
  stays-threads s caller (set_stage to) still h = absurd (true≢false still)
  stays-threads s caller pick still h = h
  stays-threads s caller (tell_rank n) still h = leaves-refused Stays (stranger_refusal s.sched n) _ (λ passed. h)

  -- a wait that is finished by a thread that keeps its stage
  stays-finish : (s : State) (caller : ℕ) (keep : Bool) → moves_caller (ends keep) ≡ false → Stays s → Leaves Stays (finish s caller keep)
  stays-finish s caller false still h = absurd (true≢false still)
  stays-finish s caller true still h = by (outcome_of (wait_at s caller))
    where
      if_it_goes : (weak got : Bool) → Stays (inband_if (weak && false && got) (with_wait s caller None) caller)
      if_it_goes false got = h
      if_it_goes true got = h

      by : (r : Result Reply Refusal) → Leaves Stays (leaving (inband_if (goes_inband s caller true) (with_wait s caller None) caller) r)
      by (Ok reply) = if_it_goes (option_map_or (λ (seat : Seat). is_weak seat.policy) (seat_at s.sched caller) false) (not (has_got_mutex (wait_at s caller)))
      by (Err refusal) = tt

  stays_own : (s : State) (caller : ℕ) (asked : Call) → moves_caller (task_of asked) ≡ false → KeptByOwn Stays s caller asked
  stays_own s caller asked still =
      let Q = λ (q : Sched). stage_of q thread ≡ stage in
      let waiting = kept_waiting Q (stage-paid thread stage) (λ q ready h. h) in record {
        threads = λ step is passed h. stays-threads s caller step (ap moves_caller (sym is) ∙ still) h;
        begun = λ on until is passed h. leaves-beginning Stays waiting (timed-by Stays waiting (λ s h. h) (λ s thread until h. h)) s caller on until h;
        ended = λ keep is h. stays-finish s caller keep (ap moves_caller (sym is) ∙ still) h;
      }

pub stages_stay : StagesStayWhereNobodyMoves
stages_stay old caller asked reply plays new step still thread =
    let stage = stage_of old.sched thread in
    let Q = λ (q : Sched). stage_of q thread ≡ stage in
    let each = kept_by_each Q (stage-paid thread stage) (λ q ready h. h) in
    follows_holds (λ s. Q s.sched) each old (answer old caller asked) reply plays new refl (holds-answer (λ s. Q s.sched) each old caller asked (stays_own thread stage old caller asked still) refl) step

-- there are as many seats as the board has threads
module _ (n : ℕ) where
  abbrev Seats : Sched → Type 0
  Seats q = length q.seats ≡ n

  seats-set : (q : Sched) (thread : ℕ) (seat : Option Seat) → Seats q → Seats (with_seat q thread seat)
  seats-set q thread seat h = length-set q.seats thread seat ∙ h

  seats-slice : (q : Sched) (thread : ℕ) (seat : Seat) (slice delta : ℕ) → Seats q → Seats (slice_charged q thread seat slice delta)
  seats-slice q thread seat slice delta h = by (nat_le seat.rest delta)
    where
      by : (b : Bool) → Seats (if b then threads.readied (with_seat q thread (Some (record seat { rest = slice }))) thread else with_seat q thread (Some (record seat { rest = seat.rest - delta })))
      by true = seats-set q thread (Some (record seat { rest = slice })) h
      by false = seats-set q thread (Some (record seat { rest = seat.rest - delta })) h

  seats-policy : (q : Sched) (thread : ℕ) (seat : Seat) (policy : Policy) (delta : ℕ) → Seats q → Seats (policy_charged q thread seat policy delta)
  seats-policy q thread seat (Fifo prio) delta h = h
  seats-policy q thread seat (Rr prio slice) delta h = seats-slice q thread seat slice delta h
  seats-policy q thread seat (Quota group prio) delta h = h
  seats-policy q thread seat (Weak prio) delta h = h

  seats-charged : (rank : ℕ → ℕ) (q : Sched) (delta : ℕ) → Seats q → Seats (charged rank q delta)
  seats-charged rank q delta h = by (picked rank q)
    where
      of_seat : (thread : ℕ) (o : Option Seat) → Seats (option_map_or (λ (seat : Seat). policy_charged q thread seat seat.policy delta) o q)
      of_seat thread None = h
      of_seat thread (Some seat) = seats-policy q thread seat seat.policy delta h

      by : (o : Option ℕ) → Seats (option_map_or (λ (thread : ℕ). thread_charged q thread delta) o q)
      by None = h
      by (Some thread) = of_seat thread (seat_at q thread)

  seats-paid : (rank : ℕ → ℕ) (q : Sched) (before delta now : ℕ) → Seats q → Seats (refilled_at before now (charged rank q delta))
  seats-paid rank q before delta now h = by (is_new_second before now)
    where
      by : (b : Bool) → Seats (if b then refilled_groups (charged rank q delta) else charged rank q delta)
      by true = seats-charged rank q delta h
      by false = seats-charged rank q delta h

  seats-switched : (q : Sched) (thread : ℕ) (stage : Stage) → Seats q → Seats (threads.stage_set q thread stage)
  seats-switched q thread stage h = by (seat_at q thread)
    where
      switched : (seat : Seat) (b : Bool) → Seats (if b then q else threads.readied (with_seat q thread (Some (record seat { stage = stage }))) thread)
      switched seat true = h
      switched seat false = seats-set q thread (Some (record seat { stage = stage })) h

      by : (o : Option Seat) → Seats (option_map_or (threads.switched q thread stage) o q)
      by None = h
      by (Some seat) = switched seat (threads.is_on stage seat)

  seats-threads : (s : State) (caller : ℕ) (step : ThreadStep) → Seats s.sched → Leaves (λ x. Seats x.sched) (thread_effect s caller step)
  seats-threads s caller (attach policy stage) h = leaves-refused (λ x. Seats x.sched) (attach_refusal s.sched caller policy) _ (λ passed. seats-set s.sched caller (Some (threads.new_seat policy stage)) h)
  seats-threads s caller detach h = leaves-refused (λ x. Seats x.sched) (detach_refusal s caller) _ (λ passed. seats-set s.sched caller None h)
  seats-threads s caller (set_policy policy) h = leaves-refused (λ x. Seats x.sched) (set_policy_refusal s.sched caller policy) _ (λ passed.
      seats-set s.sched caller (option_map (threads.new_policy policy) (seat_at s.sched caller)) h)
  seats-threads s caller (set_stage stage) h = leaves-refused (λ x. Seats x.sched) (stranger_refusal s.sched caller) _ (λ passed. seats-switched s.sched caller stage h)
  seats-threads s caller pick h = h
  seats-threads s caller (tell_rank thread) h = leaves-refused (λ x. Seats x.sched) (stranger_refusal s.sched thread) _ (λ passed. h)

seats-opening : (board : Board) (bank : List Handler) → Seats board.threads (opening board bank).sched
unfolding threads.opening
seats-opening board bank = length-replicate board.threads None

pub seats_are : (h : History) → IsLegal h → length h.state.sched.seats ≡ h.board.threads
seats_are h legal =
    let Q = Seats h.board.threads in let pays = seats-paid h.board.threads in let queues : (q : Sched) (ready : List ℕ) → Q q → Q (record q { ready = ready }) = λ q ready h. h in
    run_holds (λ s. Q s.sched) (kept_by_each Q pays queues) (λ s caller asked. kept_by_own Q pays queues s caller asked (seats-threads h.board.threads s caller) (λ q. seats-switched h.board.threads q caller Inband)) (opened_kernel h) h.entries h.plays h.state (seats-opening h.board h.bank) legal

-- nobody sits past the last seat
pub past_seats : (seats : List (Option Seat)) (thread : ℕ) → length seats ≤ thread → slice_index_or seats thread None ≡ None
past_seats [] thread out = refl
past_seats (x ∷ xs) zero out = absurd (omega (arith, out))
past_seats (x ∷ xs) (suc thread) out = past_seats xs thread (omega (arith, out))

-- a thread that the board doesn't have counts as in-band
pub stranger_inband : (h : History) → IsLegal h → (thread : ℕ) → h.board.threads ≤ thread → stage_of h.state.sched thread ≡ Inband
stranger_inband h legal thread out = ap (λ (o : Option Seat). option_map_or (λ (seat : Seat). seat.stage) o Inband) (past_seats h.state.sched.seats thread (omega (arith, out, seats_are h legal)))
