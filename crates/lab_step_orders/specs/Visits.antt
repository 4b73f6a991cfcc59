-- Visits of the kernel: what it is called, and where its records are then.
use Rattle.std.specs.Prelude.{ℕ, ◌-◌, ◌==◌, Bool, not, ◌&&◌, true, false, if◌then◌else◌, nat_lt, length, List, [], ◌∷◌, Option, Some, None, Ok, Err, Result, slice_get}
use Rattle.std.specs.Option.{option_map_or}
use Rattle.evl_base.specs.declared.call.Call.{Call}
use Rattle.evl_base.specs.declared.call.Call.TheVariants as call
use Rattle.evl_base.specs.declared.numbers.MutexId.{MutexId}
use Rattle.evl_base.specs.declared.numbers.ThreadId.{ThreadId}
use Rattle.evl_base.specs.declared.refusal.Refusal.{Refusal}
use Rattle.evl_base.specs.declared.refusal.Refusal.TheVariants.{Again, Invalid}
use Rattle.evl_base.specs.declared.reply.Reply.{Reply}
use Rattle.evl_base.specs.declared.reply.Reply.TheVariants as reply
use Rattle.evl_kernel.specs.calls.Mutexes.{thread_named}
use Rattle.evl_kernel.specs.histories.Replays.{step_outcome}
use Rattle.evl_kernel.specs.state.Openings.{opening}
use Rattle.evl_kernel.specs.state.States.{State}
use Rattle.evl_kernel.specs.waiting.Waits.{is_waiting, has_ended, has_timed_out}
use Rattle.evl_scenario.specs.declared.steps.Step.{Step}
use Rattle.evl_words.specs.MutexBits.{number_in, offers_to}
use Rattle.lab_step_orders.specs.Programs.{refuses}
use Rattle.lab_step_orders.specs.declared.calls.Answer.{Answer}
use Rattle.lab_step_orders.specs.declared.calls.Answer.TheVariants as answer
use Rattle.lab_step_orders.specs.declared.crews.Crew.{Crew}
use Rattle.lab_step_orders.specs.declared.kernels.Visited.{Visited}
use Rattle.lab_step_orders.specs.declared.steps.Asked.{Asked}
use Rattle.lab_step_orders.specs.declared.steps.Asked.TheVariants as asked
use Rattle.lab_step_orders.specs.declared.steps.CoreChange.TheVariants as core
use Rattle.lab_step_orders.specs.declared.steps.MutexStep.{MutexStep}
use Rattle.lab_step_orders.specs.declared.steps.MutexStep.TheVariants.{Win, Mark, Offer, Free, Accept, Forget}
use Rattle.lab_step_orders.specs.declared.steps.Then.TheVariants.{Answers}
use Rattle.lab_step_orders.specs.declared.steps.Turn.{Turn}
use Rattle.lab_step_orders.specs.declared.steps.WaitChange.{WaitChange}
use Rattle.lab_step_orders.specs.declared.steps.WaitChange.TheVariants.{Same, Begins, Ends}
use Rattle.lab_step_orders.specs.declared.steps.Waiting.TheVariants as wait
use Rattle.lab_step_orders.specs.declared.steps.WordStep.TheVariants.{AtMutex}
use Rattle.lab_step_orders.specs.declared.steps.Visit.{Visit}
use Rattle.lab_step_orders.specs.declared.steps.Visit.TheVariants.{Release, Claim, Finish, Step as StepAt}

-- the records after these steps
abbrev pub set_up : State → List Step → State
set_up s [] = s
set_up s (step ∷ steps) = set_up (step_outcome s step.who.0 step.call).after steps

-- the records before the first caller's turn
abbrev pub state_begun : Crew → State
state_begun c = set_up (opening c.board []) c.setup.items

-- the call of a visit
abbrev pub call_made : Crew → Visit → Call
call_made c (Release mutex) = call.Release mutex
call_made c (Claim mutex owner until) = call.Claim mutex owner until
call_made c Finish = call.Finish true
call_made c (StepAt place) = option_map_or (λ step. step.call) (slice_get c.steps.items place) call.Now

-- the records after a visit, and after these
abbrev pub made : Crew → State → Visited → State
made c s visited = (step_outcome s visited.who (call_made c visited.visit)).after

abbrev pub trailed : Crew → State → List Visited → State
trailed c s [] = s
trailed c s (visited ∷ trail) = trailed c (made c s visited) trail

-- a thread's wait goes on
abbrev pub goes_on : State → ℕ → Bool
goes_on s who = is_waiting s who && not (has_ended s who)

-- ---- turns

-- a turn that steps on a mutex with the kernel in hand, and what the kernel is called
abbrev pub visits : MutexId → MutexStep → Option Visit → WaitChange → Answer → Turn
visits mutex step visit wait answer = record { step = Some (AtMutex mutex step); visit = visit; core = core.Same; wait = wait; then = Answers answer }

-- what the kernel answers to a visit of a thread
abbrev pub answered : Crew → State → ℕ → Visit → Result Reply Refusal
answered c s k visit = (step_outcome s k (call_made c visit)).reply

-- a mutex is handed on as the kernel answered, which names one of the callers
abbrev pub handed_to : Crew → MutexId → Option ThreadId → Bool → Turn
handed_to c mutex None more = visits mutex Free (Some (Release mutex)) Same answer.Done
handed_to c mutex (Some next) more = if nat_lt next.0 (length c.callers.items) then visits mutex (Offer next.0 more) (Some (Release mutex)) Same answer.Done else refuses Invalid

abbrev pub handed : Crew → MutexId → Result Reply Refusal → Turn
handed c mutex (Ok (reply.Handed next more)) = handed_to c mutex next more
handed c mutex (Ok _) = refuses Invalid
handed c mutex (Err refusal) = refuses refusal

-- the wait for a mutex begins, or is refused, which leaves the claim
abbrev pub claimed : MutexId → Visit → Result Reply Refusal → Turn
claimed mutex visit (Ok r) = visits mutex Mark (Some visit) (Begins (wait.Mutex mutex)) answer.Begun
claimed mutex visit (Err refusal) = visits mutex Mark None Same (answer.Refused refusal)

-- the thread that a mutex's word names
abbrev pub owner_in : ℕ → Option ThreadId
owner_in word = if number_in word == 0 then None else Some (thread_named (number_in word - 1))

abbrev pub claim : MutexId → ThreadId → Option ℕ → Visit
claim mutex owner until = Claim mutex owner until

abbrev pub queued : Crew → State → ℕ → MutexId → Option ℕ → Option ThreadId → Turn
queued c s k mutex until None = refuses Again
queued c s k mutex until (Some owner) = claimed mutex (claim mutex owner until) (answered c s k (claim mutex owner until))

-- the wait for a mutex has ended to the kernel
abbrev pub ended : MutexId → ℕ → ℕ → Bool → Turn
ended mutex word k true = visits mutex Forget (Some Finish) Ends answer.TimedOut
ended mutex word k false = if offers_to word k then visits mutex Accept (Some Finish) Ends answer.Passed else refuses Again

-- what a call of the kernel alone is answered; the machine has no call that answers bytes, or who is next
abbrev pub answer_of : Reply → Answer
answer_of reply.Done = answer.Done
answer_of reply.Begun = answer.Begun
answer_of reply.TimedOut = answer.TimedOut
answer_of (reply.Count count) = answer.Count count
answer_of (reply.Bits bits) = answer.Bits bits
answer_of (reply.Number number) = answer.Number number
answer_of (reply.Chosen thread) = answer.Chosen thread
answer_of (reply.Bytes bytes) = answer.Refused Invalid
answer_of (reply.Handed next more) = answer.Refused Invalid

-- and what that does to the caller's wait
abbrev pub wait_told : Reply → Visit → WaitChange
wait_told reply.Begun visit = Begins wait.Element
wait_told r Finish = Ends
wait_told r visit = Same

abbrev pub told : Visit → Result Reply Refusal → Turn
told visit (Ok r) = record { step = None; visit = Some visit; core = core.Same; wait = wait_told r visit; then = Answers (answer_of r) }
told visit (Err refusal) = refuses refusal

-- a mutex with this word is claimed; where it is free the caller has it, and the kernel knows nothing of it
abbrev pub begun : Crew → State → ℕ → MutexId → Option ℕ → ℕ → Turn
begun c s k mutex until word = if word == 0 then visits mutex Win None Same answer.Passed else queued c s k mutex until (owner_in word)

-- the turn of a visit; none while the wait goes on that it ends
abbrev pub visit_turn : Crew → State → ℕ → Asked → Option Turn
visit_turn c s k (asked.Hand mutex) = Some (handed c mutex (answered c s k (Release mutex)))
visit_turn c s k (asked.Begin mutex until word) = Some (begun c s k mutex until word)
visit_turn c s k (asked.End mutex word) = if goes_on s k then None else Some (ended mutex word k (has_timed_out s k))
visit_turn c s k (asked.Step place) = Some (told (StepAt place) (answered c s k (StepAt place)))
visit_turn c s k asked.Finish = if goes_on s k then None else Some (told Finish (answered c s k Finish))

-- the records after a turn
abbrev pub state_after : Crew → State → ℕ → Option Visit → State
state_after c s k None = s
state_after c s k (Some visit) = (step_outcome s k (call_made c visit)).after
