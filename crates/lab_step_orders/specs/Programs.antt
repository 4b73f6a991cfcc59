-- Each call as a program of atomic steps: what is ahead of a caller, a turn, or a visit whose turn the kernel's answer decides.
use Rattle.std.specs.Prelude.{ℕ, ◌+◌, ◌==◌, ◌||◌, Bool, true, false, if◌then◌else◌, List, Option, Some, None, is_some, option_map, option_and_then, slice_get, slice_index}
use Rattle.std.specs.Bool.{beq}
use Rattle.std.specs.List.{list_any}
use Rattle.std.specs.Option.{option_map_or}
use Rattle.evl_base.specs.declared.numbers.MutexId.{MutexId}
use Rattle.evl_base.specs.declared.numbers.StaxId.{StaxId}
use Rattle.evl_base.specs.declared.refusal.Refusal.{Refusal}
use Rattle.evl_base.specs.declared.refusal.Refusal.TheVariants.{Busy, Deadlock, Invalid, NotOwner, Raced, Unknown, WrongStage}
use Rattle.evl_base.specs.declared.stage.Stage.{Stage}
use Rattle.evl_base.specs.declared.stage.Stage.TheVariants.{Inband, Oob}
use Rattle.evl_words.specs.GateWord.{word_refusal, left_in}
use Rattle.evl_words.specs.declared.gate.Left.{Left}
use Rattle.evl_words.specs.declared.gate.Left.TheVariants as left
use Rattle.lab_step_orders.specs.Words.{Shared, holds}
use Rattle.lab_step_orders.specs.declared.calls.Answer.{Answer}
use Rattle.lab_step_orders.specs.declared.calls.Answer.TheVariants.{Passed, Done, Wanted, Refused}
use Rattle.lab_step_orders.specs.declared.calls.WordCall.{WordCall}
use Rattle.lab_step_orders.specs.declared.calls.WordCall.TheVariants.{TryLockStax, UnlockStax, ClaimStax, TryLockMutex, UnlockMutexFast, TryUnlockMutex, BeginLockMutex, FinishLockMutex, Kernel, Finish}
use Rattle.lab_step_orders.specs.declared.crews.Crew.{Crew}
use Rattle.lab_step_orders.specs.declared.steps.Ahead.{Ahead}
use Rattle.lab_step_orders.specs.declared.steps.Ahead.TheVariants.{Turns, Visits}
use Rattle.lab_step_orders.specs.declared.steps.Asked.TheVariants as asked
use Rattle.lab_step_orders.specs.declared.steps.CoreChange.TheVariants as core
use Rattle.lab_step_orders.specs.declared.steps.GateStep.TheVariants.{Look, Exchange, Leave, Claim, Unclaim}
use Rattle.lab_step_orders.specs.declared.steps.MutexStep.TheVariants.{Try, Unlock}
use Rattle.lab_step_orders.specs.declared.steps.Place.{Place}
use Rattle.lab_step_orders.specs.declared.steps.Place.TheVariants.{Begins, Found, Left as LeftStax, Claimed}
use Rattle.lab_step_orders.specs.declared.steps.Then.{Then}
use Rattle.lab_step_orders.specs.declared.steps.Then.TheVariants.{Stands, Answers}
use Rattle.lab_step_orders.specs.declared.steps.Turn.{Turn}
use Rattle.lab_step_orders.specs.declared.steps.WaitChange.TheVariants.{Same}
use Rattle.lab_step_orders.specs.declared.steps.Waiting.{Waiting}
use Rattle.lab_step_orders.specs.declared.steps.Waiting.TheVariants as wait
use Rattle.lab_step_orders.specs.declared.steps.WordStep.{WordStep}
use Rattle.lab_step_orders.specs.declared.steps.WordStep.TheVariants.{AtGate, AtMutex}

-- the limit of a stax, the stage of a caller, and the next call of one that has made so many
abbrev pub limit_of : Crew → ℕ → ℕ
limit_of c i = slice_index c.board.staxes.items i

abbrev pub stage_of : Crew → ℕ → Stage
stage_of c k = option_map_or (λ caller. caller.stage) (slice_get c.callers.items k) Inband

abbrev pub next_call : Crew → ℕ → ℕ → Option WordCall
next_call c k made = option_and_then (λ caller. slice_get caller.calls.items made) (slice_get c.callers.items k)

-- a turn with no step; a step after which the call goes on; and a step with which it is answered
abbrev pub turn_with : Option WordStep → Then → Turn
turn_with step next = record { step = step; visit = None; core = core.Same; wait = Same; then = next }

abbrev pub says : Answer → Turn
says answer = turn_with None (Answers answer)

abbrev pub goes : WordStep → Place → Turn
goes step place = turn_with (Some step) (Stands place)

abbrev pub ends : WordStep → Answer → Turn
ends step answer = turn_with (Some step) (Answers answer)

abbrev pub refuses : Refusal → Turn
refuses refusal = says (Refused refusal)

-- a look, at this word
abbrev pub look_turn : ℕ → Stage → StaxId → ℕ → Turn
look_turn limit stage stax word = option_map_or (λ refusal. ends (AtGate stax Look) (Refused refusal)) (word_refusal limit word stage) (goes (AtGate stax Look) (Found stax word))

abbrev pub try_stax : ℕ → Stage → StaxId → ℕ → Shared → Turn
try_stax limit stage stax k g = if holds g k then refuses Busy else look_turn limit stage stax g.word

-- and then the exchange of the word that it found, where another one may stand by now
abbrev pub exchanged : ℕ → Stage → ℕ → ℕ → Answer
exchanged limit stage old word = if word == old then Passed else option_map_or Refused (word_refusal limit word stage) (Refused (Raced old word))

abbrev pub exchange_turn : ℕ → Stage → StaxId → ℕ → Shared → Turn
exchange_turn limit stage stax old g = ends (AtGate stax (Exchange old)) (exchanged limit stage old g.word)

-- the last one that leaves takes away the mark that it finds, by a step of its own
abbrev pub leave_turn : StaxId → Left → Turn
leave_turn stax (left.Last true) = goes (AtGate stax Leave) (LeftStax stax)
leave_turn stax (left.Last false) = ends (AtGate stax Leave) Done
leave_turn stax left.Others = ends (AtGate stax Leave) Done

abbrev pub unlock_stax : StaxId → ℕ → Shared → Turn
unlock_stax stax k g = if holds g k then leave_turn stax (left_in g.word) else refuses NotOwner

-- why a caller may not lock a mutex: it waits, is in-band, or has the mutex
abbrev pub lock_refusal : Stage → Option Waiting → ℕ → Shared → Option Refusal
lock_refusal stage (Some w) k m = Some Busy
lock_refusal Inband None k m = Some WrongStage
lock_refusal Oob None k m = if holds m k then Some Deadlock else None

-- why it may not give one back: it waits, or doesn't have it
abbrev pub spend_refusal : Option Waiting → ℕ → Shared → Option Refusal
spend_refusal (Some w) k m = Some Busy
spend_refusal None k m = if holds m k then None else Some NotOwner

-- of a mutex that isn't there
abbrev pub refused_missing : Option Waiting → Refusal → Turn
refused_missing wait other = refuses (if is_some wait then Busy else other)

-- one exchange takes a mutex that is free, and one gives it back, unless others claim it
abbrev pub try_mutex : Stage → MutexId → ℕ → Option Waiting → Shared → Turn
try_mutex stage mutex k wait m = option_map_or refuses (lock_refusal stage wait k m) (ends (AtMutex mutex Try) (if m.word == 0 then Passed else Refused Busy))

abbrev pub unlock_turn : MutexId → ℕ → Shared → Turn → Turn
unlock_turn mutex k m claimed = if m.word == k + 1 then ends (AtMutex mutex Unlock) Done else claimed

abbrev pub unlock_fast : MutexId → ℕ → Option Waiting → Shared → Turn
unlock_fast mutex k wait m = option_map_or refuses (spend_refusal wait k m) (unlock_turn mutex k m (ends (AtMutex mutex Unlock) (Refused Busy)))

-- which a visit hands on then
abbrev pub unlock_mutex : MutexId → ℕ → Option Waiting → Shared → Turn
unlock_mutex mutex k wait m = option_map_or refuses (spend_refusal wait k m) (unlock_turn mutex k m (goes (AtMutex mutex Unlock) (Claimed mutex)))

-- a lock that may wait is a visit, and so is the end of a wait
abbrev pub begin_mutex : Stage → MutexId → Option ℕ → ℕ → Option Waiting → Shared → Ahead
begin_mutex stage mutex until k wait m = option_map_or (λ refusal. Turns (refuses refusal)) (lock_refusal stage wait k m) (Visits (asked.Begin mutex until m.word))

abbrev pub end_mutex : MutexId → Option Shared → Ahead
end_mutex mutex None = Turns (refuses Invalid)
end_mutex mutex (Some m) = Visits (asked.End mutex m.word)

abbrev pub finish_mutex : List Shared → Option Waiting → Ahead
finish_mutex mutexes (Some (wait.Mutex mutex)) = end_mutex mutex (slice_get mutexes mutex.0)
finish_mutex mutexes (Some wait.Element) = Turns (refuses Invalid)
finish_mutex mutexes None = Turns (refuses Invalid)

-- a caller holds one of these
abbrev pub holds_some : List Shared → ℕ → Bool
holds_some all k = list_any (λ shared. holds shared k) all

-- another wait is ended by one that says whether it holds something; whether there is one the kernel knows
abbrev pub finish_wait : Option Waiting → Bool → Bool → Ahead
finish_wait (Some wait.Element) keep held = if beq keep held then Visits asked.Finish else Turns (refuses Invalid)
finish_wait (Some (wait.Mutex mutex)) keep held = Turns (refuses Invalid)
finish_wait None keep held = if beq keep held then Visits asked.Finish else Turns (refuses Invalid)

-- what is ahead of one that begins a call
abbrev pub first_ahead : Crew → List Shared → List Shared → ℕ → Option Waiting → WordCall → Ahead
first_ahead c gates mutexes k wait (TryLockStax stax) = Turns (option_map_or (try_stax (limit_of c stax.0) (stage_of c k) stax k) (slice_get gates stax.0) (refuses Unknown))
first_ahead c gates mutexes k wait (UnlockStax stax) = Turns (option_map_or (unlock_stax stax k) (slice_get gates stax.0) (refuses NotOwner))
first_ahead c gates mutexes k wait (ClaimStax stax) = Turns (option_map_or (λ g. ends (AtGate stax Claim) Done) (slice_get gates stax.0) (refuses Unknown))
first_ahead c gates mutexes k wait (TryLockMutex mutex) = Turns (option_map_or (try_mutex (stage_of c k) mutex k wait) (slice_get mutexes mutex.0) (refused_missing wait Unknown))
first_ahead c gates mutexes k wait (UnlockMutexFast mutex) = Turns (option_map_or (unlock_fast mutex k wait) (slice_get mutexes mutex.0) (refused_missing wait NotOwner))
first_ahead c gates mutexes k wait (TryUnlockMutex mutex) = Turns (option_map_or (unlock_mutex mutex k wait) (slice_get mutexes mutex.0) (refused_missing wait NotOwner))
first_ahead c gates mutexes k wait (BeginLockMutex mutex until) = option_map_or (begin_mutex (stage_of c k) mutex until k wait) (slice_get mutexes mutex.0) (Turns (refused_missing wait Unknown))
first_ahead c gates mutexes k wait FinishLockMutex = finish_mutex mutexes wait
first_ahead c gates mutexes k wait (Kernel place) = Visits (asked.Step place)
first_ahead c gates mutexes k wait (Finish keep) = finish_wait wait keep (holds_some gates k || holds_some mutexes k)

-- rule: Each call is a program of atomic steps: `try_lock_stax` a look and an exchange of the word that it found;
--   `unlock_stax` a step that leaves and, where the last one out finds the mark, one that clears it; the fast ways of a
--   mutex one exchange. A call that goes through the core's lock is a visit: the kernel's step as `Replays` computes
--   it, and what that does to the mutex's word, in one turn. The visit that ends a wait comes once that is over; a
--   waiting caller's other calls are `Busy`, but on staxes. A local refusal is a turn without a step.
--   also: Programs.first_ahead; Visits.{visit_turn, state_after}
--   clauses: step_outcomes_of
--   rows: deadline; mutex_2; mutex_3; mutex_3_twice; two_mutexes; two_that_try_a_mutex_end_in_three_ways
-- All that is ahead of a caller that is here in this call. A caller has found a word only where there is a stax
abbrev pub ahead_at : Crew → List Shared → List Shared → ℕ → Option Waiting → Place → Option WordCall → Option Ahead
ahead_at c gates mutexes k wait Begins call = option_map (first_ahead c gates mutexes k wait) call
ahead_at c gates mutexes k wait (Found stax old) call = option_map (λ g. Turns (exchange_turn (limit_of c stax.0) (stage_of c k) stax old g)) (slice_get gates stax.0)
ahead_at c gates mutexes k wait (LeftStax stax) call = Some (Turns (ends (AtGate stax Unclaim) Wanted))
ahead_at c gates mutexes k wait (Claimed mutex) call = Some (Visits (asked.Hand mutex))
