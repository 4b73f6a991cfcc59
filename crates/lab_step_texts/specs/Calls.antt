-- The calls on words that the steps of a text are.
use Rattle.std.specs.Prelude.{ℕ, ◌+◌, ◌==◌, ◌&&◌, Bool, true, false, if◌then◌else◌, List, [], ◌∷◌, ◌++◌, filter, find, map, not, Option, Some, None, is_some, length, option_and_then, unwrap_or, Ok, Err, Result, drop, nat_lt, string_bytes, take}
use Rattle.std.specs.List.{list_any}
use Rattle.std.specs.Option.{option_or}
use Rattle.std.specs.Str.{bytes_eq}
use Rattle.evl_base.specs.declared.call.Call.{Call}
use Rattle.evl_base.specs.declared.call.Call.TheVariants as call
use Rattle.evl_base.specs.declared.numbers.ThreadId.{ThreadId}
use Rattle.evl_base.specs.declared.policy.Policy.{Policy}
use Rattle.evl_base.specs.declared.policy.Policy.TheVariants.{Quota, Weak}
use Rattle.evl_base.specs.declared.stage.Stage.{Stage}
use Rattle.evl_base.specs.declared.stage.Stage.TheVariants.{Inband}
use Rattle.evl_scenario.specs.declared.steps.Step.{Step}
use Rattle.lab_callers_text.specs.declared.acts.Act.{Act}
use Rattle.lab_callers_text.specs.declared.acts.Act.TheVariants as act
use Rattle.lab_callers_text.specs.declared.acts.CallersStep.{CallersStep}
use Rattle.lab_step_orders.specs.declared.calls.WordCall.{WordCall}
use Rattle.lab_step_orders.specs.declared.calls.WordCall.TheVariants.{TryLockStax, UnlockStax, TryLockMutex, UnlockMutexFast, TryUnlockMutex, BeginLockMutex, FinishLockMutex, Kernel, Finish}
use Rattle.lab_step_texts.specs.declared.calls.CallerCall.{CallerCall}
use Rattle.lab_step_texts.specs.declared.calls.Lock.{Lock}
use Rattle.lab_step_texts.specs.declared.calls.Lock.TheVariants as lock
use Rattle.lab_step_texts.specs.declared.faults.StepFault.{StepFault}
use Rattle.lab_step_texts.specs.declared.faults.StepFault.TheVariants.{Who, Core, Pass}

-- ---- names

-- the lock that a step names, if it names one so
abbrev pub lock_if : Bool → Lock → Option Lock
lock_if named lock = if named then Some lock else None

abbrev pub lock_in : List ℕ → Act → Option Lock
lock_in name (act.TryLockStax stax named) = lock_if (bytes_eq (string_bytes named) name) (lock.Stax stax)
lock_in name (act.TryLockMutex mutex named) = lock_if (bytes_eq (string_bytes named) name) (lock.Mutex mutex)
lock_in name (act.BeginLockMutex mutex until named) = lock_if (bytes_eq (string_bytes named) name) (lock.Mutex mutex)
lock_in name _ = None

-- and by this caller
abbrev pub lock_at : ℕ → List ℕ → CallersStep → Option Lock
lock_at who name step = if step.who.0 == who then lock_in name step.act else None

-- the lock that the last of these steps of a caller names so
abbrev pub lock_named : ℕ → List ℕ → Option Lock → List CallersStep → Option Lock
lock_named who name found [] = found
lock_named who name found (step ∷ rest) = lock_named who name (option_or (lock_at who name step) found) rest

-- ---- calls

abbrev pub stax_call : Option Lock → Result WordCall StepFault
stax_call (Some (lock.Stax stax)) = Ok (UnlockStax stax)
stax_call _ = Err Pass

abbrev pub fast_call : Option Lock → Result WordCall StepFault
fast_call (Some (lock.Mutex mutex)) = Ok (UnlockMutexFast mutex)
fast_call _ = Err Pass

abbrev pub unlock_call : Option Lock → Result WordCall StepFault
unlock_call (Some (lock.Mutex mutex)) = Ok (TryUnlockMutex mutex)
unlock_call _ = Err Pass

-- callers make the calls of the kernel that change no thread's stage or policy, are of no mutex, and answer no bytes
abbrev pub is_plain_call : Call → Bool
is_plain_call (call.Attach policy stage) = false
is_plain_call call.Detach = false
is_plain_call (call.SetPolicy policy) = false
is_plain_call (call.SetStage stage) = false
is_plain_call (call.Read xbuf way bytes) = false
is_plain_call (call.BeginRead xbuf way bytes until) = false
is_plain_call (call.Claim mutex owner until) = false
is_plain_call (call.Release mutex) = false
is_plain_call (call.Raise mutex) = false
is_plain_call _ = true

-- such a call is at this place
abbrev pub kernel_call : Call → ℕ → Result WordCall StepFault
kernel_call (call.Finish keep) place = Ok (Finish keep)
kernel_call made place = if is_plain_call made then Ok (Kernel place) else Err Core

-- the call that a step of this caller is, after these steps
abbrev pub call_in : List CallersStep → ℕ → Act → Result WordCall StepFault
call_in before who (act.TryLockStax stax named) = Ok (TryLockStax stax)
call_in before who (act.UnlockStax pass) = stax_call (lock_named who (string_bytes pass) None before)
call_in before who (act.TryLockMutex mutex named) = Ok (TryLockMutex mutex)
call_in before who (act.UnlockMutexFast pass) = fast_call (lock_named who (string_bytes pass) None before)
call_in before who (act.TryUnlockMutex pass) = unlock_call (lock_named who (string_bytes pass) None before)
call_in before who (act.BeginLockMutex mutex until named) = Ok (BeginLockMutex mutex until)
call_in before who (act.FinishLockMutex named) = Ok FinishLockMutex
call_in before who (act.Call made) = kernel_call made (length before)
call_in before who act.Take = Err Core
call_in before who act.Give = Err Core

-- by a thread of a board of so many
abbrev pub call_of : ℕ → List CallersStep → CallersStep → Result WordCall StepFault
call_of threads before step = if nat_lt step.who.0 threads then call_in before step.who.0 step.act else Err Who

abbrev pub made_by : CallersStep → WordCall → CallerCall
made_by step call = record { who = step.who; call = call }

-- the calls of steps after others, or the number of the first that is none, counted from n, and why
abbrev pub with_call : Result WordCall StepFault → ℕ → CallersStep → Result (List CallerCall) (ℕ × StepFault) → Result (List CallerCall) (ℕ × StepFault)
with_call (Err fault) n step rest = Err (n, fault)
with_call (Ok call) n step (Ok calls) = Ok (made_by step call ∷ calls)
with_call (Ok call) n step (Err fault) = Err fault

abbrev pub calls_from : ℕ → ℕ → List CallersStep → List CallersStep → Result (List CallerCall) (ℕ × StepFault)
calls_from threads n before [] = Ok []
calls_from threads n before (step ∷ rest) = with_call (call_of threads before step) n step (calls_from threads (n + 1) (before ++ step ∷ []) rest)

-- those after so many steps, which are numbered from 1
abbrev pub calls_behind : ℕ → ℕ → List CallersStep → Result (List CallerCall) (ℕ × StepFault)
calls_behind threads setup steps = calls_from threads (setup + 1) (take setup steps) (drop setup steps)

-- those of one caller, in their order
abbrev pub own_calls : ℕ → List CallerCall → List WordCall
own_calls k calls = map (λ made. made.call) (filter (λ made. made.who.0 == k) calls)

-- ---- what is set up

-- by a policy that no group and no wait lets wait: neither quota nor weak
abbrev pub is_steady : Policy → Bool
is_steady (Quota group prio) = false
is_steady (Weak prio) = false
is_steady _ = true

-- the stage on which a step attaches its thread, if it does
abbrev pub stage_if : Policy → Stage → Option Stage
stage_if policy stage = if is_steady policy then Some stage else None

abbrev pub stage_set : Act → Option Stage
stage_set (act.Call (call.Attach policy stage)) = stage_if policy stage
stage_set _ = None

-- the steps that attach their threads, as calls of the kernel
abbrev pub with_attach : ThreadId → Act → List Step → List Step
with_attach who (act.Call (call.Attach policy stage)) rest = (record { who = who; call = call.Attach policy stage }) ∷ rest
with_attach who _ rest = rest

abbrev pub attaches : List CallersStep → List Step
attaches [] = []
attaches (step ∷ steps) = with_attach step.who step.act (attaches steps)

-- a step as a call of the kernel; one that is no call of it as a question that changes nothing
abbrev pub called : Act → Call
called (act.Call made) = made
called _ = call.Now

abbrev pub kernel_step : CallersStep → Step
kernel_step step = record { who = step.who; call = called step.act }

-- some step is of this thread
abbrev pub is_of : ℕ → CallersStep → Bool
is_of k step = step.who.0 == k

-- a step may be set up after these: its thread is one of a board of so many, and none of these attached it
abbrev pub may_attach : ℕ → List CallersStep → CallersStep → Bool
may_attach threads before step = (nat_lt step.who.0 threads && is_some (stage_set step.act)) && not (list_any (is_of step.who.0) before)

-- the number of the first that may not, counted from n
abbrev pub unattached : ℕ → ℕ → List CallersStep → List CallersStep → Option ℕ
unattached threads n before [] = None
unattached threads n before (step ∷ rest) = if may_attach threads before step then unattached threads (n + 1) (before ++ step ∷ []) rest else Some n

-- the stage on which a step of this thread attaches it; a thread that isn't attached is in-band
abbrev pub stage_in : ℕ → List CallersStep → Stage
stage_in k setup = unwrap_or (option_and_then (λ step. stage_set step.act) (find (is_of k) setup)) Inband
