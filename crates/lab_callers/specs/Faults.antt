-- Why a step can't be made, and how that is reported.
use Rattle.std.specs.Prelude.{◌≡◌, ℕ, ⊤, Bool, List, String, codes, if◌then◌else◌, length, Option, Some, None, is_some, string_bytes}
use Rattle.std.specs.Option.{option_or}
use Rattle.std.specs.declared.alloc.Global.{Global}
use Rattle.lab_callers.specs.Crews.{CrewState, call_fault, give_fault, place_fault}
use Rattle.lab_callers.specs.Holdings.{Holdings, is_held}
use Rattle.lab_callers.specs.Names.{has_pass}
use Rattle.lab_callers.specs.declared.answers.Stop.{Stop}
use Rattle.lab_callers.specs.declared.answers.Stop.TheVariants as stop
use Rattle.lab_callers.specs.declared.passes.StepFault.{StepFault}
use Rattle.lab_callers.specs.declared.passes.StepFault.TheVariants.{HasCore, HasNoCore, Held, HoldsNothing, NoCaller}
use Rattle.lab_callers_text.specs.declared.acts.Act.{Act}
use Rattle.lab_callers_text.specs.declared.acts.Act.TheVariants as act

-- the key that is at fault, and what is wrong with it
abbrev pub fault_words : StepFault → List ℕ
fault_words NoCaller = codes "who: there is no such thread"
fault_words HasCore = codes "who: it has the core, and makes calls of the kernel or gives it"
fault_words HasNoCore = codes "who: it hasn't the core"
fault_words Held = codes "as: the name holds a pass already"
fault_words HoldsNothing = codes "pass: the name holds no such pass"

-- a name that is to hold a pass holds one already
abbrev pub held_fault : List ℕ → Holdings → Option StepFault
held_fault name had = if is_held name had then Some Held else None

-- a name whose pass is to be spent holds none of this kind
abbrev pub nothing_fault : {P : Type 0} → List ℕ → List (String Global × P) → Option StepFault
nothing_fault name passes = if has_pass name passes then None else Some HoldsNothing

-- what is wrong with the name of an act
abbrev pub name_fault : Act → Holdings → Option StepFault
name_fault (act.TryLockStax stax name) had = held_fault (string_bytes name) had
name_fault (act.TryLockMutex mutex name) had = held_fault (string_bytes name) had
name_fault (act.BeginLockMutex mutex until name) had = held_fault (string_bytes name) had
name_fault (act.FinishLockMutex name) had = held_fault (string_bytes name) had
name_fault (act.UnlockStax name) had = nothing_fault (string_bytes name) had.staxes
name_fault (act.UnlockMutexFast name) had = nothing_fault (string_bytes name) had.mutexes
name_fault (act.TryUnlockMutex name) had = nothing_fault (string_bytes name) had.mutexes
name_fault (act.Call asked) had = None
name_fault act.Take had = None
name_fault act.Give had = None

-- what is wrong with its caller: who has the core makes calls of the kernel or gives it, which nobody else does
abbrev pub caller_fault : {C : Type 0} → Act → CrewState C → ℕ → Option StepFault
caller_fault (act.Call asked) crew who = call_fault (is_some crew.held) crew.holder who (length crew.callers)
caller_fault act.Give crew who = give_fault (is_some crew.held) crew.holder who
caller_fault other crew who = place_fault (is_some crew.held) crew.holder who (length crew.callers)

-- why a step can't be made, if it can't: what is wrong with the name is reported first
abbrev pub step_fault : {C : Type 0} → Act → CrewState C → Holdings → ℕ → Option StepFault
step_fault made crew had who = option_or (name_fault made had) (caller_fault made crew who)

-- what ends the steps is this, or a growth that was refused
abbrev pub IsWhy : Option StepFault → Stop → Type 0
IsWhy why (stop.Fault fault) = why ≡ Some fault
IsWhy why stop.Memory = ⊤
