-- The answers that calls on words can have, as they are written.
use Rattle.std.specs.Prelude.{ℕ, ◌+◌, Bool, false, not, ◌&&◌, ◌||◌, List, [], ◌∷◌, codes, find, Option, string_bytes}
use Rattle.std.specs.List.{list_any}
use Rattle.std.specs.Str.{bytes_eq}
use Rattle.lab_scenario_orders.specs.Asks.{begins, caller_text}
use Rattle.lab_scenario_orders.specs.declared.asks.Never.{Never}
use Rattle.lab_step_orders.specs.declared.calls.WordCall.{WordCall}
use Rattle.lab_step_orders.specs.declared.calls.WordCall.TheVariants.{TryLockStax, UnlockStax, ClaimStax, TryLockMutex, UnlockMutexFast, TryUnlockMutex, BeginLockMutex, FinishLockMutex, Kernel, Finish}
use Rattle.lab_step_orders.specs.declared.crews.CrewCaller.{CrewCaller}

-- the kernel's answers that are words, and its refusals
abbrev pub kernel_answers : List (List ℕ)
kernel_answers =
    codes "done" ∷ codes "begun" ∷ codes "timed out" ∷ codes "Unknown" ∷ codes "Invalid" ∷ codes "Again" ∷ codes "Busy" ∷ codes "NotOwner"
    ∷ codes "Deadlock" ∷ codes "Limit" ∷ codes "Range" ∷ codes "TooBig" ∷ codes "WrongStage" ∷ codes "CoreBusy" ∷ []

abbrev pub answers_of : WordCall → List (List ℕ)
answers_of (TryLockStax stax) = codes "pass" ∷ codes "Again" ∷ codes "Limit" ∷ codes "Raced" ∷ codes "Unknown" ∷ codes "Busy" ∷ []
answers_of (UnlockStax stax) = codes "done" ∷ codes "done, others want in" ∷ codes "NotOwner" ∷ []
answers_of (ClaimStax stax) = codes "done" ∷ codes "Unknown" ∷ []
answers_of (TryLockMutex mutex) = codes "pass" ∷ codes "Busy" ∷ codes "Unknown" ∷ codes "WrongStage" ∷ codes "Deadlock" ∷ []
answers_of (UnlockMutexFast mutex) = codes "done" ∷ codes "Busy" ∷ codes "NotOwner" ∷ []
answers_of (TryUnlockMutex mutex) = codes "done" ∷ codes "Busy" ∷ codes "NotOwner" ∷ codes "CoreBusy" ∷ []
answers_of (BeginLockMutex mutex until) = codes "pass" ∷ codes "begun" ∷ codes "Busy" ∷ codes "Unknown" ∷ codes "WrongStage" ∷ codes "Deadlock" ∷ codes "CoreBusy" ∷ []
answers_of FinishLockMutex = codes "pass" ∷ codes "timed out" ∷ codes "Invalid" ∷ codes "CoreBusy" ∷ []
answers_of (Kernel place) = kernel_answers
answers_of (Finish keep) = kernel_answers

-- what numbers may follow
abbrev pub fronts_of : WordCall → List (List ℕ)
fronts_of (Kernel place) = codes "count " ∷ codes "bits " ∷ codes "number " ∷ codes "thread " ∷ []
fronts_of (Finish keep) = codes "bits " ∷ []
fronts_of _ = []

-- and what else where callers make a wrong step, so that a word names another owner than the kernel's record
abbrev pub wrong_answers : WordCall → List (List ℕ)
wrong_answers (BeginLockMutex mutex until) = codes "Invalid" ∷ []
wrong_answers _ = []

abbrev pub can_be : List ℕ → WordCall → Bool
can_be answer call = list_any (bytes_eq answer) (answers_of call) || list_any (λ front. begins front answer) (fronts_of call)

-- where callers make a wrong step, or not
abbrev pub can_come : Bool → List ℕ → WordCall → Bool
can_come wrong answer call = can_be answer call || (wrong && list_any (bytes_eq answer) (wrong_answers call))

-- one of these callers, numbered from k, is named so, and a call of its can be answered so
abbrev pub can_have : Bool → List ℕ → List ℕ → ℕ → List CrewCaller → Bool
can_have wrong who answer k [] = false
can_have wrong who answer k (caller ∷ rest) = (bytes_eq (caller_text k) who && list_any (can_come wrong answer) caller.calls.items) || can_have wrong who answer (k + 1) rest

abbrev pub is_impossible : Bool → List CrewCaller → Never → Bool
is_impossible wrong callers never = not (can_have wrong (string_bytes never.who) (string_bytes never.answer) 0 callers)

-- the first answer that no call of its caller can have
abbrev pub first_impossible : Bool → List CrewCaller → List Never → Option Never
first_impossible wrong callers all = find (is_impossible wrong callers) all
