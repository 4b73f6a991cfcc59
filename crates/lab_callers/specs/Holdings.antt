-- The passes that names hold, who waits for which mutex, and what becomes of both.
use Rattle.std.specs.Prelude.{◌==◌, ◌||◌, ◌++◌, ℕ, Bool, List, [], ◌∷◌, String, Option, Some, None, Result, Ok, Err, find, option_map, position}
use Rattle.std.specs.List.{remove}
use Rattle.std.specs.declared.alloc.Global.{Global}
use Rattle.evl_base.specs.declared.numbers.MutexId.{MutexId}
use Rattle.evl_base.specs.declared.numbers.ThreadId.{ThreadId}
use Rattle.evl_base.specs.declared.refusal.Refusal.{Refusal}
use Rattle.lab_callers.specs.Names.{is_named}
use Rattle.evl_machine.specs.declared.locking.Begun.{Begun}
use Rattle.evl_machine.specs.declared.locking.Begun.TheVariants as begun
use Rattle.evl_machine.specs.declared.locking.Ended.{Ended}
use Rattle.evl_machine.specs.declared.locking.Ended.TheVariants as ended
use Rattle.evl_words.specs.declared.gate.StaxPass.{StaxPass}
use Rattle.evl_words.specs.declared.mutex.MutexPass.{MutexPass}

-- the passes of staxes and of mutexes, each with its name, and who waits for which mutex, in the order in which they came
pub record Holdings : Type 0 where
  pub staxes : List (String Global × StaxPass)
  pub mutexes : List (String Global × MutexPass)
  pub waits : List (ThreadId × MutexId)

abbrev pub nothing_held : Holdings
nothing_held = record { staxes = []; mutexes = []; waits = [] }

-- a name holds a pass
abbrev pub is_held : List ℕ → Holdings → Bool
is_held name had = is_named name had.staxes || is_named name had.mutexes

-- a pass is of this stax
abbrev pub is_of_stax : ℕ → String Global × StaxPass → Bool
is_of_stax stax named = named.1.gate.0 == stax

-- a wait is of this thread
abbrev pub is_wait_of : ℕ → ThreadId × MutexId → Bool
is_wait_of who wait = wait.0.0 == who

-- a name gets a pass, after the others
abbrev pub with_stax : Holdings → String Global → StaxPass → Holdings
with_stax had name pass = record had { staxes = had.staxes ++ (name, pass) ∷ [] }

abbrev pub with_mutex : Holdings → String Global → MutexPass → Holdings
with_mutex had name pass = record had { mutexes = had.mutexes ++ (name, pass) ∷ [] }

-- these are left of the passes of staxes, or of mutexes
abbrev pub with_staxes : Holdings → List (String Global × StaxPass) → Holdings
with_staxes had others = record had { staxes = others }

abbrev pub with_mutexes : Holdings → List (String Global × MutexPass) → Holdings
with_mutexes had others = record had { mutexes = others }

-- a caller waits for a mutex, after the others
abbrev pub with_wait : Holdings → ThreadId → MutexId → Holdings
with_wait had who mutex = record had { waits = had.waits ++ (who, mutex) ∷ [] }

-- what is at a place is gone, if there is one
abbrev pub without : {A : Type 0} → Option ℕ → List A → List A
without None all = all
without (Some place) all = remove all place

-- a caller's first wait is over
abbrev pub without_wait : Holdings → ThreadId → Holdings
without_wait had who = record had { waits = without (position (is_wait_of who.0) had.waits) had.waits }

-- a pass that was given is its name's
abbrev pub stax_given : Holdings → String Global → Result StaxPass Refusal → Holdings
stax_given had name (Ok pass) = with_stax had name pass
stax_given had name (Err refusal) = had

abbrev pub mutex_given : Holdings → String Global → Result MutexPass Refusal → Holdings
mutex_given had name (Ok pass) = with_mutex had name pass
mutex_given had name (Err refusal) = had

-- a pass that comes back stays with its name
abbrev pub stax_left : Holdings → String Global → Result Bool (Refusal × StaxPass) → Holdings
stax_left had name (Ok wanted) = had
stax_left had name (Err back) = with_stax had name back.1

abbrev pub mutex_left : Holdings → String Global → Result (Unit {0}) (Refusal × MutexPass) → Holdings
mutex_left had name (Ok _) = had
mutex_left had name (Err back) = with_mutex had name back.1

-- who begins to lock has the pass, or waits for the mutex
abbrev pub lock_begun : Holdings → ThreadId → MutexId → String Global → Result Begun Refusal → Holdings
lock_begun had who mutex name (Ok (begun.Locked pass)) = with_mutex had name pass
lock_begun had who mutex name (Ok begun.Waiting) = with_wait had who mutex
lock_begun had who mutex name (Err refusal) = had

-- a lock that ends is no more waited for
abbrev pub lock_ended : Holdings → ThreadId → String Global → Result Ended Refusal → Holdings
lock_ended had who name (Ok (ended.Locked pass)) = with_mutex (without_wait had who) name pass
lock_ended had who name (Ok ended.TimedOut) = without_wait had who
lock_ended had who name (Err refusal) = had

-- for which mutex a caller waits
abbrev pub awaited_mutex : Holdings → ThreadId → Option MutexId
awaited_mutex had who = option_map (λ wait. wait.1) (find (is_wait_of who.0) had.waits)

-- the number of the first caller that holds a stax
abbrev pub stax_holder : Holdings → ℕ → Option ℕ
stax_holder had stax = option_map (λ named. named.1.seat) (find (is_of_stax stax) had.staxes)
