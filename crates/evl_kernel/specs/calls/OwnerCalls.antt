-- A thread has the ceiling of a mutex.
use Rattle.std.specs.Prelude.{ℕ, Option, Some, None, is_some, slice_get, if◌then◌else◌}
use Rattle.evl_base.specs.declared.refusal.Refusal.{Refusal}
use Rattle.evl_base.specs.declared.refusal.Refusal.TheVariants.{Unknown}
use Rattle.evl_sched.specs.Threads.{refused_first}
use Rattle.evl_sched.specs.Calls.{stranger_refusal}
use Rattle.evl_kernel.specs.state.States.{State}
use Rattle.evl_kernel.specs.calls.Elements.{Told, elements, on_mutex, told_unless, touched}
use Rattle.evl_kernel.specs.calls.Mutexes as mutex

-- The first that applies: there is no such mutex; the thread isn't attached.
abbrev pub raiser_refusal : State → ℕ → ℕ → Option Refusal
raiser_refusal s thread n =
    refused_first (if is_some (slice_get (elements s).mutexes n) then None else Some Unknown) (stranger_refusal s.sched thread)

-- a thread raises a mutex with a ceiling, of which it is recorded as the owner then
abbrev pub raising : State → ℕ → ℕ → Told
raising s thread n = told_unless (raiser_refusal s thread n) (touched s (Some thread) (on_mutex n (mutex.raise thread)))
