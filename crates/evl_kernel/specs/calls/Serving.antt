-- The effect of a call: which refusal comes first, and what else.
use Rattle.std.specs.Prelude.{ℕ, nat_le, Bool, true, false, not, ◌&&◌, Option, Some, None, if◌then◌else◌}
use Rattle.evl_base.specs.declared.call.Call.{Call}
use Rattle.evl_base.specs.declared.refusal.Refusal.{Refusal}
use Rattle.evl_base.specs.declared.refusal.Refusal.TheVariants.{Unknown, Busy}
use Rattle.evl_kernel.specs.state.States.{State}
use Rattle.evl_kernel.specs.calls.Effects.{Effect}
use Rattle.evl_kernel.specs.calls.Elements.{Told, told_unless}
use Rattle.evl_kernel.specs.calls.Families.{Task, ends, performing, task_of}
use Rattle.evl_kernel.specs.waiting.Waits.{is_waiting}

-- the calls, apart from the refusals that all of them have
abbrev pub serving : State → ℕ → Call → Told
serving s caller asked = performing s caller (task_of asked)

abbrev pub ends_a_wait : Task → Bool
ends_a_wait (ends keep) = true
ends_a_wait _ = false

-- rule: A caller with an unfinished wait makes no call but the `Finish`; others may act on it.
--   also: Serving.general_refusal
--   rows: busy_while_it_waits; waits_1
-- the caller has an unfinished wait, and the call doesn't end it
abbrev pub is_busy : State → ℕ → Call → Bool
is_busy s caller asked = not (ends_a_wait (task_of asked)) && is_waiting s caller

-- rule: A caller outside the board is `Unknown`, whatever it calls.
--   rows: stranger_is_unknown; strangers
-- The refusal of a call, whatever it asks for, the first that applies: the caller has an unfinished wait; there is no such
-- caller.
abbrev pub general_refusal : State → ℕ → Call → Option Refusal
general_refusal s caller asked = if is_busy s caller asked then Some Busy else (if nat_le s.threads caller then Some Unknown else None)

-- what a thread's call does, before settling, and the steps of elements that it makes
abbrev pub what_call_does : State → ℕ → Call → Told
what_call_does s caller asked = told_unless (general_refusal s caller asked) (serving s caller asked)

-- rule: Each call adds exactly its entry and its plays to a legal history, or changes nothing.
--   also: Serving.answer
--   clauses: Kernel::{apply, reserve}
--   rows: free_refusals; request_refusals; unknown_numbers
-- the effects alone
abbrev pub serve_call : State → ℕ → Call → Effect
serve_call s caller asked = (serving s caller asked).effect

abbrev pub answer : State → ℕ → Call → Effect
answer s caller asked = (what_call_does s caller asked).effect
