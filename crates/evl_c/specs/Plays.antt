-- How a play for C ends.
use Rattle.std.specs.Prelude.{◌≡◌, ℕ, List, length, Option, Some, None, if◌then◌else◌, nat_eq, Result, Ok, Err}
use Rattle.evl_kernel.specs.state.States.{Handler}
use Rattle.evl_scenario.specs.declared.faults.Fault.{Fault}
use Rattle.evl_scenario.specs.declared.faults.Fault.TheVariants.{Text, Board, Step, Memory, Write}
use Rattle.evl_plans.specs.Traces.{Refuses}
use Rattle.evl_c.specs.Given.{IsTraceOf}
use Rattle.evl_c.specs.Windows.{window}

-- the limit that a number hands in: at 0 the text's own stays
abbrev pub limit_given : ℕ → Option ℕ
limit_given limit = if nat_eq limit 0 then None else Some limit

-- the end of a play, whose `Ok` is the trace's length, and what is in the buffer then
abbrev pub Ends : Result (List ℕ) Fault → ℕ → List ℕ → List ℕ → Result ℕ Fault → Type 0
Ends trace start old new (Ok count) = (text : List ℕ) × (trace ≡ Ok text) × (count ≡ length text) × (new ≡ window text start old)
Ends trace start old new (Err fault) = Refuses trace fault × (new ≡ old)

-- the number of an end
abbrev pub status_of : Result ℕ Fault → ℕ
status_of (Ok count) = 0
status_of (Err Text) = 1
status_of (Err Board) = 2
status_of (Err (Step n)) = 3
status_of (Err Memory) = 4
status_of (Err Write) = 4

-- the length that an end reports
abbrev pub length_of : Result ℕ Fault → ℕ
length_of (Ok count) = count
length_of (Err fault) = 0

-- the step that an end reports, from 1
abbrev pub step_of : Result ℕ Fault → ℕ
step_of (Ok count) = 0
step_of (Err Text) = 0
step_of (Err Board) = 0
step_of (Err (Step n)) = n
step_of (Err Memory) = 0
step_of (Err Write) = 0

-- rule: After a play C's buffer begins with the trace from the byte that C names, as far as there is room, and is else
--   as before. The trace's length is given.
--   also: Windows.window
--   clauses: evlsim_c_play; evlsim_c_play_over
-- a play ended somehow, and reported its end
pub record Plays (trace : Result (List ℕ) Fault) (start : ℕ) (old new : List ℕ) (count step status : ℕ) : Type 0 where
  pub end : Result ℕ Fault
  pub ends : Ends trace start old new end
  pub count_is : count ≡ length_of end
  pub step_is : step ≡ step_of end
  pub status_is : status ≡ status_of end

-- so did a play of what a text is taken for
abbrev pub PlaysText : List Handler → Option ℕ → List ℕ → ℕ → List ℕ → List ℕ → ℕ → ℕ → ℕ → Type 0
PlaysText bank limit text start old new count step status =
    (trace : Result (List ℕ) Fault) × IsTraceOf bank limit text trace × Plays trace start old new count step status

-- which has no trace, for this fault
abbrev pub RefusesText : List Handler → Option ℕ → List ℕ → Fault → Type 0
RefusesText bank limit text e = (trace : Result (List ℕ) Fault) × IsTraceOf bank limit text trace × Refuses trace e
