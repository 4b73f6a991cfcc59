-- The text that a text of C's is taken for: its scenario for a text of lines, any other text itself.
use Rattle.std.specs.Prelude.{◌≡◌, ◌⊎◌, ◌-◌, ◌^◌, min, ℕ, List, Option, Result, Err}
use Rattle.evl_kernel.specs.state.States.{Handler}
use Rattle.evl_scenario.specs.declared.faults.Fault.{Fault}
use Rattle.evl_scenario.specs.declared.faults.Fault.TheVariants as fault
use Rattle.evl_shell.specs.Runs.{trace_of}
use Rattle.lab_lines.specs.Kinds.{IsPlain, IsUnread}
use Rattle.lab_lines.specs.declared.texts.LinesFault.{LinesFault}
use Rattle.lab_lines.specs.declared.texts.LinesFault.TheVariants as lines

-- the fault of a scenario from which C learns why a text of lines can't be read: a line as a step
abbrev pub fault_of : LinesFault → Fault
fault_of lines.Text = fault.Text
fault_of (lines.Line line unread) = fault.Step (min line (2 ^ 32 - 1))
fault_of lines.Board = fault.Board
fault_of lines.TooLong = fault.Text
fault_of lines.Memory = fault.Memory

-- a text of lines can't be read, which C learns from this fault
abbrev pub IsUnreadAs : List ℕ → Fault → Type 0
IsUnreadAs text e = (why : LinesFault) × IsUnread text why × (e ≡ fault_of why)

-- rule: A text of lines is taken for its scenario, at orders for its text of callers. One that cannot be read is
--   refused by play and picture as a scenario at fault is: its line as a step, without a board as a bad board, too long
--   as a bad text.
--   also: Given.IsUnreadAs; Pictures.DrawsGiven; Orders.TellsGiven
--   clauses: plain_of; callers_of
-- the trace of what a text is taken for, or such a fault
abbrev pub IsTraceOf : List Handler → Option ℕ → List ℕ → Result (List ℕ) Fault → Type 0
IsTraceOf bank limit text trace =
    ((plain : List ℕ) × IsPlain text plain × (trace ≡ trace_of bank limit plain)) ⊎ ((e : Fault) × IsUnreadAs text e × (trace ≡ Err e))
