-- The input, output and answer of the program.
use Rattle.std.specs.Prelude.{◌≡◌, ℕ, List, [], ◌++◌, decimal, codes, Bool, false, Option, Result, Ok, Err}
use Rattle.evl_kernel.specs.state.States.{Handler}
use Rattle.evl_scenario.specs.declared.faults.Fault.{Fault}
use Rattle.evl_scenario.specs.declared.faults.Fault.TheVariants.{Text, Board, Step, Memory, Write}
use Rattle.evl_shell.specs.declared.plays.Stop.{Stop}
use Rattle.evl_shell.specs.declared.plays.Stop.TheVariants.{NoFile, Broken}
use Rattle.evl_shell.specs.Readings.{IsFrontOf, ReadsAtMost}
use Rattle.evl_shell.specs.Faults.{Writes, WritesPart, WritesLines, is_write_fault}
use Rattle.evl_scenario.specs.Lines.{line_feed}
use Rattle.evl_shell.specs.Runs.{trace_of}
use Rattle.evl_shell.specs.Sinks.{Takes}

-- rule: At most 1,048,577 bytes are read, up to the end (a read of nothing) or a failed read.
--   also: Plays.ReadsFew; Readings.{IsFrontOf, ReadsAtMost}
--   clauses: play_into; play; play_program; read_at_most
--   rows: reads_no_more_than_a_scenario_may_have; reads_nothing_after_the_end; ends_without_a_file;
--   an_input_comes_by_single_bytes; each_read_of_an_input_fails_once
-- all of the input where it is known, but for what is past 1,048,577 bytes
abbrev pub IsInput : Option (List ℕ) → List ℕ → Type 0
IsInput known text = IsFrontOf 1048577 known text

-- of the input at most 1,048,577 bytes were read
abbrev pub ReadsFew : Option (List ℕ) → Option (List ℕ) → Type 0
ReadsFew known left = ReadsAtMost 1048577 known left

-- rule: The statuses are 0 to 4, each but 0 with its line on standard error, at 3 that of `clap`.
--   also: Plays.stop_line; Programs.Declines
--   rows: ends_done; ends_refused; ends_at_a_write_fault
abbrev pub status_of : Stop → ℕ
status_of NoFile = 2
status_of (Broken Text) = 2
status_of (Broken Board) = 2
status_of (Broken (Step n)) = 2
status_of (Broken Memory) = 4
status_of (Broken Write) = 1

abbrev pub stop_line : Stop → List ℕ
stop_line NoFile = codes "evl: no file\n"
stop_line (Broken Text) = codes "evl: bad text\n"
stop_line (Broken Board) = codes "evl: bad board\n"
stop_line (Broken (Step n)) = codes "evl: bad step " ++ (decimal n ++ line_feed)
stop_line (Broken Memory) = codes "evl: no memory\n"
stop_line (Broken Write) = codes "evl: write fault\n"

-- the fault is the text's, and nothing was written
abbrev pub Refuses : Option (List ℕ) → Option (List ℕ) → Result (List ℕ) Fault → Fault → Type 0
Refuses old new trace e = (trace ≡ Err e) × (new ≡ old)

-- what was written of the trace
abbrev pub Tells : Option (List ℕ) → Option (List ℕ) → Result (List ℕ) Fault → Result (Unit {0}) Stop → Type 0
Tells old new trace (Ok done) = Writes old new trace
Tells old new trace (Err NoFile) = new ≡ old
Tells old new trace (Err (Broken Text)) = Refuses old new trace Text
Tells old new trace (Err (Broken Board)) = Refuses old new trace Board
Tells old new trace (Err (Broken (Step n))) = Refuses old new trace (Step n)
Tells old new trace (Err (Broken Memory)) = WritesLines old new trace
Tells old new trace (Err (Broken Write)) = WritesPart old new trace

-- the one end at which the sink has failed
abbrev pub ends_by_write : Result (Unit {0}) Stop → Bool
ends_by_write (Ok done) = false
ends_by_write (Err NoFile) = false
ends_by_write (Err (Broken fault)) = is_write_fault (Err fault)

-- the program's end on an input over a bank, under a limit that may be handed in: the text that it read, what it wrote of
-- that text's trace, and whether the sink has failed
pub record Ended (bank : List Handler) (given : Option ℕ) (known old new : Option (List ℕ)) (failed : Bool) (end : Result (Unit {0}) Stop) : Type 0 where
  pub text : List ℕ
  pub read : IsInput known text
  pub tells : Tells old new (trace_of bank given text) end
  pub fails : failed ≡ ends_by_write end

-- its status
abbrev pub status : Result (Unit {0}) Stop → ℕ
status (Ok done) = 0
status (Err stop) = status_of stop

-- the line that it says, if it says one
abbrev pub said : Result (Unit {0}) Stop → List ℕ
said (Ok done) = []
said (Err stop) = stop_line stop

-- rule: A stop's line goes out whole unless the error stream has failed; nothing else goes there. Over a plain writer
--   (`play`, `stopped`) a front part of it goes out.
--   also: Plays.says
--   clauses: conclude; play_into; play_program; play; stopped
--   rows: tells_the_whole_number_of_a_step; ends_whatever_becomes_of_its_line; plays_over_a_plain_writer
-- the program ended somehow, answered the status of that end, and said its line whole, or a front part where `err` has failed
pub record Plays (bank : List Handler) (given : Option ℕ) (known old new : Option (List ℕ)) (failed : Bool) (quiet spoken : Option (List ℕ)) (mute : Bool) (answer : ℕ) : Type 0 where
  pub end : Result (Unit {0}) Stop
  pub ended : Ended bank given known old new failed end
  pub status_is : answer ≡ status end
  pub says : Takes quiet spoken (said end) mute
