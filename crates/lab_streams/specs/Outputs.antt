-- The bytes that the program writes, and the status that it ends with.
use Rattle.std.specs.Prelude.{◌≡◌, ◌≤◌, ℕ, List, [], length, Bool, true, Option, IsSomeAnd, Ok, Err}
use Rattle.std.specs.Io.KnownBytes.{Appends}
use Rattle.evl_kernel.specs.state.States.{Handler}
use Rattle.lab_streams.specs.Banks.{IsBank}
use Rattle.lab_streams.specs.Endings.{line_about}
use Rattle.lab_streams.specs.Readings.{IsReadOf, Reading, most_bytes, unread_words}
use Rattle.lab_streams.specs.Texts.{reads_input}

-- what is printed, what is said on the error stream, and the status
pub record Output : Type 0 where
  pub printed : List ℕ
  pub said : List ℕ
  pub status : ℕ

abbrev pub prints : List ℕ → Output
prints printed = record { printed = printed; said = []; status = 0 }

abbrev pub refuses : ℕ → List ℕ → Output
refuses status said = record { printed = []; said = said; status = status }

-- such an output was written: the output and the error stream have it after what they had
pub record Writes (Is : Output → Type 0) (old new quiet spoken : Option (List ℕ)) (status : ℕ) : Type 0 where
  pub output : Output
  pub is : Is output
  pub printed : Appends old new output.printed
  pub said : Appends quiet spoken output.said
  pub ended : status ≡ output.status

-- one of a text that was read, or why it isn't read
abbrev pub OfRead : (List ℕ → Output → Type 0) → List ℕ → Reading → Output → Type 0
OfRead Is name (Ok text) output = (length text ≤ most_bytes) × Is text output
OfRead Is name (Err why) output = IsSomeAnd (unread_words why) (λ words. output ≡ refuses 2 (line_about name words))

-- of a file's text, or of the input's where no file is named, or `-`
pub record WritesOfText (Is : Reading → Output → Type 0) (file known old new quiet spoken : Option (List ℕ)) (status : ℕ) : Type 0 where
  pub text : Reading
  pub read : reads_input file ≡ true → IsReadOf known text
  pub writes : Writes (Is text) old new quiet spoken status

-- rule: `lab orders` prints the report of all orders of the text's callers (of a text of lines, of its text of callers)
--   over the bank, or the scenario of one outcome, or of one order that is asked for, or how many orders are against
--   it, and, with 1, the first outcome, else question about moments, else number of outcomes against `[ask]`, with 5
--   that longer orders were cut off; or, with 2, why the text is refused, why what is asked cannot be read (with its
--   line) or that it is an answer that no step of its caller can have, that there is no such outcome, or that the
--   orders, or runs of one length, are more than a count holds.
--   also: Callers.TellsRead; Checks.TellsText; Orders.{TellsAsked, TellsPossible, TellsOutcomes, TellsGiven};
--   Outcomes.{TellsAll, outcomes_told}; OneOrder.TellsOrder; Alone.TellsAlone; Verdicts.asked_text
--   clauses: tell_orders; tell_text; tell_callers; tell_possible; go_through; tell_answered; tell_order; tell_alone
-- rule: `lab callers` prints what the steps answer over a machine with the bank's callbacks, then its close; or, with
--   2, which step cannot be made and why, a fault of the text, or, only if board, bank or limit are outside their
--   limits, that no machine has its board.
--   also: Orders.callers; Callers.TellsRead; Checks.TellsText; Plays.TellsPlayed; Callers.PlaysOver
--   clauses: play_text; play
-- over the callbacks of a bank's file, or the program's where none is named
pub record WritesOverBank (Is : List Handler → Reading → Output → Type 0) (plans file known old new quiet spoken : Option (List ℕ)) (status : ℕ) : Type 0 where
  pub bank : List Handler
  pub is_bank : IsBank plans bank
  pub writes : WritesOfText (Is bank) file known old new quiet spoken status
