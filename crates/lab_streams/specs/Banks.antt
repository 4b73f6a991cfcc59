-- The callbacks that scenarios are played over.
use Rattle.std.specs.Prelude.{◌≡◌, ◌≤◌, ◌⊎◌, ℕ, List, ◌++◌, codes, decimal, length, Option, None, Some, IsSomeAnd, Ok, Err}
use Rattle.std.specs.Io.KnownBytes.{Appends}
use Rattle.evl_kernel.specs.state.States.{Handler}
use Rattle.evl_scenario.specs.Lines.{line_feed}
use Rattle.evl_bank.specs.Bank.{program_bank}
use Rattle.evl_plans.specs.Banks.{bank_of}
use Rattle.evl_plans.specs.declared.faults.BankFault.{BankFault}
use Rattle.evl_plans.specs.declared.faults.BankFault.TheVariants.{Text, Document, Callback, Memory}
use Rattle.evl_plans.specs.declared.faults.Part.{Part}
use Rattle.evl_plans.specs.declared.faults.Part.TheVariants.{Keys, Accepts, Rows, Row}
use Rattle.lab_streams.specs.Readings.{most_bytes, too_long_words}
use Rattle.lab_streams.specs.declared.texts.Unread.{Unread}
use Rattle.lab_streams.specs.declared.texts.Unread.TheVariants as unread
use Rattle.lab_streams.specs.declared.texts.Unread.TheVariants.{NoFile, TooLong}

-- rule: A bank's callbacks are what its text asks for, without a file the program's. A file that cannot be read, or
--   whose text is no bank, is refused on standard error with its path and why, exactly; then nothing is printed and the
--   answer is 2.
--   also: Banks.{SaysRefused, bank_fault_words}
--   clauses: read_plans
-- the callbacks of a bank's file, of which nobody knows the text, or the program's where none is named
abbrev pub IsBank : Option (List ℕ) → List Handler → Type 0
IsBank None bank = bank ≡ program_bank
IsBank (Some file) bank = (text : List ℕ) × (length text ≤ most_bytes) × (bank_of text ≡ Ok bank)

-- ---- why a file is refused

abbrev pub part_words : Part → List ℕ
part_words Keys = codes "a table with no keys but accepts and do is wanted, at most 64 of them"
part_words Accepts = codes "accepts: a number from 1 to 18446744073709551615 is wanted"
part_words Rows = codes "do: a list of at most four rows is wanted"
part_words (Row number) =
    codes "do: row " ++ (decimal number
    ++ codes " isn't one of at most four, with every (1 or more) and one of post_sem, post_flags and bits, propagate, post_oob, stop_timer")

-- what is wrong in a text that is no bank; of want of memory there are no words
abbrev pub bank_fault_words : BankFault → Option (List ℕ)
bank_fault_words Text = Some (codes "no TOML in UTF-8")
bank_fault_words Document = Some (codes "tables [[callback]] are wanted, and nothing else")
bank_fault_words (Callback number part) = Some (codes "callback " ++ (decimal number ++ (codes ": " ++ part_words part)))
bank_fault_words Memory = None

abbrev pub no_bank_line : List ℕ → List ℕ
no_bank_line path = codes "lab: no file " ++ (path ++ line_feed)

abbrev pub bank_line : List ℕ → List ℕ → List ℕ
bank_line path words = codes "lab: " ++ (path ++ (codes ": " ++ (words ++ line_feed)))

-- why the file isn't read; of want of memory there is no line
abbrev pub unread_line : List ℕ → Unread → Option (List ℕ)
unread_line path NoFile = Some (no_bank_line path)
unread_line path TooLong = Some (bank_line path too_long_words)
unread_line path unread.Memory = None

-- the file isn't read, or its text is no bank for this fault
abbrev pub SaysWhy : List ℕ → List ℕ → Type 0
SaysWhy path said =
    ((why : Unread) × IsSomeAnd (unread_line path why) (λ line. said ≡ line))
    ⊎ ((text : List ℕ) × (fault : BankFault) × (bank_of text ≡ Err fault) × IsSomeAnd (bank_fault_words fault) (λ words. said ≡ bank_line path words))

-- that is said of the file that is named
pub record SaysRefused (file quiet spoken : Option (List ℕ)) : Type 0 where
  pub path : List ℕ
  pub named : file ≡ Some path
  pub said : List ℕ
  pub why : SaysWhy path said
  pub says : Appends quiet spoken said

-- and nothing is printed
pub record Refuses (file old new quiet spoken : Option (List ℕ)) (status : ℕ) : Type 0 where
  pub refused : SaysRefused file quiet spoken
  pub nothing : new ≡ old
  pub status_is : status ≡ 2
