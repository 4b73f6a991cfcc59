-- The bytes that are read of texts, up to a bound.
use Rattle.std.specs.Prelude.{◌≡◌, ◌<◌, ℕ, List, codes, length, Option, Some, None, Result, Ok, Err, IfSome}
use Rattle.lab_streams.specs.Texts.{IsAllOf}
use Rattle.lab_streams.specs.declared.texts.Unread.{Unread}
use Rattle.lab_streams.specs.declared.texts.Unread.TheVariants.{NoFile, TooLong, Memory}

-- rule: At most 67,108,865 bytes are read of a file, and of a text in the input. A text that is gone through has at
--   most 67,108,864, and in the input it is all of it. One that has more, or cannot be read, is refused by each part
--   with a line that has its name and why, exactly, and 2 (the input only if it has more); so is a bank's file, and a
--   folder's trace. For want of memory no such line is said: the part ends early, and the program with 4.
--   also: Readings.{IsReadOf, unread_words}; Outputs.OfRead; Plays.{TellsFile, unstored_words}; Checks.TellsFile;
--   Lives.SaysUnopened; Banks.unread_line
--   clauses: read_text: bound, few, file, input, long; read_source; tell_unread; tell_unstored; tell_failure: failed,
--   memory
-- the most bytes that a text may have
abbrev pub most_bytes : ℕ
most_bytes = 67108864

-- a text, or why it isn't read
abbrev pub Reading : Type 0
Reading = Result (List ℕ) Unread

-- it has more bytes than a text may have
abbrev pub too_long_words : List ℕ
too_long_words = codes "67108865 bytes or more; a text has at most 67108864"

-- why a text isn't read; of want of memory there are no words
abbrev pub unread_words : Unread → Option (List ℕ)
unread_words NoFile = Some (codes "no file")
unread_words TooLong = Some too_long_words
unread_words Memory = None

-- where an input is known: it has more bytes than a text may have
abbrev pub IsTooLong : Option (List ℕ) → Type 0
IsTooLong known = IfSome known (λ bytes. most_bytes < length bytes)

-- what was read of an input: all of it, or it is too long, or it can't be read
abbrev pub IsReadOf : Option (List ℕ) → Reading → Type 0
IsReadOf known (Ok text) = IsAllOf known text
IsReadOf known (Err NoFile) = Unit {0}
IsReadOf known (Err TooLong) = IsTooLong known
IsReadOf known (Err Memory) = Unit {0}
