-- The play that the words of the program ask for, as clap reads them: `[FILE] [--limit N]`.
use Rattle.std.specs.Prelude.{ℕ, List, codes, Option, Some, None, option_and_then, if◌then◌else◌, pos}
use Rattle.std.specs.Str.{bytes_eq}
use Rattle.std.specs.Str.Parse.{digits_value, without_leading_plus}
use Rattle.clap.specs.Words.{App, Rule, Text, first_of, matches_of, new_app, new_rule, one_of, with_rule}
use Rattle.clap.specs.ValueTests.{is_unsigned_in}
use Rattle.clap.specs.declared.builder.action.ArgAction.TheVariants.{Set}
use Rattle.clap.specs.declared.builder.value_parser.ValueParser.TheVariants.{Signed}

-- a file may be named
abbrev pub file_rule : Rule
file_rule = record (new_rule (codes "FILE")) { action = Some Set }

-- after `--limit` is a number from 1 to 1,000,000
abbrev pub limit_rule : Rule
limit_rule = record (new_rule (codes "limit")) { long = Some (codes "limit"); value_names = 1; parser = Some (Signed (pos 1) (pos 1000000)) }

-- rule: The words are `[FILE] [--limit N]`, N from 1 to 1,000,000. Without FILE, or with `-`, the input is read, else
--   it is not touched. A scenario is played under exactly that limit, or nothing is and the status says why.
--   also: Arguments.{file_of, file_named, limit_of}; Programs.source
--   clauses: play; play_into; play_program; read_words
--   rows: threads_3; refuses_words
abbrev pub grammar : App
grammar = with_rule (with_rule (new_app (codes "evl")) file_rule) limit_rule

-- `-` names standard input, and no file
abbrev pub file_named : Option Text → Option Text
file_named None = None
file_named (Some word) = if bytes_eq word (codes "-") then None else Some word

-- the file that the words name
abbrev pub file_of : List Text → Option Text
file_of words = file_named (first_of (codes "FILE") (matches_of grammar words))

-- the number that a text says
abbrev pub number_of : Text → Option ℕ
number_of text = if is_unsigned_in 0 4294967295 text then Some (digits_value 10 (without_leading_plus text)) else None

-- the limit that the words name
abbrev pub limit_of : List Text → Option ℕ
limit_of words = option_and_then number_of (one_of (codes "limit") (matches_of grammar words))
