-- The words that `lab` takes, as clap reads them.
use Rattle.std.specs.Prelude.{◌≡◌, List, [], ◌∷◌, codes, false, true, Some, pos, ℤ}
use Rattle.clap.specs.Lexer.{usize_max}
use Rattle.clap.specs.Simple.{new_shape}
use Rattle.clap.specs.Words.{AddsSubcommand, App, Rule, Shape, Text, app_of, new_rule, rule_of, with_subcommand}
use Rattle.clap.specs.declared.builder.action.ArgAction.TheVariants.{Append, Set, SetTrue}
use Rattle.clap.specs.declared.builder.arg.Arg.{Arg}
use Rattle.clap.specs.declared.builder.command.Command.{Command}
use Rattle.clap.specs.declared.builder.value_parser.ValueParser.TheVariants.{Signed}

-- ---- one word

-- a text comes after it
abbrev pub text_rule : Text → Rule
text_rule name = record (new_rule name) { long = Some name; action = Some Set; value_names = 1 }

-- a number from 1 to this one comes after it
abbrev pub number_rule : Text → ℤ → Rule
number_rule name most = record (new_rule name) { long = Some name; value_names = 1; parser = Some (Signed (pos 1) most) }

-- nothing is after it, and there are words that it doesn't go with, or doesn't go without
abbrev pub mark_rule : Text → Rule
mark_rule name = record (new_rule name) { long = Some name; action = Some SetTrue; is_free = false }

-- nothing is after it
abbrev pub free_rule : Text → Rule
free_rule name = record (new_rule name) { long = Some name; action = Some SetTrue }

-- one without a name
abbrev pub one_rule : Text → Rule
one_rule name = record (new_rule name) { action = Some Set }

-- as many as there are without a name
abbrev pub several_rule : Text → Rule
several_rule name = record (new_rule name) { action = Some Append; range = Some (record { start_inclusive = 1; end_inclusive = usize_max }) }

abbrev pub bank_rule : Rule
bank_rule = text_rule (codes "bank")

abbrev pub limit_rule : Rule
limit_rule = number_rule (codes "limit") (pos 1000000)

abbrev pub file_rule : Rule
file_rule = one_rule (codes "FILE")

-- ---- the words of each part

abbrev pub part : Text → List Rule → Shape
part name rules = record (new_shape name) { rules = rules }

unfoldable pub check_part : Shape
check_part = part (codes "check") (bank_rule ∷ free_rule (codes "json") ∷ record (several_rule (codes "FILE")) { required = true } ∷ [])

unfoldable pub draw_part : Shape
draw_part =
    part (codes "draw") (bank_rule ∷ number_rule (codes "outcome") (pos 1000000) ∷ mark_rule (codes "svg") ∷ mark_rule (codes "perfetto") ∷ mark_rule (codes "down") ∷ mark_rule (codes "across") ∷ number_rule (codes "upto") (pos 1000000) ∷ number_rule (codes "page") (pos 1000000) ∷ file_rule ∷ [])

unfoldable pub play_part : Shape
play_part =
    part (codes "play") (bank_rule ∷ limit_rule ∷ mark_rule (codes "json") ∷ mark_rule (codes "states") ∷ text_rule (codes "against") ∷ several_rule (codes "FILE") ∷ [])

unfoldable pub convert_part : Shape
convert_part = part (codes "convert") (mark_rule (codes "lines") ∷ mark_rule (codes "toml") ∷ file_rule ∷ [])

unfoldable pub live_part : Shape
live_part = part (codes "live") (bank_rule ∷ limit_rule ∷ free_rule (codes "prompt") ∷ file_rule ∷ [])

unfoldable pub orders_part : Shape
orders_part =
    part (codes "orders") (bank_rule ∷ number_rule (codes "most") (pos 100000000) ∷ number_rule (codes "outcome") (pos 1000000) ∷ number_rule (codes "state") (pos 1000000)
    ∷ free_rule (codes "ask") ∷ text_rule (codes "order") ∷ free_rule (codes "answers") ∷ free_rule (codes "json") ∷ file_rule ∷ [])

unfoldable pub callers_part : Shape
callers_part = part (codes "callers") (bank_rule ∷ limit_rule ∷ file_rule ∷ [])

unfoldable pub run_part : Shape
run_part =
    part (codes "run") (bank_rule ∷ free_rule (codes "json") ∷ free_rule (codes "csv") ∷ free_rule (codes "trace") ∷ free_rule (codes "scenario") ∷ free_rule (codes "svg") ∷ free_rule (codes "bound") ∷ file_rule ∷ [])

unfoldable pub help_part : Shape
help_part = part (codes "help") (free_rule (codes "json") ∷ one_rule (codes "WORD") ∷ [])

-- ---- all

-- one of its parts has to be named, of which `help` is its own
abbrev pub program : List Shape → App
program parts = record {
  top = record (new_shape (codes "lab")) { is_leaf = false; disable_help_subcommand = true; subcommand_required = true };
  subs = parts;
}

-- rule: The words of `lab` are one grammar of parts, words after each, and texts and numbers after those. The part
--   found is the one named, with what follows it; words that fit are refused only for want of memory. (Which words
--   exclude others no clause says.)
--   clauses: read_words: part, taken
abbrev pub grammar : App
grammar = program (check_part ∷ draw_part ∷ play_part ∷ convert_part ∷ live_part ∷ orders_part ∷ callers_part ∷ run_part ∷ help_part ∷ [])

-- ---- of commands

-- an argument has this rule, and is its own command's alone
abbrev pub IsWord : Rule → Arg → Type 0
IsWord rule arg = (rule_of arg ≡ rule) × (arg.global ≡ false)

-- wherever the command is added, these words are
abbrev pub IsPart : Shape → Command → Type 0
IsPart words command = (old new : Command) → AddsSubcommand old command new → app_of new ≡ with_subcommand (app_of old) words
