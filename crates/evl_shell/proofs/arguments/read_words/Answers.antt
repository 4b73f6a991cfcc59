use Rattle.std.proofs.Common.{◌∙◌, ap, codes, option_and_then}
use Rattle.std.specs.Str.Parse.{ParsesUnsigned, ExplainsUnsignedError, HasUnsignedDigitsIfOk}
use Rattle.clap.specs.Words.{found_of, first_of, one_of}
use Rattle.clap.proofs.WalkLemmas.{first_value-rows, one_text-rows}
use Rattle.evl_shell.specs.Arguments.{file_named, number_of}
use Rattle.evl_shell.proofs.ArgumentLemmas.{reads_number}
use Rattle.evl_shell.proofs.arguments.read_words.Goals as goal

pub returns-clause-file : goal.returns-clause-file
returns-clause-file c =
    c.file_named.ensures
    ∙ ap file_named (c.get_str.ensures ∙ first_value-rows (found_of c.in_ok-matches.matches) (codes "FILE") ∙ ap (first_of (codes "FILE")) c.in_ok-matches.ensures.rows)

pub returns-clause-limit : goal.returns-clause-limit
returns-clause-limit c =
    reads_number (λ bs r. ParsesUnsigned 32 10 bs r × ExplainsUnsignedError 10 bs r × HasUnsignedDigitsIfOk bs r) (λ t r given. given.0) _ c.get_one.result c.get_one.ensures.none c.get_one.ensures.value
    ∙ ap (option_and_then number_of) (one_text-rows (found_of c.in_ok-matches.matches) (codes "limit") ∙ ap (one_of (codes "limit")) c.in_ok-matches.ensures.rows)
