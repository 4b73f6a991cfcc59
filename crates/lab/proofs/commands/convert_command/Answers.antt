use Rattle.std.proofs.Common.{◌≡◌, ◌∙◌, ap, ap₂, codes}
use Rattle.std.specs.Prelude.{◌||◌}
use Rattle.clap.specs.Simple.{app_of_fields}
use Rattle.clap.specs.Words.{app_of, new_app, with_rule, with_subcommand}
use Rattle.lab.specs.Grammar.{convert_part}
use Rattle.lab.proofs.commands.convert_command.Goals as goal

pub returns : goal.returns
unfolding convert_part
returns c =
    let start : app_of c.about-command.result ≡ new_app (codes "convert") = ap app_of_fields c.about-command.ensures ∙ c.new.ensures.app in
    let local = ap (λ f. f.has_globals) c.about-command.ensures ∙ c.new.ensures.local in
    let as_lines = c.in_ok-as_lines.ensures.shape c.in_ok-lines_word.ensures.1 ∙ ap₂ with_rule start c.in_ok-lines_word.ensures.0 in
    let local_as_lines = c.in_ok-as_lines.ensures.globals ∙ ap₂ ◌||◌ local c.in_ok-lines_word.ensures.1 in
    let as_tables = c.in_ok-as_tables.ensures.shape c.in_ok-toml_word.ensures.1 ∙ ap₂ with_rule as_lines c.in_ok-toml_word.ensures.0 in
    let local_as_tables = c.in_ok-as_tables.ensures.globals ∙ ap₂ ◌||◌ local_as_lines c.in_ok-toml_word.ensures.1 in
    let with_file = c.in_ok-with_file.ensures.shape c.converted_file.ensures.1 ∙ ap₂ with_rule as_tables c.converted_file.ensures.0 in
    let local_with_file = c.in_ok-with_file.ensures.globals ∙ ap₂ ◌||◌ local_as_tables c.converted_file.ensures.1 in
    λ old new adds. adds.shape local_with_file ∙ ap (λ app. with_subcommand (app_of old) app.top) with_file
