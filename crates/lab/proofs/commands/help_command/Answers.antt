use Rattle.std.proofs.Common.{◌≡◌, ◌∙◌, ap, ap₂, codes}
use Rattle.std.specs.Prelude.{◌||◌}
use Rattle.clap.specs.Simple.{app_of_fields}
use Rattle.clap.specs.Words.{app_of, new_app, with_rule, with_subcommand}
use Rattle.lab.specs.Grammar.{help_part}
use Rattle.lab.proofs.commands.help_command.Goals as goal

pub returns : goal.returns
unfolding help_part
returns c =
    let start : app_of c.about-command.result ≡ new_app (codes "help") = ap app_of_fields c.about-command.ensures ∙ c.new.ensures.app in
    let local = ap (λ f. f.has_globals) c.about-command.ensures ∙ c.new.ensures.local in
    let as_json = c.in_ok-as_json.ensures.shape c.as_json_word.ensures.1 ∙ ap₂ with_rule start c.as_json_word.ensures.0 in
    let local_as_json = c.in_ok-as_json.ensures.globals ∙ ap₂ ◌||◌ local c.as_json_word.ensures.1 in
    let with_word = c.in_ok-with_word.ensures.shape c.call_word.ensures.1 ∙ ap₂ with_rule as_json c.call_word.ensures.0 in
    let local_with_word = c.in_ok-with_word.ensures.globals ∙ ap₂ ◌||◌ local_as_json c.call_word.ensures.1 in
    λ old new adds. adds.shape local_with_word ∙ ap (λ app. with_subcommand (app_of old) app.top) with_word
