use Rattle.std.proofs.Common.{◌≡◌, ◌∙◌, ap, ap₂, codes}
use Rattle.std.specs.Prelude.{◌||◌}
use Rattle.clap.specs.Simple.{app_of_fields}
use Rattle.clap.specs.Words.{app_of, new_app, with_rule, with_subcommand}
use Rattle.lab.specs.Grammar.{play_part}
use Rattle.lab.proofs.commands.play_command.Goals as goal

pub returns : goal.returns
unfolding play_part
returns c =
    let start : app_of c.about-command.result ≡ new_app (codes "play") = ap app_of_fields c.about-command.ensures ∙ c.new.ensures.app in
    let local = ap (λ f. f.has_globals) c.about-command.ensures ∙ c.new.ensures.local in
    let over_bank = c.in_ok-over_bank.ensures.shape c.bank_word.ensures.1 ∙ ap₂ with_rule start c.bank_word.ensures.0 in
    let local_over_bank = c.in_ok-over_bank.ensures.globals ∙ ap₂ ◌||◌ local c.bank_word.ensures.1 in
    let with_limit = c.in_ok-with_limit.ensures.shape c.limit_word.ensures.1 ∙ ap₂ with_rule over_bank c.limit_word.ensures.0 in
    let local_with_limit = c.in_ok-with_limit.ensures.globals ∙ ap₂ ◌||◌ local_over_bank c.limit_word.ensures.1 in
    let as_json = c.in_ok-as_json.ensures.shape c.in_ok-json_word.ensures.1 ∙ ap₂ with_rule with_limit c.in_ok-json_word.ensures.0 in
    let local_as_json = c.in_ok-as_json.ensures.globals ∙ ap₂ ◌||◌ local_with_limit c.in_ok-json_word.ensures.1 in
    let with_states = c.in_ok-with_states.ensures.shape c.in_ok-states_word.ensures.1 ∙ ap₂ with_rule as_json c.in_ok-states_word.ensures.0 in
    let local_with_states = c.in_ok-with_states.ensures.globals ∙ ap₂ ◌||◌ local_as_json c.in_ok-states_word.ensures.1 in
    let against = c.in_ok-against.ensures.shape c.against_word.ensures.1 ∙ ap₂ with_rule with_states c.against_word.ensures.0 in
    let local_against = c.in_ok-against.ensures.globals ∙ ap₂ ◌||◌ local_with_states c.against_word.ensures.1 in
    let with_files = c.in_ok-with_files.ensures.shape c.played_files.ensures.1 ∙ ap₂ with_rule against c.played_files.ensures.0 in
    let local_with_files = c.in_ok-with_files.ensures.globals ∙ ap₂ ◌||◌ local_against c.played_files.ensures.1 in
    λ old new adds. adds.shape local_with_files ∙ ap (λ app. with_subcommand (app_of old) app.top) with_files
