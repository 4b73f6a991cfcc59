use Rattle.std.proofs.Common.{◌≡◌, ◌∙◌, ap, ap₂, codes}
use Rattle.std.specs.Prelude.{◌||◌}
use Rattle.clap.specs.Simple.{app_of_fields}
use Rattle.clap.specs.Words.{app_of, new_app, with_rule, with_subcommand}
use Rattle.lab.specs.Grammar.{run_part}
use Rattle.lab.proofs.run_commands.run_command.Goals as goal

pub returns : goal.returns
unfolding run_part
returns c =
    let start : app_of c.about-command.result ≡ new_app (codes "run") = ap app_of_fields c.about-command.ensures ∙ c.new.ensures.app in
    let local = ap (λ f. f.has_globals) c.about-command.ensures ∙ c.new.ensures.local in
    let over_bank = c.in_ok-over_bank.ensures.shape c.bank_word.ensures.1 ∙ ap₂ with_rule start c.bank_word.ensures.0 in
    let local_over_bank = c.in_ok-over_bank.ensures.globals ∙ ap₂ ◌||◌ local c.bank_word.ensures.1 in
    let as_json = c.in_ok-as_json.ensures.shape c.form_word.ensures.1 ∙ ap₂ with_rule over_bank c.form_word.ensures.0 in
    let local_as_json = c.in_ok-as_json.ensures.globals ∙ ap₂ ◌||◌ local_over_bank c.form_word.ensures.1 in
    let as_csv = c.in_ok-as_csv.ensures.shape c.form_word-2.ensures.1 ∙ ap₂ with_rule as_json c.form_word-2.ensures.0 in
    let local_as_csv = c.in_ok-as_csv.ensures.globals ∙ ap₂ ◌||◌ local_as_json c.form_word-2.ensures.1 in
    let as_trace = c.in_ok-as_trace.ensures.shape c.form_word-3.ensures.1 ∙ ap₂ with_rule as_csv c.form_word-3.ensures.0 in
    let local_as_trace = c.in_ok-as_trace.ensures.globals ∙ ap₂ ◌||◌ local_as_csv c.form_word-3.ensures.1 in
    let as_scenario = c.in_ok-as_scenario.ensures.shape c.form_word-4.ensures.1 ∙ ap₂ with_rule as_trace c.form_word-4.ensures.0 in
    let local_as_scenario = c.in_ok-as_scenario.ensures.globals ∙ ap₂ ◌||◌ local_as_trace c.form_word-4.ensures.1 in
    let as_svg = c.in_ok-as_svg.ensures.shape c.form_word-5.ensures.1 ∙ ap₂ with_rule as_scenario c.form_word-5.ensures.0 in
    let local_as_svg = c.in_ok-as_svg.ensures.globals ∙ ap₂ ◌||◌ local_as_scenario c.form_word-5.ensures.1 in
    let with_bounds = c.in_ok-with_bounds.ensures.shape c.form_word-6.ensures.1 ∙ ap₂ with_rule as_svg c.form_word-6.ensures.0 in
    let local_with_bounds = c.in_ok-with_bounds.ensures.globals ∙ ap₂ ◌||◌ local_as_svg c.form_word-6.ensures.1 in
    let with_file = c.in_ok-with_file.ensures.shape c.run_file.ensures.1 ∙ ap₂ with_rule with_bounds c.run_file.ensures.0 in
    let local_with_file = c.in_ok-with_file.ensures.globals ∙ ap₂ ◌||◌ local_with_bounds c.run_file.ensures.1 in
    λ old new adds. adds.shape local_with_file ∙ ap (λ app. with_subcommand (app_of old) app.top) with_file
