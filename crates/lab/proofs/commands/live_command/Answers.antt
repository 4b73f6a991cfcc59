use Rattle.std.proofs.Common.{◌≡◌, ◌∙◌, ap, ap₂, codes}
use Rattle.std.specs.Prelude.{◌||◌}
use Rattle.clap.specs.Simple.{app_of_fields}
use Rattle.clap.specs.Words.{app_of, new_app, with_rule, with_subcommand}
use Rattle.lab.specs.Grammar.{live_part}
use Rattle.lab.proofs.commands.live_command.Goals as goal

pub returns : goal.returns
unfolding live_part
returns c =
    let start : app_of c.about-command.result ≡ new_app (codes "live") = ap app_of_fields c.about-command.ensures ∙ c.new.ensures.app in
    let local = ap (λ f. f.has_globals) c.about-command.ensures ∙ c.new.ensures.local in
    let over_bank = c.in_ok-over_bank.ensures.shape c.bank_word.ensures.1 ∙ ap₂ with_rule start c.bank_word.ensures.0 in
    let local_over_bank = c.in_ok-over_bank.ensures.globals ∙ ap₂ ◌||◌ local c.bank_word.ensures.1 in
    let with_limit = c.in_ok-with_limit.ensures.shape c.limit_word.ensures.1 ∙ ap₂ with_rule over_bank c.limit_word.ensures.0 in
    let local_with_limit = c.in_ok-with_limit.ensures.globals ∙ ap₂ ◌||◌ local_over_bank c.limit_word.ensures.1 in
    let prompted = c.in_ok-prompted.ensures.shape c.prompt_word.ensures.1 ∙ ap₂ with_rule with_limit c.prompt_word.ensures.0 in
    let local_prompted = c.in_ok-prompted.ensures.globals ∙ ap₂ ◌||◌ local_with_limit c.prompt_word.ensures.1 in
    let with_file = c.in_ok-with_file.ensures.shape c.first_file.ensures.1 ∙ ap₂ with_rule prompted c.first_file.ensures.0 in
    let local_with_file = c.in_ok-with_file.ensures.globals ∙ ap₂ ◌||◌ local_prompted c.first_file.ensures.1 in
    λ old new adds. adds.shape local_with_file ∙ ap (λ app. with_subcommand (app_of old) app.top) with_file
