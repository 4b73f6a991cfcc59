use Rattle.std.proofs.Common.{◌≡◌, ◌∙◌, ap, ap₂, codes}
use Rattle.std.specs.Prelude.{◌||◌}
use Rattle.clap.specs.Simple.{app_of_fields}
use Rattle.clap.specs.Words.{app_of, new_app, with_rule, with_subcommand}
use Rattle.lab.specs.Grammar.{orders_part}
use Rattle.lab.proofs.commands.orders_command.Goals as goal

pub returns : goal.returns
unfolding orders_part
returns c =
    let start : app_of c.about-command.result ≡ new_app (codes "orders") = ap app_of_fields c.about-command.ensures ∙ c.new.ensures.app in
    let local = ap (λ f. f.has_globals) c.about-command.ensures ∙ c.new.ensures.local in
    let over_bank = c.in_ok-over_bank.ensures.shape c.bank_word.ensures.1 ∙ ap₂ with_rule start c.bank_word.ensures.0 in
    let local_over_bank = c.in_ok-over_bank.ensures.globals ∙ ap₂ ◌||◌ local c.bank_word.ensures.1 in
    let with_most = c.in_ok-with_most.ensures.shape c.most_word.ensures.1 ∙ ap₂ with_rule over_bank c.most_word.ensures.0 in
    let local_with_most = c.in_ok-with_most.ensures.globals ∙ ap₂ ◌||◌ local_over_bank c.most_word.ensures.1 in
    let with_outcome = c.in_ok-with_outcome.ensures.shape c.outcome_word.ensures.1 ∙ ap₂ with_rule with_most c.outcome_word.ensures.0 in
    let local_with_outcome = c.in_ok-with_outcome.ensures.globals ∙ ap₂ ◌||◌ local_with_most c.outcome_word.ensures.1 in
    let with_state = c.in_ok-with_state.ensures.shape c.state_word.ensures.1 ∙ ap₂ with_rule with_outcome c.state_word.ensures.0 in
    let local_with_state = c.in_ok-with_state.ensures.globals ∙ ap₂ ◌||◌ local_with_outcome c.state_word.ensures.1 in
    let with_ask = c.in_ok-with_ask.ensures.shape c.ask_word.ensures.1 ∙ ap₂ with_rule with_state c.ask_word.ensures.0 in
    let local_with_ask = c.in_ok-with_ask.ensures.globals ∙ ap₂ ◌||◌ local_with_state c.ask_word.ensures.1 in
    let with_order = c.in_ok-with_order.ensures.shape c.order_word.ensures.1 ∙ ap₂ with_rule with_ask c.order_word.ensures.0 in
    let local_with_order = c.in_ok-with_order.ensures.globals ∙ ap₂ ◌||◌ local_with_ask c.order_word.ensures.1 in
    let with_answers = c.in_ok-with_answers.ensures.shape c.answers_word.ensures.1 ∙ ap₂ with_rule with_order c.answers_word.ensures.0 in
    let local_with_answers = c.in_ok-with_answers.ensures.globals ∙ ap₂ ◌||◌ local_with_order c.answers_word.ensures.1 in
    let with_json = c.in_ok-with_json.ensures.shape c.orders_json_word.ensures.1 ∙ ap₂ with_rule with_answers c.orders_json_word.ensures.0 in
    let local_with_json = c.in_ok-with_json.ensures.globals ∙ ap₂ ◌||◌ local_with_answers c.orders_json_word.ensures.1 in
    let with_file = c.in_ok-with_file.ensures.shape c.callers_file.ensures.1 ∙ ap₂ with_rule with_json c.callers_file.ensures.0 in
    let local_with_file = c.in_ok-with_file.ensures.globals ∙ ap₂ ◌||◌ local_with_json c.callers_file.ensures.1 in
    λ old new adds. adds.shape local_with_file ∙ ap (λ app. with_subcommand (app_of old) app.top) with_file
