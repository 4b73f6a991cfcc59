use Rattle.std.proofs.Common.{◌≡◌, ◌∙◌, ap, ap₂, codes}
use Rattle.std.specs.Prelude.{◌||◌}
use Rattle.clap.specs.Simple.{app_of_fields}
use Rattle.clap.specs.Words.{app_of, new_app, with_rule, with_subcommand}
use Rattle.lab.specs.Grammar.{draw_part}
use Rattle.lab.proofs.draw_commands.draw_command.Goals as goal

pub returns : goal.returns
unfolding draw_part
returns c =
    let start : app_of c.about-command.result ≡ new_app (codes "draw") = ap app_of_fields c.about-command.ensures ∙ c.new.ensures.app in
    let local = ap (λ f. f.has_globals) c.about-command.ensures ∙ c.new.ensures.local in
    let over_bank = c.in_ok-over_bank.ensures.shape c.bank_word.ensures.1 ∙ ap₂ with_rule start c.bank_word.ensures.0 in
    let local_over_bank = c.in_ok-over_bank.ensures.globals ∙ ap₂ ◌||◌ local c.bank_word.ensures.1 in
    let of_outcome = c.in_ok-of_outcome.ensures.shape c.drawn_word.ensures.1 ∙ ap₂ with_rule over_bank c.drawn_word.ensures.0 in
    let local_of_outcome = c.in_ok-of_outcome.ensures.globals ∙ ap₂ ◌||◌ local_over_bank c.drawn_word.ensures.1 in
    let as_svg = c.in_ok-as_svg.ensures.shape c.in_ok-svg_word.ensures.1 ∙ ap₂ with_rule of_outcome c.in_ok-svg_word.ensures.0 in
    let local_as_svg = c.in_ok-as_svg.ensures.globals ∙ ap₂ ◌||◌ local_of_outcome c.in_ok-svg_word.ensures.1 in
    let as_events = c.in_ok-as_events.ensures.shape c.in_ok-perfetto_word.ensures.1 ∙ ap₂ with_rule as_svg c.in_ok-perfetto_word.ensures.0 in
    let local_as_events = c.in_ok-as_events.ensures.globals ∙ ap₂ ◌||◌ local_as_svg c.in_ok-perfetto_word.ensures.1 in
    let with_down = c.in_ok-with_down.ensures.shape c.in_ok-down_word.ensures.1 ∙ ap₂ with_rule as_events c.in_ok-down_word.ensures.0 in
    let local_with_down = c.in_ok-with_down.ensures.globals ∙ ap₂ ◌||◌ local_as_events c.in_ok-down_word.ensures.1 in
    let with_across = c.in_ok-with_across.ensures.shape c.in_ok-across_word.ensures.1 ∙ ap₂ with_rule with_down c.in_ok-across_word.ensures.0 in
    let local_with_across = c.in_ok-with_across.ensures.globals ∙ ap₂ ◌||◌ local_with_down c.in_ok-across_word.ensures.1 in
    let with_upto = c.in_ok-with_upto.ensures.shape c.upto_word.ensures.1 ∙ ap₂ with_rule with_across c.upto_word.ensures.0 in
    let local_with_upto = c.in_ok-with_upto.ensures.globals ∙ ap₂ ◌||◌ local_with_across c.upto_word.ensures.1 in
    let with_page = c.in_ok-with_page.ensures.shape c.page_word.ensures.1 ∙ ap₂ with_rule with_upto c.page_word.ensures.0 in
    let local_with_page = c.in_ok-with_page.ensures.globals ∙ ap₂ ◌||◌ local_with_upto c.page_word.ensures.1 in
    let with_file = c.in_ok-with_file.ensures.shape c.drawn_file.ensures.1 ∙ ap₂ with_rule with_page c.drawn_file.ensures.0 in
    let local_with_file = c.in_ok-with_file.ensures.globals ∙ ap₂ ◌||◌ local_with_page c.drawn_file.ensures.1 in
    λ old new adds. adds.shape local_with_file ∙ ap (λ app. with_subcommand (app_of old) app.top) with_file
