use Rattle.std.proofs.Common.{◌≡◌, ◌∙◌, [], ◌∷◌, ap, codes, true}
use Rattle.clap.specs.Simple.{app_of_fields, on_top}
use Rattle.clap.specs.Words.{app_of, new_app, with_subcommand}
use Rattle.lab.specs.Grammar.{callers_part, check_part, convert_part, draw_part, help_part, live_part, orders_part, play_part, program, run_part}
use Rattle.lab.proofs.commands.command_line.Goals as goal

pub returns : goal.returns
returns c =
    let about : app_of c.about.result ≡ new_app (codes "lab") = ap app_of_fields c.about.ensures ∙ c.new.ensures.app in
    let bare = ap app_of_fields c.disable_help_subcommand.ensures ∙ ap (on_top (λ s. record s { disable_help_subcommand = true })) about in
    let start = ap app_of_fields c.subcommand_required-program.ensures ∙ ap (on_top (λ s. record s { subcommand_required = true })) bare in
    let checks : app_of c.in_ok-checks.checks ≡ program (check_part ∷ []) = c.in_ok-check_command.ensures _ _ c.in_ok-checks.ensures ∙ ap (λ app. with_subcommand app check_part) start in
    let draws : app_of c.in_ok-draws.draws ≡ program (check_part ∷ draw_part ∷ []) = c.in_ok-draw_command.ensures _ _ c.in_ok-draws.ensures ∙ ap (λ app. with_subcommand app draw_part) checks in
    let plays : app_of c.in_ok-plays.plays ≡ program (check_part ∷ draw_part ∷ play_part ∷ []) = c.in_ok-play_command.ensures _ _ c.in_ok-plays.ensures ∙ ap (λ app. with_subcommand app play_part) draws in
    let converts : app_of c.in_ok-converts.converts ≡ program (check_part ∷ draw_part ∷ play_part ∷ convert_part ∷ []) = c.in_ok-convert_command.ensures _ _ c.in_ok-converts.ensures ∙ ap (λ app. with_subcommand app convert_part) plays in
    let lives : app_of c.in_ok-lives.lives ≡ program (check_part ∷ draw_part ∷ play_part ∷ convert_part ∷ live_part ∷ []) = c.in_ok-live_command.ensures _ _ c.in_ok-lives.ensures ∙ ap (λ app. with_subcommand app live_part) converts in
    let orders : app_of c.in_ok-orders.orders ≡ program (check_part ∷ draw_part ∷ play_part ∷ convert_part ∷ live_part ∷ orders_part ∷ []) = c.in_ok-orders_command.ensures _ _ c.in_ok-orders.ensures ∙ ap (λ app. with_subcommand app orders_part) lives in
    let steps : app_of c.in_ok-steps.steps ≡ program (check_part ∷ draw_part ∷ play_part ∷ convert_part ∷ live_part ∷ orders_part ∷ callers_part ∷ []) = c.in_ok-steps_command.ensures _ _ c.in_ok-steps.ensures ∙ ap (λ app. with_subcommand app callers_part) orders in
    let runs : app_of c.in_ok-runs.runs ≡ program (check_part ∷ draw_part ∷ play_part ∷ convert_part ∷ live_part ∷ orders_part ∷ callers_part ∷ run_part ∷ []) = c.in_ok-run_command.ensures _ _ c.in_ok-runs.ensures ∙ ap (λ app. with_subcommand app run_part) steps in
    let all : app_of c.in_ok-all.all ≡ program (check_part ∷ draw_part ∷ play_part ∷ convert_part ∷ live_part ∷ orders_part ∷ callers_part ∷ run_part ∷ help_part ∷ []) = c.in_ok-help_command.ensures _ _ c.in_ok-all.ensures ∙ ap (λ app. with_subcommand app help_part) runs in
    all
