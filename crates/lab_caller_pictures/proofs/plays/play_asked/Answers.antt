use Rattle.std.proofs.Common.{List, map, ap, ◌∙◌}
use Rattle.evl_kernel.specs.state.States.{Handler}
use Rattle.evl_scenario.specs.Writings.{without_staxes}
use Rattle.evl_plans.specs.Told.{handler_of}
use Rattle.lab_caller_pictures.specs.Runs.{PlaysKept}
use Rattle.lab_caller_pictures.proofs.RunLaws.{run_by, why_by}
use Rattle.lab_caller_pictures.proofs.plays.play_asked.Goals as goal

pub returns-in-Ok-play_kept-clause-run : goal.returns-in-Ok-play_kept-clause-run
returns-in-Ok-play_kept-clause-run c =
    let bank : List Handler = map handler_of c.args.bank.now in
    let kept = c.in-Ok-play_kept.kept in
    let plays : PlaysKept bank c.args.asked kept.told kept.entered.items kept.kernel =
    record { plans = c.in-Ok.own.items; bank_is = c.in-Ok.ensures; is_kept = c.in-Ok-play_kept.ensures.kept } in
    let ran = c.run_of.ensures in
    run_by bank c.args.asked c.without_staxes-board.result kept.told kept.entered.items kept.kernel c.run_of.result plays (c.without_staxes-board.ensures ∙ ap without_staxes c.copied.ensures) ran.made ran.lines ran.known

pub returns-in-Ok-play_kept-clause-why : goal.returns-in-Ok-play_kept-clause-why
returns-in-Ok-play_kept-clause-why c =
    let bank : List Handler = map handler_of c.args.bank.now in
    let kept = c.in-Ok-play_kept.kept in
    let plays : PlaysKept bank c.args.asked kept.told kept.entered.items kept.kernel =
    record { plans = c.in-Ok.own.items; bank_is = c.in-Ok.ensures; is_kept = c.in-Ok-play_kept.ensures.kept } in
    why_by bank c.args.asked kept.told kept.entered.items kept.kernel c.run_of.result plays c.run_of.ensures.why
