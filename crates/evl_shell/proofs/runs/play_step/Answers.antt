use Rattle.std.proofs.Common.{[], ◌∙◌}
use Rattle.evl_scenario.specs.Lines.{line_around}
use Rattle.evl_shell.specs.Moments.{moment}
use Rattle.evl_shell.specs.Runs.{turn, turn_lines}
use Rattle.evl_shell.proofs.PassLemmas.{Stopped-more}
use Rattle.evl_shell.proofs.RunLemmas.{turn-line_stopped, own_plays, turn-whole, turn-plays_stopped}
use Rattle.evl_shell.proofs.runs.play_step.Goals as goal

pub returns-in_default-clause-stopped : goal.returns-in_default-clause-stopped
returns-in_default-clause-stopped g c =
    Stopped-more _ _ _ [] (turn_lines c.args.step (turn c.args.kernel.now.limit (moment c.args.kernel.now) c.args.step)) _ _ c.give_up.ensures.stopped

pub returns-in_default-make_call-clause-stopped : goal.returns-in_default-make_call-clause-stopped
returns-in_default-make_call-clause-stopped g c =
    Stopped-more _ _ _ [] (turn_lines c.args.step (turn c.args.kernel.now.limit (moment c.args.kernel.now) c.args.step)) _ _ c.give_up-in_default-make_call.ensures.stopped

pub returns-in_default-write_answer-clause-stopped : goal.returns-in_default-write_answer-clause-stopped
returns-in_default-write_answer-clause-stopped g c =
    Stopped-more _ _ _ [] (turn_lines c.args.step (turn c.args.kernel.now.limit (moment c.args.kernel.now) c.args.step)) _ _ c.give_up-in_default-write_answer.ensures.stopped

pub returns-in-Err-clause-stopped : goal.returns-in-Err-clause-stopped
returns-in-Err-clause-stopped g c =
    let told = c.in-Ok-make_call.ensures.turn in
    let t = turn c.args.kernel.now.limit (moment c.args.kernel.now) c.args.step in
    turn-line_stopped _ _ _ c.as_str.result.now c.args.step t _ _
    (c.as_str.ensures.value ∙ c.in-Ok-write_answer.ensures ∙ (λ i. line_around (told.number_is i) (c.in-Ok.ensures i) (told.answer_is i))) c.in-Err.ensures.stopped

pub returns-in-Ok-put_plays-clause-ok : goal.returns-in-Ok-put_plays-clause-ok
returns-in-Ok-put_plays-clause-ok g c =
    let told = c.in-Ok-make_call.ensures.turn in
    let t = turn c.args.kernel.now.limit (moment c.args.kernel.now) c.args.step in
    turn-whole _ _ _ _ _ _ c.as_str.result.now c.args.step t c.plays_from.result.now
    (c.as_str.ensures.value ∙ c.in-Ok-write_answer.ensures ∙ (λ i. line_around (told.number_is i) (c.in-Ok.ensures i) (told.answer_is i)))
    (own_plays c.args.kernel.now c.make_call.new.kernel t c.plays-plays.result.now c.plays_from.result.now c.plays-plays.ensures.plays told.turns c.plays_from.ensures)
    c.in-Ok-put.ensures.ok c.in-Ok-put_plays.ensures.ok

pub returns-in-Err-put_plays-clause-stopped : goal.returns-in-Err-put_plays-clause-stopped
returns-in-Err-put_plays-clause-stopped g c =
    let told = c.in-Ok-make_call.ensures.turn in
    let t = turn c.args.kernel.now.limit (moment c.args.kernel.now) c.args.step in
    turn-plays_stopped _ _ _ _ _ c.as_str.result.now c.args.step t c.plays_from.result.now _ _
    (c.as_str.ensures.value ∙ c.in-Ok-write_answer.ensures ∙ (λ i. line_around (told.number_is i) (c.in-Ok.ensures i) (told.answer_is i)))
    (own_plays c.args.kernel.now c.make_call.new.kernel t c.plays-plays.result.now c.plays_from.result.now c.plays-plays.ensures.plays told.turns c.plays_from.ensures)
    c.in-Ok-put.ensures.ok c.in-Err-put_plays.ensures.stopped
