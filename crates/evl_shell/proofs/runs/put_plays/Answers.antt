use Rattle.std.proofs.Common.{[], inl, refl, ◌∙◌}
use Rattle.evl_scenario.proofs.LineLemmas.{play_line-whole}
use Rattle.evl_shell.proofs.PassLemmas.{Passes-nil, Stopped-after, Passes-on}
use Rattle.evl_shell.proofs.RunLemmas.{play_lines-at, lines-same}
use Rattle.evl_shell.proofs.runs.put_plays.Goals as goal

pub loop-play-init : goal.loop-play-init
loop-play-init g c = (c.requires.working, [], refl, inl refl, Passes-nil _ _)

pub returns-in_default-clause-stopped : goal.returns-in_default-clause-stopped
returns-in_default-clause-stopped g c =
    let kept = c.loop-play.invariant in
    Stopped-after _ _ _ _ _ kept.1 [] _ _ _ _ kept.2 kept.4 kept.3 c.give_up.ensures.stopped

pub returns-in-Err-clause-stopped : goal.returns-in-Err-clause-stopped
returns-in-Err-clause-stopped g c =
    let kept = c.loop-play.invariant in
    Stopped-after _ _ _ _ _ kept.1 c.as_str.result.now _ _ _ _
    (play_lines-at c.args.plays.now c.loop-play.play-index _ kept.1 c.as_str.result.now _ kept.2 c.loop-play-test.true (c.as_str.ensures.value ∙ c.in-Ok.ensures)) kept.4 kept.3
    c.in-Err.ensures.stopped

pub loop-play-preserved : goal.loop-play-preserved
loop-play-preserved g c =
    let kept = c.loop-play.invariant in
    let passed = Passes-on _ _ _ _ _ _ kept.1 c.as_str.result.now _ _
    (play_lines-at c.args.plays.now c.loop-play.play-index _ kept.1 c.as_str.result.now _ kept.2 c.loop-play-test.true (c.as_str.ensures.value ∙ c.in-Ok.ensures)) kept.4
    c.in-Ok-put.ensures.ok in
    (c.in-Ok-put.ensures.working, passed.0, passed.1, passed.3 kept.3 (lines-same _ _ (c.as_str.ensures.value ∙ c.in-Ok.ensures) (play_line-whole _)), passed.2)
