use Rattle.std.proofs.Common.{ℕ, List, ◌++◌, ap}
use Rattle.evl_shell.specs.Moments.{moment}
use Rattle.evl_shell.specs.Runs.{lines_from}
use Rattle.evl_shell.proofs.PassLemmas.{Stopped-front, Stopped-second, Passes-both}
use Rattle.evl_shell.proofs.RunLemmas.{lines-same}
use Rattle.evl_shell.proofs.runs.play_opened.Goals as goal

pub returns-in-Err-clause-stopped : goal.returns-in-Err-clause-stopped
returns-in-Err-clause-stopped g c =
    Stopped-front _ _ _ c.as_str.result.now _ _ _ _ (ap (λ (line : List ℕ). line ++ lines_from c.args.kernel.now.limit (moment c.args.kernel.now) c.args.steps.items) c.as_str.ensures.value) c.in-Err.ensures.stopped

pub returns-in-Ok-play_steps-clause-ok : goal.returns-in-Ok-play_steps-clause-ok
returns-in-Ok-play_steps-clause-ok g c =
    Passes-both _ _ _ _ _ _ c.as_str.result.now _ _ (ap (λ (line : List ℕ). line ++ lines_from c.args.kernel.now.limit (moment c.args.kernel.now) c.args.steps.items) c.as_str.ensures.value)
    c.in-Ok.ensures.ok c.in-Ok-play_steps.ensures.ok

pub returns-in-Err-play_steps-clause-stopped : goal.returns-in-Err-play_steps-clause-stopped
returns-in-Err-play_steps-clause-stopped g c =
    Stopped-second _ _ _ _ _ c.as_str.result.now _ _ _ _ (ap (λ (line : List ℕ). line ++ lines_from c.args.kernel.now.limit (moment c.args.kernel.now) c.args.steps.items) c.as_str.ensures.value)
    c.in-Ok.ensures.ok (lines-same _ _ c.as_str.ensures.value c.requires.whole) c.in-Err-play_steps.ensures.stopped
