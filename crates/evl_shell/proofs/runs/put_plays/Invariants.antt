use Rattle.std.proofs.Common.{◌≡◌, false, ℕ, List, ◌++◌, drop}
use Rattle.evl_scenario.specs.Lines.{AreLines, play_lines}
use Rattle.evl_shell.specs.Sinks.{Passes}
use Rattle.evl_shell.proofs.runs.put_plays.Given as goal

abbrev pub invariant-loop-play : goal.invariant-loop-play
invariant-loop-play g l =
    (g.S.Sink.has_failed l.out ≡ false)
    × (done : List ℕ) × (done ++ play_lines (drop l.play-index l.plays) ≡ play_lines l.plays) × AreLines done
    × Passes (g.S.Sink.told l.initial.out) l.initial.chunks (g.S.Sink.told l.out) l.chunks done
