use Rattle.std.proofs.Common.{◌≡◌, ◌++◌, drop, string_bytes}
use Rattle.evl_scenario.specs.Lines.{play_lines}
use Rattle.lab_callers.proofs.lines.put_plays.Given as goal

abbrev pub invariant-loop-play : goal.invariant-loop-play
invariant-loop-play l = string_bytes l.text ++ play_lines (drop l.play-index l.plays) ≡ string_bytes l.initial.text ++ play_lines l.plays
