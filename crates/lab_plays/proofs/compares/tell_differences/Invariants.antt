use Rattle.std.proofs.Common.{map, take}
use Rattle.std.specs.Io.KnownBytes.{Appends}
use Rattle.std.specs.List.{concat}
use Rattle.lab_reports.specs.Differences.{told_apart}
use Rattle.lab_plays.specs.Plays.{apart_text}
use Rattle.lab_plays.proofs.compares.tell_differences.Given as goal

abbrev pub invariant-loop-difference : goal.invariant-loop-difference
invariant-loop-difference g l =
    Appends (g.O.Stream.contents l.initial.out) (g.O.Stream.contents l.out) (concat (map (apart_text l.name) (map told_apart (take l.difference-index l.differences))))
