use Rattle.std.proofs.Common.{◌≡◌, ◌++◌, map, length}
use Rattle.std.specs.List.{All}
use denote.Text.{Utf8}
use denote.Shadow.{shadow}
use Rattle.lab_traces.specs.Says.{IsLine, read_of, says_some, text_of, whole_lines}
use Rattle.lab_traces.proofs.traces.read_lines.Given as goal

abbrev pub invariant-loop-rest : goal.invariant-loop-rest
invariant-loop-rest l =
    shadow (Utf8 l.rest) × (map read_of l.lines.items ≡ map says_some l.lines.items) × (whole_lines (map text_of l.lines.items) ++ l.rest ≡ l.text)
    × All (λ line. IsLine (text_of line)) l.lines.items

abbrev pub decreases-loop-rest : goal.decreases-loop-rest
decreases-loop-rest l = length l.rest
