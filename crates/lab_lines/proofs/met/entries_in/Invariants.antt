use Rattle.std.proofs.Common.{◌≡◌, ◌++◌, drop, map}
use Rattle.lab_traces.specs.Says.{parts_of}
use Rattle.lab_lines.specs.Met.{entries_of}
use Rattle.lab_lines.proofs.met.entries_in.Given as goal

abbrev pub invariant-loop-line : goal.invariant-loop-line
invariant-loop-line l =
    map parts_of l.all.items ++ entries_of (map (λ line. line.now) (drop l.line-index l.lines)) ≡ entries_of (map (λ line. line.now) l.lines)
