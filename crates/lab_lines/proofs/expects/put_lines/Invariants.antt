use Rattle.std.proofs.Common.{◌≡◌, ◌≤◌, ◌+◌, ◌++◌, drop, map}
use Rattle.lab_lines.specs.Expects.{lines_expect, step_behind}
use Rattle.lab_lines.specs.Tables.{expects_in}
use Rattle.lab_lines.proofs.expects.put_lines.Given as goal

abbrev pub invariant-loop-at : goal.invariant-loop-at
invariant-loop-at l = record {
  expects :
      map expects_in l.all.items ++ lines_expect l.setup l.step (l.at + 1) (map (λ line. line.now) (drop l.at l.lines))
      ≡ map expects_in l.initial.all.items ++ lines_expect l.setup l.first 1 (map (λ line. line.now) l.lines);
  next : step_behind l.setup l.step (map (λ line. line.now) (drop l.at l.lines)) ≡ step_behind l.setup l.first (map (λ line. line.now) l.lines);
  few : l.step ≤ l.first + l.at;
}
