use Rattle.std.proofs.Common.{◌≡◌, ◌≤◌, take}
use Rattle.lab_live.specs.Answers as answers
use Rattle.lab_live.proofs.answers.trimmed.Given as goal

abbrev pub invariant-loop-at : goal.invariant-loop-at
invariant-loop-at l = record {
  within : l.end ≤ l.at;
  kept : answers.trimmed (take l.at l.line) ≡ take l.end l.line;
}
