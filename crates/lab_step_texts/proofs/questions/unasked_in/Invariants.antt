use Rattle.std.proofs.Common.{◌≡◌, ◌++◌, drop, false, map}
use Rattle.std.specs.Prelude.{string_bytes}
use Rattle.lab_scenario_orders.specs.Splits.{joined_lines}
use Rattle.lab_step_texts.specs.Questions.{unasked_lines}
use Rattle.lab_step_texts.proofs.questions.unasked_in.Given as goal

abbrev pub invariant-loop-line : goal.invariant-loop-line
invariant-loop-line l =
    string_bytes l.text ++ joined_lines (unasked_lines l.is (map (λ line. line.now) (drop l.line-index l.lines))) ≡ joined_lines (unasked_lines false (map (λ line. line.now) l.lines))
