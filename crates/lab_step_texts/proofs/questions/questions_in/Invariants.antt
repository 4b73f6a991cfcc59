use Rattle.std.proofs.Common.{◌≡◌, List, ◌++◌, drop, false, map, true}
use Rattle.lab_step_orders.specs.declared.watches.StepWatch.{StepWatch}
use Rattle.lab_step_texts.specs.Questions.{AreAsked, are_there}
use Rattle.lab_step_texts.proofs.questions.questions_in.Given as goal

abbrev pub invariant-loop-i : goal.invariant-loop-i
invariant-loop-i l = record {
  asked : (later : List StepWatch) → AreAsked l.is (map (λ line. line.now) (drop l.i l.lines)) later → AreAsked false (map (λ line. line.now) l.lines) (l.all.items ++ later);
  there : are_there l.board l.all.items ≡ true;
}
