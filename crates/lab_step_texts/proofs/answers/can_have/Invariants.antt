use Rattle.std.proofs.Common.{◌≡◌, drop}
use Rattle.lab_step_texts.specs.Answers.{can_have}
use Rattle.lab_step_texts.proofs.answers.can_have.Given as goal

abbrev pub invariant-loop-number : goal.invariant-loop-number
invariant-loop-number l = can_have l.wrong l.who l.answer l.number (drop l.number l.callers) ≡ can_have l.wrong l.who l.answer 0 l.callers
