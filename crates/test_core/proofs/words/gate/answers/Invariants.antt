use Rattle.std.proofs.Common.{All}
use Rattle.evl_words.specs.GateCalls.{IsSeatOf}
use Rattle.test_core.proofs.words.gate.answers.Given as goal

abbrev pub invariant-loop-number : goal.invariant-loop-number
invariant-loop-number l = All (λ seat. IsSeatOf seat l.gate) l.seats.items
