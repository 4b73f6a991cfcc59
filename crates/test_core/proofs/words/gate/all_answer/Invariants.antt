use Rattle.std.proofs.Common.{All}
use Rattle.evl_words.specs.GateCalls.{IsSeatOf}
use Rattle.test_core.proofs.words.gate.all_answer.Given as goal

abbrev pub invariant-loop : goal.invariant-loop
invariant-loop l = All (λ seat. IsSeatOf seat l.gate) l.seats.items
