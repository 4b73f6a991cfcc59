use Rattle.std.proofs.Common.{All}
use Rattle.evl_words.specs.MutexCalls.{IsSeatOf}
use Rattle.test_core.proofs.words.mutex.round_answers.Given as goal

abbrev pub invariant-loop : goal.invariant-loop
invariant-loop l = All (λ seat. IsSeatOf seat l.word) l.seats.items
