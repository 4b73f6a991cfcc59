use Rattle.std.proofs.Common.{All}
use Rattle.evl_words.specs.MutexCalls.{IsSeatOf}
use Rattle.test_core.proofs.words.mutex.answers.Given as goal

abbrev pub invariant-loop-number : goal.invariant-loop-number
invariant-loop-number l = All (λ seat. IsSeatOf seat l.word) l.seats.items
