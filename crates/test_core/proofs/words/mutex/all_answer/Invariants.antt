use Rattle.std.proofs.Common.{All}
use Rattle.evl_words.specs.MutexCalls.{IsSeatOf}
use Rattle.test_core.proofs.words.mutex.all_answer.Given as goal

abbrev pub invariant-loop-part : goal.invariant-loop-part
invariant-loop-part l = All (λ seat. IsSeatOf seat l.word) l.seats.items
