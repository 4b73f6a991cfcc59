use Rattle.std.proofs.Common.{arith}
use Rattle.evl_words.proofs.MutexEnds.{rule_opens}
use Rattle.evl_words.proofs.mutex.MutexWord.new.Goals as goal

pub of_words-requires : goal.of_words-requires
of_words-requires g c = rule_opens c.args.seats (omega arith)
