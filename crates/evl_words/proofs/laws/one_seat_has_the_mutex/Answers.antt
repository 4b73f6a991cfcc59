use Rattle.evl_words.proofs.MutexSteps.{one_has_it}
use Rattle.evl_words.proofs.laws.one_seat_has_the_mutex.Goals as goal

pub returns : goal.returns
returns c = one_has_it
