use Rattle.evl_words.proofs.MutexSteps.{mark_alone}
use Rattle.evl_words.proofs.laws.mark_alone_shows_a_winner.Goals as goal

pub returns : goal.returns
returns c = mark_alone
