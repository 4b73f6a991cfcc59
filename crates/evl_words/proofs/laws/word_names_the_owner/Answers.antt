use Rattle.evl_words.proofs.MutexSteps.{names_owner}
use Rattle.evl_words.proofs.laws.word_names_the_owner.Goals as goal

pub returns : goal.returns
returns c = names_owner
