use Rattle.evl_words.proofs.MutexEnds.{mutex_law}
use Rattle.evl_words.proofs.laws.mutex_world_stands.Goals as goal

pub returns : goal.returns
returns c = mutex_law
