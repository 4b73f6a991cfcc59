use Rattle.evl_words.proofs.GateSteps.{word_shows}
use Rattle.evl_words.proofs.laws.word_shows_the_holders.Goals as goal

pub returns : goal.returns
returns c = word_shows
