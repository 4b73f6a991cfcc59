use Rattle.evl_words.proofs.GateSteps.{holders_agree}
use Rattle.evl_words.proofs.laws.holders_agree.Goals as goal

pub returns : goal.returns
returns c = holders_agree
