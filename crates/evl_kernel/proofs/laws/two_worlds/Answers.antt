use Rattle.evl_kernel.proofs.histories.WorldLaws.{worlds_agree}
use Rattle.evl_kernel.proofs.laws.two_worlds.Goals as goal

pub returns : goal.returns
returns c = worlds_agree
