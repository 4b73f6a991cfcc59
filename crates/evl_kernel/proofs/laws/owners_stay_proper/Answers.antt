use Rattle.evl_kernel.proofs.histories.OwnerLaws.{owners_stay}
use Rattle.evl_kernel.proofs.laws.owners_stay_proper.Goals as goal

pub returns : goal.returns
returns c = owners_stay
