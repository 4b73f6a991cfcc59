use Rattle.evl_kernel.proofs.state.OnePlaceLaws.{in_one_place}
use Rattle.evl_kernel.proofs.laws.callbacks_are_in_one_place.Goals as goal

pub returns : goal.returns
returns c = in_one_place
