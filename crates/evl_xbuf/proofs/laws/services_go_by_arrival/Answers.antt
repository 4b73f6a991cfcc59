use Rattle.evl_xbuf.proofs.ArrivalLaws.{by_arrival}
use Rattle.evl_xbuf.proofs.laws.services_go_by_arrival.Goals as goal

pub returns : goal.returns
returns c = by_arrival
