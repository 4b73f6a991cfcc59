use Rattle.evl_hosts.proofs.HostLaws.{all_belong}
use Rattle.evl_hosts.proofs.opening.open_hosts.Goals as goal

pub apart-requires : goal.apart-requires
apart-requires c = rw (c.in-Ok.ensures.ok, c.in_ok-shared.ensures.callers) (all_belong c.in_ok-shared.shared c.args.board.threads)
