use Rattle.evl_sync.proofs.GroupLaws.{sound-dropped}
use Rattle.evl_sync.proofs.flag_group.FlagGroup.drop_waiter.Goals as goal

pub invariant_of-self : goal.invariant_of-self
invariant_of-self c =
    rw c.leave.ensures.dropped (sound-dropped c.args.thread.0 c.self.inside.bits c.self.inside.waiters.items c.self.invariant)
