use Rattle.std.specs.Int.Bits.{and_zero_l}
use Rattle.evl_sync.proofs.GroupLaws.{sound-walked}
use Rattle.evl_sync.proofs.RestLaws.{rests-fewer}
use Rattle.evl_sync.proofs.QueueLaws.{few_kept}
use Rattle.evl_sync.proofs.flag_group.FlagGroup.post_telling.Goals as goal

pub walk-self-inside-requires-clause-few : goal.walk-self-inside-requires-clause-few
walk-self-inside-requires-clause-few c = few_kept (λ w. w.thread) (λ w. w.rank) c.self.inside.waiters.items c.self.invariant.queue

pub walk-self-inside-requires-clause-rests : goal.walk-self-inside-requires-clause-rests
walk-self-inside-requires-clause-rests c = rests-fewer c.self.inside.waiters.items 0 c.self.inside.bits (and_zero_l c.self.inside.bits) c.self.invariant.rests

pub invariant_of-self : goal.invariant_of-self
invariant_of-self c =
    rw (c.walk-self-inside.ensures.waiting, c.walk-self-inside.ensures.left) (sound-walked c.self.inside.waiters.items _ c.self.invariant.queue)
