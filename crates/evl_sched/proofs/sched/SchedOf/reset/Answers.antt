use Rattle.std.proofs.Common.{length, refl, sym, arith}
use Rattle.evl_sched.specs.Ranks.{fresh}
use Rattle.evl_sched.specs.Threads.{opening}
use Rattle.evl_sched.proofs.GroupLaws.{refilled-opened}
use Rattle.evl_sched.proofs.StoodLaws.{stood-fresh}
use Rattle.evl_sched.proofs.MemberLaws.{listed_nobody}
use Rattle.evl_sched.proofs.sched.SchedOf.reset.Goals as goal

pub clear-requires : goal.clear-requires
clear-requires g c = record { few = omega (arith, c.self.invariant.0.many, c.self.invariant.0.few) }

pub invariant_of-self : goal.invariant_of-self
invariant_of-self g c =
    let is = c.self.invariant.0 in
    rw (c.set_all.ensures.all, c.set_all-2.ensures.all, c.clear.ensures.empty) (
      stood-fresh (length c.self.inside.seats.items) (length c.self.inside.given.items) (length c.self.inside.order.places) _ is.few is.sound.same (sym is.many),
      listed_nobody (length c.self.inside.seats.items) _ c.self.inside.members c.self.inside.spare c.self.invariant.1 refl,
    )

pub returns : goal.returns
unfolding fresh opening
returns g c = record { fresh = rw (← c.self.view_is, c.set_all.ensures.all, c.set_all-2.ensures.all, c.clear.ensures.empty, c.refill_all.ensures.refilled, c.self.invariant.0.sound.same, sym (refilled-opened c.self.inside.groups.items)) refl }
