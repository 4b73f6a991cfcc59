use Rattle.std.proofs.Common.{◌≡◌, ℕ, Option, Some, None, is_some, true, refl, sym, ap, ◌∙◌}
use Rattle.evl_sched.specs.Orders.{place_by}
use Rattle.evl_sched.proofs.StampedLaws.{stamp-within, stamped-stood, stood-ranks}
use Rattle.evl_sched.proofs.order.Order.restand.Goals as goal

-- who has a place is ready
stamped : (stamp rank : Option ℕ) → is_some (place_by stamp rank) ≡ true → is_some stamp ≡ true
stamped None rank e = cc
stamped (Some stamp) rank e = refl

pub move_to-requires : goal.move_to-requires
move_to-requires g c = λ e.
    stamp-within _ _ _ c.self.invariant c.args.thread
    (ap is_some (sym c.stamp_in-stamp.ensures.stamp) ∙ stamped c.stamp_in-stamp.result c.args.rank (ap is_some (sym c.place_by.ensures.place) ∙ e))

pub invariant_of-self : goal.invariant_of-self
invariant_of-self g c = rw (c.move_to.ensures.moved, c.place_by.ensures.place, c.stamp_in-stamp.ensures.stamp) (stamped-stood _ _ _ c.self.invariant c.args.thread c.args.rank)

pub returns-clause-ranks : goal.returns-clause-ranks
returns-clause-ranks g c = rw (← c.self.view_is, c.move_to.ensures.moved, c.place_by.ensures.place, c.stamp_in-stamp.ensures.stamp) (stood-ranks _ _ _ c.self.invariant c.args.thread c.args.rank)
