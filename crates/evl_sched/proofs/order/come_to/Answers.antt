use Rattle.std.proofs.Common.{ap, sym, ◌∙◌, Some, slice_set}
use Rattle.evl_sched.specs.Orders.{place_by}
use Rattle.evl_sched.proofs.order.come_to.Goals as goal

pub returns-in-Some : goal.returns-in-Some
returns-in-Some g c =
    record {
      stood =
          c.come_behind.ensures.stood
          ∙ ap (λ rank. slice_set c.args.queues.now c.args.thread (place_by (Some c.args.stamp) rank)) (sym c.in-Some.is);
    }
