use Rattle.std.proofs.Common.{refl, sym, ◌∙◌}
use Rattle.evl_sched.specs.Ranks.{Ranked}
use Rattle.evl_sched.specs.Wanted.{wanted_rank}
use Rattle.evl_sched.proofs.GroupLaws.{stands_still}
use Rattle.evl_sched.proofs.StoodLaws.{unwanted}
use Rattle.evl_sched.proofs.ready.restand.Goals as goal

pub returns-then-not-is_ready : goal.returns-then-not-is_ready
returns-then-not-is_ready g c =
    let r : Ranked = record { sched = record { seats = c.args.seats.now.items; ready = c.args.order.now.ready; groups = c.args.groups.now.items }; given = c.args.given.now.items } in
    let unready = sym c.is_ready.ensures.ready ∙ c.if-not-is_ready.true in
    record {
      ready = refl;
      ranks = stands_still c.args.order.now.places (wanted_rank r) c.args.thread (c.is_ready.ensures.stands c.if-not-is_ready.true ∙ sym (unwanted r c.args.thread unready));
      many = refl;
    }
