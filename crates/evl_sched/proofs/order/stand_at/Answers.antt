use Rattle.std.proofs.Common.{◌≡◌, ap, sym, ◌∙◌, None, slice_set, Option}
use Rattle.std.proofs.lemmas.List.{set-get_or}
use Rattle.evl_sched.specs.declared.place.Place.{Place}
use Rattle.evl_sched.specs.Orders.{place_by}
use Rattle.evl_sched.specs.Places.{place_of}
use Rattle.evl_sched.proofs.order.stand_at.Goals as goal

pub returns-then-is_same : goal.returns-then-is_same
returns-then-is_same g c =
    let there : place_of c.args.queues.now c.args.thread ≡ place_by c.args.stamp c.args.rank = sym c.place.ensures.place ∙ (c.is_same.ensures.same c.if-is_same.true ∙ c.place_by-place.ensures.place) in
    record { stood = sym (ap (λ (o : Option Place). slice_set c.args.queues.now c.args.thread o) (sym there) ∙ set-get_or c.args.queues.now c.args.thread None) }
