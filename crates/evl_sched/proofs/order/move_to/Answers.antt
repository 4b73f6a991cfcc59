use Rattle.std.proofs.Common.{ap, sym, ◌∙◌, None, Some, slice_set, List, Option}
use Rattle.std.proofs.lemmas.List.{set-set}
use Rattle.evl_sched.specs.declared.place.Place.{Place}
use Rattle.evl_sched.proofs.order.move_to.Goals as goal

pub returns-in-Some : goal.returns-in-Some
returns-in-Some g c = record {
  moved =
      c.put.ensures.put ∙ (ap (λ (q : List (Option Place)). slice_set q c.args.thread (Some c.in-Some.place)) c.take.ensures.taken
      ∙ (set-set c.args.queues.now c.args.thread None (Some c.in-Some.place) ∙ ap (λ (o : Option Place). slice_set c.args.queues.now c.args.thread o) (sym c.in-Some.is)));
}
