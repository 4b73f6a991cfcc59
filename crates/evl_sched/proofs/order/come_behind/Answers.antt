use Rattle.std.proofs.Common.{ap, ◌∙◌, None, Some, slice_set, List, Option}
use Rattle.std.proofs.lemmas.List.{set-set}
use Rattle.evl_sched.specs.declared.place.Place.{Place}
use Rattle.evl_sched.proofs.order.come_behind.Goals as goal

pub returns-then-turn : goal.returns-then-turn
returns-then-turn g c = record { stood = c.turn.ensures.turned c.if-turn.true }

pub returns : goal.returns
returns g c =
    let set = λ (q : List (Option Place)). slice_set q c.args.thread (Some c.args.place) in
    record {
      stood =
          c.put-2.ensures.put ∙ (ap set c.take.ensures.taken
          ∙ (set-set c.turn.new.self c.args.thread None (Some c.args.place) ∙ ap set (c.turn.ensures.kept c.if-turn.false)));
    }
