use Rattle.std.proofs.Common.{◌≡◌, List, Option, false, refl, sym, ap, ◌∙◌}
use Rattle.std.proofs.lemmas.Bool.{false≢true}
use Rattle.evl_sched.specs.declared.seat.Seat.{Seat}
use Rattle.evl_sched.specs.Wanted.{names_group, wanted_rank}
use Rattle.evl_sched.proofs.GroupLaws.{stands_still}
use Rattle.evl_sched.proofs.ready.stand_if_grouped.Goals as goal

pub returns-else-names_group : goal.returns-else-names_group
returns-else-names_group g c =
    let none : names_group c.args.seats.now.items c.args.thread ≡ false =
    ap (λ (seats : List (Option Seat)). names_group seats c.args.thread) (sym c.deref.ensures.value) ∙ (sym c.names_group.ensures.names ∙ c.if-names_group.false) in
    record {
      ready = refl;
      ranks = stands_still c.args.order.now.places
          (wanted_rank (record { sched = record { seats = c.args.seats.now.items; ready = c.args.order.now.ready; groups = c.args.groups.now.items }; given = c.args.given.now.items }))
          c.args.thread (c.requires.stands none);
      many = refl;
      member = λ some. absurd (false≢true (sym none ∙ some));
      others = λ t ne. refl;
      limit = refl;
    }
