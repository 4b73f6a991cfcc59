use Rattle.std.proofs.Common.{◌≡◌, ◌≢◌, ◌==◌, ℕ, List, if◌then◌else◌, refl, sym, ap, ◌∙◌, arith}
use Rattle.std.proofs.lemmas.Bool.{false≢true}
use Rattle.evl_sched.specs.Places.{rank_in}
use Rattle.evl_sched.specs.Ranks.{Ranked}
use Rattle.evl_sched.specs.Wanted.{wanted_rank}
use Rattle.evl_sched.proofs.MemberLaws.{others_stand, passed_all, passed_more}
use Rattle.evl_sched.proofs.ready.stand_members.Goals as goal

pub loop-thread-init : goal.loop-thread-init
loop-thread-init g c = record {
  ready = refl;
  many = refl;
  others = c.requires.others;
  passed = λ t names_one gone. absurd (false≢true (sym gone ∙ c.requires.listed.named t names_one));
  limit = refl;
  same = refl;
}

pub loop-thread-preserved : goal.loop-thread-preserved
loop-thread-preserved g c =
    let is = c.loop-thread.invariant in let n = c.in-Some.thread in let stood = c.stand_if_grouped.ensures in
    let by : List ℕ → Ranked = λ ready. record { sched = record { seats = c.args.seats.now.items; ready = ready; groups = c.args.groups.now.items }; given = c.args.given.now.items } in
    let ranks : (t : ℕ) → rank_in c.stand_if_grouped.new.order.places t ≡ (if t == n then wanted_rank (by c.args.order.now.ready) n else rank_in c.loop-thread.order.places t) =
    λ t. stood.ranks t ∙ ap (λ (ready : List ℕ). if t == n then wanted_rank (by ready) n else rank_in c.loop-thread.order.places t) is.ready in
    record {
      ready = stood.ready ∙ is.ready;
      many = stood.many ∙ is.many;
      others = others_stand c.args.seats.now.items (wanted_rank (by c.args.order.now.ready)) _ _ _ _ n _ _ c.in-Some.ensures.others ranks stood.member stood.others is.others;
      passed = passed_more c.args.seats.now.items (wanted_rank (by c.args.order.now.ready)) _ _ _ _ n _ _ c.in-Some.ensures.others ranks stood.member stood.others is.passed;
      limit = c.take_least.ensures.limit ∙ is.limit;
      same = stood.limit ∙ is.same;
    }
