use Rattle.std.proofs.Common.{◌≡◌, ◌++◌, ◌∷◌, [], None, ap, ◌∙◌, arith}
use Rattle.std.proofs.lemmas.List.{replicate-append-replicate}
use Rattle.evl_clock.specs.Limits.{timer_count}
use Rattle.evl_clock.proofs.clock.no_timers.Goals as goal

pub loop-init : goal.loop-init
loop-init g c = record { room = c.in_ok-timers.ensures.exact; empty = c.in_ok-timers.ensures.items }

pub loop-preserved : goal.loop-preserved
loop-preserved g c = record {
  room = c.push_reserved.ensures.capacity ∙ c.loop.invariant.room;
  empty =
      c.push_reserved.ensures.items ∙ ap (λ timers. timers ++ (None ∷ [])) c.loop.invariant.empty
      ∙ replicate-append-replicate c.loop.counter 1 None;
}

pub returns : goal.returns
returns g c =
    let all : c.loop.counter ≡ timer_count = omega (arith, c.loop-test.false, c.loop.auto.counter-end) in
    record { empty = rw all at c.loop.invariant.empty }
