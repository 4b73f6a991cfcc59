use Rattle.std.proofs.Common.{◌≡◌, ◌+◌, ◌-◌, ◌<◌, length, take, vec_capacity, vec_len, ap, ◌∙◌, arith}
use Rattle.evl_clock.specs.Agenda.{with_date}
use Rattle.evl_clock.specs.Dues.{next_due}
use Rattle.evl_clock.proofs.KeptLaws.{kept-put, others-few, others-fired, others-ordered}
use Rattle.evl_clock.proofs.TimerLaws.{put_fired}
use Rattle.evl_clock.proofs.clock.ClockOf.fire.Goals as goal

pub enter-requires : goal.enter-requires
enter-requires g c =
    let xs = c.self.inside.agenda.items in let room = vec_capacity c.self.inside.agenda in let n = c.args.id.0 in let taken = c.in_ok-timer.ensures.some in let ys = c.pop.new.self.items in
    let whole : vec_len c.self.inside.agenda ≡ length xs = omega (arith, c.self.inside.agenda.ok.0) in
    let others = others-fired _ xs room n ys c.self.invariant (ap next_due c.self.view_is ∙ c.requires.next) (c.pop.ensures.rest ∙ ap (λ m. take (m - 1) xs) whole) in
    let inside : n < 64 + length c.self.inside.deadlines.items = omega (arith, taken.1, c.self.invariant.sound.timers) in
    record { ordered = others-ordered _ xs room n ys c.self.invariant others; room = omega (arith, others-few _ xs room n ys c.self.invariant inside others, c.pop.ensures.capacity) }

pub returns-clause-some : goal.returns-clause-some
returns-clause-some g c =
    let taken = c.in_ok-timer.ensures.some in
    rw (← c.self.view_is) (record {
      at = c.in_ok-timer.timer;
      stands = taken.0;
      has_fired = c.fire-fired.ensures.fired;
      after = put_fired _ c.take_timer.new.timers.items c.args.id.0 c.in_ok-timer.timer _ c.fire-fired.ensures.after taken.2;
    })

pub invariant_of-self-2 : goal.invariant_of-self-2
invariant_of-self-2 g c =
    let xs = c.self.inside.agenda.items in let room = vec_capacity c.self.inside.agenda in let n = c.args.id.0 in let taken = c.in_ok-timer.ensures.some in let ys = c.pop.new.self.items in
    let whole : vec_len c.self.inside.agenda ≡ length xs = omega (arith, c.self.inside.agenda.ok.0) in
    let others = others-fired _ xs room n ys c.self.invariant (ap next_due c.self.view_is ∙ c.requires.next) (c.pop.ensures.rest ∙ ap (λ m. take (m - 1) xs) whole) in
    kept-put _ xs ys c.enter.new.agenda.items room (vec_capacity c.enter.new.agenda) n c.fire-fired.new.self c.take_timer.new.timers.items c.self.invariant taken.1 others
    (c.enter.ensures.entered ∙ ap (λ o. with_date n o ys) c.date.ensures.date) (c.enter.ensures.room ∙ c.pop.ensures.capacity) taken.2
