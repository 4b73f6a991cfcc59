use Rattle.std.proofs.Common.{◌≡◌, ◌+◌, ℕ, min, Option, None, length, replicate, refl, ap, ◌∙◌, arith}
use Rattle.evl_clock.specs.Clocks.{opening}
use Rattle.evl_clock.specs.Limits.{thread_count, timer_count}
use Rattle.evl_clock.proofs.KeptLaws.{kept-new}
use Rattle.evl_clock.proofs.clock.ClockOf.reset.Goals as goal

pub clear_timers-requires : goal.clear_timers-requires
clear_timers-requires g c = record { all = c.self.invariant.sound.timers }

pub invariant_of-self : goal.invariant_of-self
invariant_of-self g c =
    let n = length c.self.inside.deadlines.items in
    let few : n ≡ min n thread_count = omega (arith, c.self.invariant.sound.deadlines) in
    let none = c.set_all.ensures.all ∙ ap (λ k. replicate {A = Option ℕ} k None) few in
    let kept = kept-new c.clear_timers.new.timers.items c.set_all.new.items.items c.clear.new.self.items n (timer_count + min n thread_count) c.clear_timers.ensures.empty none c.clear.ensures.items refl in
    record { sound = kept.sound; agenda = kept.agenda; room = omega (arith, c.clear.ensures.capacity, c.self.invariant.room, ap length none) }

pub returns : goal.returns
unfolding opening
returns g c =
    let n = length c.self.inside.deadlines.items in
    let few : n ≡ min n thread_count = omega (arith, c.self.invariant.sound.deadlines) in
    let none = c.set_all.ensures.all ∙ ap (λ k. replicate {A = Option ℕ} k None) few in
    record { opening = rw (← c.self.view_is, c.clear_timers.ensures.empty, none) refl }
