use Rattle.std.proofs.Common.{vec_capacity, is_none, position, refl, sym, ap, ◌∙◌}
use Rattle.evl_clock.specs.Timers.{made}
use Rattle.evl_clock.proofs.KeptLaws.{kept-idle}
use Rattle.evl_clock.proofs.clock.ClockOf.new_timer.Goals as goal

pub invariant_of-self : goal.invariant_of-self
invariant_of-self g c =
    rw c.new.ensures.made (kept-idle _ c.self.inside.agenda.items (vec_capacity c.self.inside.agenda) c.in-Some.n (made c.args.callback c.args.tag) c.self.invariant
    (sym (c.in-Some.ensures.place ∙ ap (position is_none) c.deref.ensures.value)) refl)
