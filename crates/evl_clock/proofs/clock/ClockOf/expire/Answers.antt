use Rattle.std.proofs.Common.{◌≡◌, ◌-◌, None, length, take, vec_capacity, vec_len, refl, ap, ◌∙◌, arith}
use Rattle.evl_clock.specs.Dues.{next_due}
use Rattle.evl_clock.proofs.KeptLaws.{deadline-inside, kept-until, others-expired}
use Rattle.evl_clock.proofs.clock.ClockOf.expire.Goals as goal

pub index_mut-requires : goal.index_mut-requires
index_mut-requires g c = omega (arith, deadline-inside _ c.args.thread.0 (ap next_due c.self.view_is ∙ c.requires.next), c.self.inside.deadlines.ok.0)

pub invariant_of-self : goal.invariant_of-self
invariant_of-self g c =
    let xs = c.self.inside.agenda.items in let room = vec_capacity c.self.inside.agenda in let n = c.args.thread.0 in let ys = c.pop.new.self.items in
    let next = ap next_due c.self.view_is ∙ c.requires.next in
    let whole : vec_len c.self.inside.agenda ≡ length xs = omega (arith, c.self.inside.agenda.ok.0) in
    kept-until _ xs ys ys room (vec_capacity c.pop.new.self) n None c.self.invariant (deadline-inside _ n next)
    (others-expired _ xs room n ys c.self.invariant next (c.pop.ensures.rest ∙ ap (λ m. take (m - 1) xs) whole)) refl c.pop.ensures.capacity
