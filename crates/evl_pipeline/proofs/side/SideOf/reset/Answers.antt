use Rattle.std.proofs.Common.{refl, ap, ◌∙◌, is_some, count_by, arith}
use Rattle.evl_pipeline.proofs.PortLaws.{linked-nothing, filled-nothing}
use Rattle.evl_pipeline.proofs.side.SideOf.reset.Goals as goal

pub invariant_of-self : goal.invariant_of-self
invariant_of-self g c = rw (c.clear-2.ensures.empty, c.clear-4.ensures.empty) (record {
  lines = refl;
  counts = refl;
  linked = linked-nothing c.clear-3.new.self;
  filled = ap (count_by is_some) c.clear-3.ensures.empty ∙ filled-nothing;
  room = omega (arith, c.clear-3.ensures.capacity, c.self.invariant.room);
})

pub returns : goal.returns
returns g c = record { empty = rw (c.clear.ensures.empty, c.clear-2.ensures.empty, c.clear-4.ensures.empty) refl }
