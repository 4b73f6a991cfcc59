use Rattle.std.proofs.Common.{refl, ap, ◌∙◌, is_some, count_by}
use Rattle.evl_pipeline.proofs.PortLaws.{linked-nothing, filled-nothing}
use Rattle.evl_pipeline.proofs.side.SideOf.new.Goals as goal

pub invariant_of-result : goal.invariant_of-result
invariant_of-result g c = rw (c.in_ok-ports.ensures.empty, c.in_ok-unhandled.ensures.empty) (record {
  lines = refl;
  counts = refl;
  linked = linked-nothing c.in_ok-callbacks.callbacks;
  filled = ap (count_by is_some) c.in_ok-callbacks.ensures.empty ∙ filled-nothing;
  room = c.in_ok-callbacks.ensures.capacity;
})

pub returns : goal.returns
returns g c = record { empty = rw (c.in_ok-log.ensures.empty, c.in_ok-ports.ensures.empty, c.in_ok-unhandled.ensures.empty) refl }
