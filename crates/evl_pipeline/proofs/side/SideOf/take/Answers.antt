use Rattle.std.proofs.Common.{◌≡◌, Some, None, refl, sym, ◌∙◌, arith}
use Rattle.std.proofs.lemmas.List.{length-set}
use Rattle.evl_pipeline.specs.Sides.{port_at}
use Rattle.evl_pipeline.proofs.PortLaws.{leads, within, filled-removed, keys-differ, linked-changed, none_there, taken}
use Rattle.evl_pipeline.proofs.side.SideOf.take.Goals as goal

pub remove-requires-2 : goal.remove-requires-2
remove-requires-2 g c =
    let s = c.self.inside in
    leads s.ports.items s.callbacks c.self.invariant.linked c.args.line c.in_ok-port.port (sym c.port_of.ensures.port ∙ c.in_ok-port.was)

pub invariant_of-self : goal.invariant_of-self
invariant_of-self g c =
    let s = c.self.inside in let is = c.self.invariant in let line = c.args.line in let port = c.in_ok-port.port in let new = c.remove-2.ensures in
    let there : port_at s.ports.items line ≡ Some port = sym c.port_of.ensures.port ∙ c.in_ok-port.was in
    rw c.set.ensures.written (record {
      lines = length-set s.ports.items line None ∙ is.lines;
      counts = is.counts;
      linked = linked-changed s.ports.items s.callbacks c.remove-2.new.self is.linked line port.key None (keys-differ s.ports.items s.callbacks is.linked line port there)
          new.updates None (within s.ports.items line port there) (λ q e. absurd (none_there None q refl e));
      filled = omega (arith, new.len, is.filled, filled-removed s.ports.items line port there);
      room = omega (arith, new.capacity, is.room);
    })

pub returns-clause-some : goal.returns-clause-some
returns-clause-some g c =
    let s = c.self.inside in let is = c.self.invariant in let line = c.args.line in let port = c.in_ok-port.port in let new = c.remove-2.ensures in
    let there : port_at s.ports.items line ≡ Some port = sym c.port_of.ensures.port ∙ c.in_ok-port.was in
    rw (← c.self.view_is, c.remove.ensures.removed, c.set.ensures.written) (taken s.ports.items s.callbacks is.linked line port _ there new.value c.remove-2.new.self new.updates s.stalled s.log s.unhandled.items)
