use Rattle.std.proofs.Common.{◌≡◌, ◌<◌, length, map, slice_set, Some, None, option_map, sym, ap, ◌∙◌, arith}
use Rattle.std.proofs.lemmas.List.{length-set}
use Rattle.slab.specs.Slab.{get}
use Rattle.evl_pipeline.specs.declared.port.Port.{Port}
use Rattle.evl_pipeline.specs.Sides.{installed_by, port_at}
use Rattle.evl_pipeline.proofs.PortLaws.{free-none, has_room, filled-added, key-vacant, linked-changed, seen-changed, shows}
use Rattle.evl_pipeline.proofs.side.SideOf.install.Goals as goal

pub insert_reserved-key-requires : goal.insert_reserved-key-requires
insert_reserved-key-requires g c =
    let s = c.self.inside in let is = c.self.invariant in
    let free : port_at s.ports.items c.args.line ≡ None = free-none s.ports.items s.callbacks is.linked c.args.line (rw (← c.self.view_is) at c.requires.free) in
    omega (arith, has_room s.ports.items c.args.line (record { key = 0; tag = 0; count = 0 }) free (omega (arith, c.requires.range, is.lines)), is.filled, is.room, is.lines)

pub invariant_of-self : goal.invariant_of-self
invariant_of-self g c =
    let s = c.self.inside in let is = c.self.invariant in let line = c.args.line in let new = c.insert_reserved-key.ensures in
    let key = c.insert_reserved-key.result in let after = c.insert_reserved-key.new.self in
    let port : Port = record { key = key; tag = c.args.tag; count = 0 } in
    let free : port_at s.ports.items line ≡ None = free-none s.ports.items s.callbacks is.linked line (rw (← c.self.view_is) at c.requires.free) in
    let inside : line < length s.ports.items = omega (arith, c.requires.range, is.lines) in
    rw c.set.ensures.written (record {
      lines = length-set s.ports.items line (Some port) ∙ is.lines;
      counts = is.counts;
      linked = linked-changed s.ports.items s.callbacks after is.linked line key _ (λ other q at _. key-vacant s.ports.items s.callbacks is.linked key new.was_vacant other q at)
          new.updates (Some port) inside (λ q e.
          let same : port ≡ q = cc in ap (λ p. option_map (λ held. held.line) (get after p.key)) (sym same) ∙ ap (option_map (λ held. held.line)) new.updates.changed);
      filled = omega (arith, new.len, is.filled, filled-added s.ports.items line port free inside);
      room = omega (arith, new.capacity, is.room);
    })

pub returns : goal.returns
returns g c =
    let s = c.self.inside in let is = c.self.invariant in let line = c.args.line in let new = c.insert_reserved-key.ensures in
    let key = c.insert_reserved-key.result in let after = c.insert_reserved-key.new.self in
    let port : Port = record { key = key; tag = c.args.tag; count = 0 } in
    record {
      state = rw (← c.self.view_is, c.set.ensures.written) (ap (λ installed. record { stalled = s.stalled; pending = s.log; installed = installed; unhandled = s.unhandled.items })
          (seen-changed s.ports.items s.callbacks after is.linked line key _ (λ other q at _. key-vacant s.ports.items s.callbacks is.linked key new.was_vacant other q at) new.updates (Some port)
          ∙ ap (slice_set (map (installed_by s.callbacks) s.ports.items) line) (shows after port _ new.updates.changed)));
    }
