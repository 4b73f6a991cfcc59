use Rattle.std.proofs.Common.{◌≡◌, length, Some, refl, sym, ap, ◌∙◌}
use Rattle.std.proofs.lemmas.List.{length-set}
use Rattle.evl_pipeline.specs.Plans.{answer_of}
use Rattle.evl_pipeline.specs.Sides.{port_at}
use Rattle.evl_pipeline.proofs.PortLaws.{leads, linked-set, filled-set, length-counted, plays-on}
use Rattle.evl_pipeline.proofs.side.SideOf.play.Goals as goal

pub index-requires : goal.index-requires
index-requires g c =
    let s = c.self.inside in
    leads s.ports.items s.callbacks c.self.invariant.linked c.args.line c.in_ok-port.port (sym c.port_of.ensures.port ∙ c.in_ok-port.was)

pub invariant_of-self-2 : goal.invariant_of-self-2
invariant_of-self-2 g c =
    let s = c.self.inside in let is = c.self.invariant in let line = c.args.line in let port = c.in_ok-port.port in
    let there : port_at s.ports.items line ≡ Some port = sym c.port_of.ensures.port ∙ c.in_ok-port.was in
    rw c.set.ensures.written (record {
      lines = length-set s.ports.items line _ ∙ is.lines;
      counts = ap length c.count_unless.ensures.counted ∙ length-counted c.fire-answer.result.handled s.unhandled.items line ∙ is.counts;
      linked = linked-set s.ports.items s.callbacks is.linked line port _ there refl;
      filled = is.filled ∙ sym (filled-set s.ports.items line port _ there);
      room = is.room;
    })

pub returns-clause-some : goal.returns-clause-some
returns-clause-some g c =
    let s = c.self.inside in let is = c.self.invariant in let line = c.args.line in let port = c.in_ok-port.port in
    let there : port_at s.ports.items line ≡ Some port = sym c.port_of.ensures.port ∙ c.in_ok-port.was in
    rw (← c.self.view_is, c.remove.ensures.removed, c.set.ensures.written, c.saturating_add.ensures) (plays-on s.ports.items s.callbacks is.linked line port c.index.result.now there c.index.ensures
    g.C.Handler.declared g.C.Handler.plan g.C.Handler.gives s.stalled s.log s.unhandled.items c.count_unless.new.counts.items c.args.stage c.args.now c.fire-answer.result
    (c.fire-answer.ensures.answer ∙ ap (answer_of (g.C.Handler.plan c.index.result.now.callback)) c.saturating_add.ensures) c.fire-answer.ensures.sound c.count_unless.ensures.counted (rw c.saturating_add.ensures at c.fire-answer.ensures.called))
