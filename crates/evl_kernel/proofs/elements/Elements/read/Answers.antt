use Rattle.std.proofs.Common.{refl, ap, arith}
use Rattle.std.proofs.lemmas.Option.{slice_get_read}
use Rattle.evl_kernel.specs.calls.CrossBuffers as through
use Rattle.evl_kernel.specs.calls.CrossBuffers.{bytes_told, cross_buffer}
use Rattle.evl_kernel.specs.calls.Effects.{reply_by}
use Rattle.evl_kernel.proofs.calls.ElementSteps.{nth-same}
use Rattle.evl_kernel.proofs.elements.Elements.read.Goals as goal

pub returns-clause-refused : goal.returns-clause-refused
returns-clause-refused g c =
    let here = slice_get_read c.self.inside.xbufs.items _ c.from-place.result c.index_mut.result.now refl (omega (arith, c.if-place-len.false, c.len.ensures, c.self.inside.xbufs.ok.0)) c.index_mut.ensures.value in
    rw (← c.self.view_is, ← c.from-place.ensures) (nth-same cross_buffer (λ xs. record { elements = record { sems = c.self.inside.sems.items; flags = c.self.inside.flags.items; xbufs = xs; mutexes = c.self.inside.owners.mutexes }; base = c.self.inside.owners.base }) c.self.inside.xbufs.items c.from-place.result (through.read c.args.stage c.args.way c.args.len) c.index_mut.result.now c.try_read_telling.new.self here (λ u. (c.try_read_telling.new.got.items, c.try_read_telling.new.told)) (λ got. bytes_told got.0) c.try_read_telling.result (ap (reply_by (λ got. bytes_told got.0)) c.try_read_telling.ensures.step) c.try_read_telling.ensures.refused)
