use Rattle.std.proofs.Common.{refl}
use Rattle.evl_base.specs.declared.call.Call.TheVariants.{Read}
use Rattle.evl_kernel.specs.state.RecordsInside.{records_view}
use Rattle.evl_kernel.specs.state.Records.{state_of}
use Rattle.evl_kernel.specs.calls.CrossBuffers as through
use Rattle.evl_kernel.specs.calls.Elements.{on_xbuf}
use Rattle.evl_kernel.proofs.calls.MutexEffects.{passed_general}
use Rattle.evl_kernel.proofs.calls.QueueLaws.{asks_read}
use Rattle.evl_kernel.proofs.calls.QuickLaws.{quick_read, read_sound}
use Rattle.evl_kernel.proofs.records.Records.read_quickly.Goals as goal

pub invariant_of-self : goal.invariant_of-self
invariant_of-self g c =
    read_sound (records_view c.self.inside) c.self.invariant (on_xbuf c.args.xbuf.0 (through.read c.stage-stage.result c.args.way c.args.len)) (asks_read c.args.xbuf.0 c.stage-stage.result c.args.way c.args.len) c.read_unserved.new.self c.read_unserved.new.spares c.args.spares.now c.read_unserved.result
    c.read_unserved.ensures.step c.read_unserved.ensures.owners c.read_unserved.ensures.kept

pub returns-clause-done : goal.returns-clause-done
returns-clause-done g c =
    let there = rw (← c.self.view_is) at (c.is_free.ensures.there c.if-not-is_free.false) in
    let idle = rw (← c.self.view_is) at (c.is_free.ensures.idle c.if-not-is_free.false) in
    let calm = rw (← c.self.view_is) at (c.is_free.ensures.calm c.if-not-is_free.false) in
    rw (← c.self.view_is) (quick_read g.C.Handler.declared g.C.Handler.plan (records_view c.self.inside) c.self.invariant c.args.caller.0 (on_xbuf c.args.xbuf.0 (through.read c.stage-stage.result c.args.way c.args.len)) (asks_read c.args.xbuf.0 c.stage-stage.result c.args.way c.args.len) c.read_unserved.new.self c.read_unserved.result
    c.read_unserved.ensures.step c.read_unserved.ensures.nobody
    (Read c.args.xbuf c.args.way c.args.len) (rw (c.stage-stage.ensures.stage) refl) (passed_general (state_of (records_view c.self.inside)) c.args.caller.0 (Read c.args.xbuf c.args.way c.args.len) refl there idle) calm)
