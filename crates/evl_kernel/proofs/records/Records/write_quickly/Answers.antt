use Rattle.std.proofs.Common.{refl}
use Rattle.evl_base.specs.declared.call.Call.TheVariants.{Write}
use Rattle.evl_base.specs.declared.reply.Reply.TheVariants.{Done}
use Rattle.evl_kernel.specs.state.RecordsInside.{records_view}
use Rattle.evl_kernel.specs.state.Records.{state_of}
use Rattle.evl_kernel.specs.calls.CrossBuffers as through
use Rattle.evl_kernel.specs.calls.Elements.{on_xbuf}
use Rattle.evl_kernel.proofs.calls.MutexEffects.{passed_general}
use Rattle.evl_kernel.proofs.calls.QueueLaws.{asks_write}
use Rattle.evl_kernel.proofs.calls.QuickLaws.{quick_step}
use Rattle.evl_kernel.proofs.waiting.WaitRecords.{asked_sound}
use Rattle.evl_kernel.proofs.records.Records.write_quickly.Goals as goal

pub invariant_of-self-2 : goal.invariant_of-self-2
invariant_of-self-2 g c =
    asked_sound (records_view c.self.inside) c.self.invariant (on_xbuf c.args.xbuf.0 (through.write c.stage-stage.result c.args.way c.as_slice.result.now)) (asks_write c.args.xbuf.0 c.stage-stage.result c.args.way c.as_slice.result.now) Done c.write_unserved.new.self
    (c.write_unserved.ensures.step c.if-not-write_unserved.false) c.write_unserved.ensures.owners

pub returns-clause-done : goal.returns-clause-done
returns-clause-done g c =
    let there = rw (← c.self.view_is) at (c.is_free.ensures.there c.if-not-is_free.false) in
    let idle = rw (← c.self.view_is) at (c.is_free.ensures.idle c.if-not-is_free.false) in
    let calm = rw (← c.self.view_is) at (c.is_free.ensures.calm c.if-not-is_free.false) in
    rw (← c.self.view_is) (λ _. quick_step g.C.Handler.declared g.C.Handler.plan (records_view c.self.inside) c.self.invariant c.args.caller.0 (on_xbuf c.args.xbuf.0 (through.write c.stage-stage.result c.args.way c.as_slice.result.now)) (asks_write c.args.xbuf.0 c.stage-stage.result c.args.way c.as_slice.result.now) Done c.write_unserved.new.self
    (c.write_unserved.ensures.step c.if-not-write_unserved.false) (c.write_unserved.ensures.nobody c.if-not-write_unserved.false)
    (Write c.args.xbuf c.args.way c.args.bytes.now) (rw (c.stage-stage.ensures.stage, c.as_slice.ensures.items) refl) (passed_general (state_of (records_view c.self.inside)) c.args.caller.0 (Write c.args.xbuf c.args.way c.args.bytes.now) refl there idle) calm)
