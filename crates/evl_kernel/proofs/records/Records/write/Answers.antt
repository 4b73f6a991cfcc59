use Rattle.evl_base.specs.declared.reply.Reply.TheVariants.{Done}
use Rattle.evl_kernel.specs.state.RecordsInside.{records_view}
use Rattle.evl_kernel.specs.calls.CrossBuffers as through
use Rattle.evl_kernel.specs.calls.Elements.{on_xbuf}
use Rattle.evl_kernel.proofs.calls.ElementSteps.{element_enters}
use Rattle.evl_kernel.proofs.calls.QueueLaws.{asks_write}
use Rattle.evl_kernel.proofs.waiting.WaitRecords.{asked_away, asked_done, asked_sound, refused_as}
use Rattle.evl_kernel.proofs.records.Records.write.Goals as goal

pub invariant_of-self-in-Ok : goal.invariant_of-self-in-Ok
invariant_of-self-in-Ok g c = asked_sound (records_view c.self.inside) c.self.invariant (on_xbuf c.args.xbuf.0 (through.write c.stage-stage.result c.args.way c.args.bytes.now)) (asks_write c.args.xbuf.0 c.stage-stage.result c.args.way c.args.bytes.now) _ c.write.new.self c.in-Ok.ensures.step c.write.ensures.owners

pub wake_any-requires : goal.wake_any-requires
wake_any-requires g c = record {
  away = λ thread is on. asked_away (records_view c.self.inside) c.self.invariant (on_xbuf c.args.xbuf.0 (through.write c.stage-stage.result c.args.way c.args.bytes.now)) (asks_write c.args.xbuf.0 c.stage-stage.result c.args.way c.args.bytes.now) _ c.write.new.self c.in-Ok.ensures.step thread (rw c.in-Ok.ensures.served is) on;
}

pub returns-in-Err-clause-answer : goal.returns-in-Err-clause-answer
returns-in-Err-clause-answer g c = element_enters c.self.inside.elements.elements (on_xbuf c.args.xbuf.0 (through.write c.stage-stage.result c.args.way c.args.bytes.now)) c.in-Err.refusal c.in-Err.ensures.refused.0

pub returns-in-Err-clause-served : goal.returns-in-Err-clause-served
returns-in-Err-clause-served g c =
    rw (← c.self.view_is, ← c.stage-stage.ensures.stage) (refused_as (records_view c.self.inside) (on_xbuf c.args.xbuf.0 (through.write c.stage-stage.result c.args.way c.args.bytes.now)) c.in-Err.refusal c.write.new.self c.in-Err.ensures.refused)

pub returns-in-Ok-clause-served : goal.returns-in-Ok-clause-served
returns-in-Ok-clause-served g c =
    rw (c.wake_any.ensures.woken, ← c.self.view_is, ← c.stage-stage.ensures.stage)
    (asked_done (records_view c.self.inside) c.self.invariant (on_xbuf c.args.xbuf.0 (through.write c.stage-stage.result c.args.way c.args.bytes.now)) (asks_write c.args.xbuf.0 c.stage-stage.result c.args.way c.args.bytes.now) Done c.write.new.self c.in-Ok.ensures.step _ c.in-Ok.ensures.served)
