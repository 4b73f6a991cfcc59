use Rattle.evl_base.specs.declared.reply.Reply.TheVariants.{Done}
use Rattle.evl_kernel.specs.state.RecordsInside.{records_view}
use Rattle.evl_kernel.specs.calls.Elements.{on_flags}
use Rattle.evl_kernel.specs.calls.FlagGroups as group
use Rattle.evl_kernel.proofs.calls.ElementSteps.{element_enters}
use Rattle.evl_kernel.proofs.calls.QueueLaws.{asks_post}
use Rattle.evl_kernel.proofs.waiting.WaitRecords.{asked_away, asked_done, asked_sound, refused_as}
use Rattle.evl_kernel.proofs.records.Records.post_flags.Goals as goal

pub returns-in-Err-clause-served : goal.returns-in-Err-clause-served
returns-in-Err-clause-served g c = rw (← c.self.view_is) (refused_as (records_view c.self.inside) (on_flags c.args.flags.0 (group.post c.args.bits)) c.in-Err.refusal c.post.new.self c.in-Err.ensures.refused)

pub invariant_of-self-in-Ok : goal.invariant_of-self-in-Ok
invariant_of-self-in-Ok g c = asked_sound (records_view c.self.inside) c.self.invariant (on_flags c.args.flags.0 (group.post c.args.bits)) (asks_post c.args.flags.0 c.args.bits) Done c.post.new.self c.in-Ok.ensures.step c.post.ensures.owners

pub wake_all-requires : goal.wake_all-requires
wake_all-requires g c = record {
  away = λ thread is on. asked_away (records_view c.self.inside) c.self.invariant (on_flags c.args.flags.0 (group.post c.args.bits)) (asks_post c.args.flags.0 c.args.bits) Done c.post.new.self c.in-Ok.ensures.step thread
      (rw c.in-Ok.ensures.served (rw c.as_slice.ensures.value at is)) on;
}

pub returns-in-Ok-clause-served : goal.returns-in-Ok-clause-served
returns-in-Ok-clause-served g c =
    rw (c.wake_all.ensures.woken, c.as_slice.ensures.value, ← c.self.view_is)
    (asked_done (records_view c.self.inside) c.self.invariant (on_flags c.args.flags.0 (group.post c.args.bits)) (asks_post c.args.flags.0 c.args.bits) Done c.post.new.self c.in-Ok.ensures.step _ c.in-Ok.ensures.served)

pub returns-in-Err-clause-answer : goal.returns-in-Err-clause-answer
returns-in-Err-clause-answer g c = element_enters c.self.inside.elements.elements (on_flags c.args.flags.0 (group.post c.args.bits)) c.in-Err.refusal c.in-Err.ensures.refused.0
