use Rattle.std.proofs.Common.{refl}
use Rattle.evl_base.specs.declared.call.Call.TheVariants.{Put}
use Rattle.evl_base.specs.declared.reply.Reply.TheVariants.{Done}
use Rattle.evl_kernel.specs.state.RecordsInside.{records_view}
use Rattle.evl_kernel.specs.state.Records.{state_of}
use Rattle.evl_kernel.specs.calls.Elements.{on_sem}
use Rattle.evl_kernel.specs.calls.Semaphores as semaphore
use Rattle.evl_kernel.proofs.calls.MutexEffects.{passed_general}
use Rattle.evl_kernel.proofs.calls.QueueLaws.{asks_put}
use Rattle.evl_kernel.proofs.calls.QuickLaws.{quick_step}
use Rattle.evl_kernel.proofs.waiting.WaitRecords.{asked_sound}
use Rattle.evl_kernel.proofs.records.Records.put_quickly.Goals as goal

pub invariant_of-self-2 : goal.invariant_of-self-2
invariant_of-self-2 g c =
    asked_sound (records_view c.self.inside) c.self.invariant (on_sem c.args.sem.0 semaphore.put) (asks_put c.args.sem.0) Done c.raise_count.new.self (c.raise_count.ensures.step c.if-not-raise_count.false) c.raise_count.ensures.owners

pub returns-clause-done : goal.returns-clause-done
returns-clause-done g c =
    let there = rw (← c.self.view_is) at (c.is_free.ensures.there c.if-not-is_free.false) in
    let idle = rw (← c.self.view_is) at (c.is_free.ensures.idle c.if-not-is_free.false) in
    let calm = rw (← c.self.view_is) at (c.is_free.ensures.calm c.if-not-is_free.false) in
    rw (← c.self.view_is) (λ _. quick_step g.C.Handler.declared g.C.Handler.plan (records_view c.self.inside) c.self.invariant c.args.caller.0 (on_sem c.args.sem.0 semaphore.put) (asks_put c.args.sem.0) Done c.raise_count.new.self (c.raise_count.ensures.step c.if-not-raise_count.false) (c.raise_count.ensures.nobody c.if-not-raise_count.false)
    (Put c.args.sem) refl (passed_general (state_of (records_view c.self.inside)) c.args.caller.0 (Put c.args.sem) refl there idle) calm)
