use Rattle.std.proofs.Common.{refl}
use Rattle.evl_base.specs.declared.call.Call.TheVariants.{TryGet}
use Rattle.evl_base.specs.declared.reply.Reply.TheVariants.{Done}
use Rattle.evl_kernel.specs.state.RecordsInside.{records_view}
use Rattle.evl_kernel.specs.state.Records.{state_of}
use Rattle.evl_kernel.specs.calls.Elements.{on_sem}
use Rattle.evl_kernel.specs.calls.Semaphores as semaphore
use Rattle.evl_kernel.proofs.calls.MutexEffects.{passed_general}
use Rattle.evl_kernel.proofs.calls.QueueLaws.{asks_get, get_wakes}
use Rattle.evl_kernel.proofs.calls.QuickLaws.{quick_step}
use Rattle.evl_kernel.proofs.waiting.WaitRecords.{asked_sound}
use Rattle.evl_kernel.proofs.records.Records.get_quickly.Goals as goal

pub invariant_of-self-2 : goal.invariant_of-self-2
invariant_of-self-2 g c =
    asked_sound (records_view c.self.inside) c.self.invariant (on_sem c.args.sem.0 semaphore.get) (asks_get c.args.sem.0) Done c.try_get.new.self c.in-Ok.ensures.step c.try_get.ensures.owners

pub returns-clause-done : goal.returns-clause-done
returns-clause-done g c =
    let there = rw (← c.self.view_is) at (c.is_free.ensures.there c.if-not-is_free.false) in
    let idle = rw (← c.self.view_is) at (c.is_free.ensures.idle c.if-not-is_free.false) in
    let calm = rw (← c.self.view_is) at (c.is_free.ensures.calm c.if-not-is_free.false) in
    rw (← c.self.view_is) (λ _. quick_step g.C.Handler.declared g.C.Handler.plan (records_view c.self.inside) c.self.invariant c.args.caller.0 (on_sem c.args.sem.0 semaphore.get) (asks_get c.args.sem.0) Done c.try_get.new.self c.in-Ok.ensures.step (get_wakes c.self.inside.elements.elements c.args.sem.0)
    (TryGet c.args.sem) refl (passed_general (state_of (records_view c.self.inside)) c.args.caller.0 (TryGet c.args.sem) refl there idle) calm)
