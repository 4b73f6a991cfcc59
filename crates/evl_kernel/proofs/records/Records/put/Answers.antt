use Rattle.evl_base.specs.declared.reply.Reply.TheVariants.{Done}
use Rattle.evl_kernel.specs.state.RecordsInside.{records_view}
use Rattle.evl_kernel.specs.calls.Elements.{on_sem}
use Rattle.evl_kernel.specs.calls.Semaphores as semaphore
use Rattle.evl_kernel.proofs.calls.ElementSteps.{element_enters}
use Rattle.evl_kernel.proofs.calls.QueueLaws.{asks_put}
use Rattle.evl_kernel.proofs.waiting.WaitRecords.{alone_served, asked_away, asked_done, asked_sound, refused_as}
use Rattle.evl_kernel.proofs.records.Records.put.Goals as goal

pub returns-in-Err-clause-served : goal.returns-in-Err-clause-served
returns-in-Err-clause-served g c = rw (← c.self.view_is) (refused_as (records_view c.self.inside) (on_sem c.args.sem.0 semaphore.put) c.in-Err.refusal c.put.new.self c.in-Err.ensures.refused)

pub invariant_of-self-in-Ok-None : goal.invariant_of-self-in-Ok-None
invariant_of-self-in-Ok-None g c = asked_sound (records_view c.self.inside) c.self.invariant (on_sem c.args.sem.0 semaphore.put) (asks_put c.args.sem.0) Done c.put.new.self c.in-Ok-None.ensures.step c.put.ensures.owners

pub returns-in-Ok-None-clause-served : goal.returns-in-Ok-None-clause-served
returns-in-Ok-None-clause-served g c =
    rw (← c.self.view_is) (asked_done (records_view c.self.inside) c.self.invariant (on_sem c.args.sem.0 semaphore.put) (asks_put c.args.sem.0) Done c.put.new.self c.in-Ok-None.ensures.step _ (rw c.in-Ok-None.field-0-is at c.in-Ok-None.ensures.served))

pub invariant_of-self-in-Ok-Some : goal.invariant_of-self-in-Ok-Some
invariant_of-self-in-Ok-Some g c = asked_sound (records_view c.self.inside) c.self.invariant (on_sem c.args.sem.0 semaphore.put) (asks_put c.args.sem.0) Done c.put.new.self c.in-Ok-Some.ensures.step c.put.ensures.owners

pub wake-requires : goal.wake-requires
wake-requires g c = record {
  fits = tt;
  away = λ on. asked_away (records_view c.self.inside) c.self.invariant (on_sem c.args.sem.0 semaphore.put) (asks_put c.args.sem.0) Done c.put.new.self c.in-Ok-Some.ensures.step c.in-Ok-Some.thread.0
      (alone_served c.in-Ok-Some.thread.0 Done _ (rw c.in-Ok-Some.field-0-is at c.in-Ok-Some.ensures.served)) on;
}

pub returns-in-Ok-Some-clause-served : goal.returns-in-Ok-Some-clause-served
returns-in-Ok-Some-clause-served g c =
    rw (c.wake.ensures.woken, ← c.self.view_is)
    (asked_done (records_view c.self.inside) c.self.invariant (on_sem c.args.sem.0 semaphore.put) (asks_put c.args.sem.0) Done c.put.new.self c.in-Ok-Some.ensures.step _ (rw c.in-Ok-Some.field-0-is at c.in-Ok-Some.ensures.served))

pub returns-in-Err-clause-answer : goal.returns-in-Err-clause-answer
returns-in-Err-clause-answer g c = element_enters c.self.inside.elements.elements (on_sem c.args.sem.0 semaphore.put) c.in-Err.refusal c.in-Err.ensures.refused.0
