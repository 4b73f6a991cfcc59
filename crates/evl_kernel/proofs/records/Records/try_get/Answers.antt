use Rattle.std.proofs.Common.{[]}
use Rattle.evl_base.specs.declared.reply.Reply.TheVariants.{Done}
use Rattle.evl_kernel.specs.state.RecordsInside.{records_view}
use Rattle.evl_kernel.specs.calls.Elements.{on_sem}
use Rattle.evl_kernel.specs.calls.Semaphores as semaphore
use Rattle.evl_kernel.proofs.calls.QueueLaws.{get_wakes, asks_get}
use Rattle.evl_kernel.proofs.waiting.WaitRecords.{asked_done, asked_sound, refused_as}
use Rattle.evl_kernel.proofs.records.Records.try_get.Goals as goal

pub returns-in-Err-clause-served : goal.returns-in-Err-clause-served
returns-in-Err-clause-served g c = rw (← c.self.view_is) (refused_as (records_view c.self.inside) (on_sem c.args.sem.0 semaphore.get) c.in-Err.refusal c.try_get.new.self c.in-Err.ensures.refused)

pub invariant_of-self-2 : goal.invariant_of-self-2
invariant_of-self-2 g c = asked_sound (records_view c.self.inside) c.self.invariant (on_sem c.args.sem.0 semaphore.get) (asks_get c.args.sem.0) Done c.try_get.new.self c.in-Ok.ensures.step c.try_get.ensures.owners

pub returns-clause-served : goal.returns-clause-served
returns-clause-served g c = rw (← c.self.view_is) (asked_done (records_view c.self.inside) c.self.invariant (on_sem c.args.sem.0 semaphore.get) (asks_get c.args.sem.0) Done c.try_get.new.self c.in-Ok.ensures.step [] (get_wakes c.self.inside.elements.elements c.args.sem.0))
