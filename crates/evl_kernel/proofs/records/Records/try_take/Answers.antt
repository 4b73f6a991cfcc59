use Rattle.std.proofs.Common.{[]}
use Rattle.evl_base.specs.declared.reply.Reply.TheVariants.{Bits}
use Rattle.evl_kernel.specs.state.RecordsInside.{records_view}
use Rattle.evl_kernel.specs.calls.Elements.{on_flags}
use Rattle.evl_kernel.specs.calls.FlagGroups as group
use Rattle.evl_kernel.proofs.calls.ElementSteps.{element_enters}
use Rattle.evl_kernel.proofs.calls.QueueLaws.{take_wakes, asks_take}
use Rattle.evl_kernel.proofs.waiting.WaitRecords.{asked_done, asked_sound, refused_as}
use Rattle.evl_kernel.proofs.records.Records.try_take.Goals as goal

pub returns-in-Err-clause-served : goal.returns-in-Err-clause-served
returns-in-Err-clause-served g c = rw (← c.self.view_is) (refused_as (records_view c.self.inside) (on_flags c.args.flags.0 (group.take c.args.kind)) c.in-Err.refusal c.try_take.new.self c.in-Err.ensures.refused)

pub invariant_of-self-2 : goal.invariant_of-self-2
invariant_of-self-2 g c = asked_sound (records_view c.self.inside) c.self.invariant (on_flags c.args.flags.0 (group.take c.args.kind)) (asks_take c.args.flags.0 c.args.kind) (Bits c.in-Ok.bits) c.try_take.new.self c.in-Ok.ensures.step c.try_take.ensures.owners

pub returns-clause-served : goal.returns-clause-served
returns-clause-served g c = rw (← c.self.view_is) (asked_done (records_view c.self.inside) c.self.invariant (on_flags c.args.flags.0 (group.take c.args.kind)) (asks_take c.args.flags.0 c.args.kind) (Bits c.in-Ok.bits) c.try_take.new.self c.in-Ok.ensures.step [] (take_wakes c.self.inside.elements.elements c.args.flags.0 c.args.kind))

pub returns-in-Err-clause-answer : goal.returns-in-Err-clause-answer
returns-in-Err-clause-answer g c = element_enters c.self.inside.elements.elements (on_flags c.args.flags.0 (group.take c.args.kind)) c.in-Err.refusal c.in-Err.ensures.refused.0
