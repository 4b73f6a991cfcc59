use Rattle.evl_machine.proofs.calls.WaitingLaws.{looked_more, still_waits, waits_out}
use Rattle.evl_machine.proofs.machine.MachineOf.wait_out.Goals as goal

pub end_wait-requires-clause-waits : goal.end_wait-requires-clause-waits
end_wait-requires-clause-waits g c = still_waits _ _ c.requires.waits c.loop.invariant

pub returns-in-Some-end_wait-clause-waited : goal.returns-in-Some-end_wait-clause-waited
returns-in-Some-end_wait-clause-waited g c = waits_out _ _ c.loop.caller _ _ c.requires.waits c.loop.invariant c.in-Some-end_wait.ensures.looked c.in-Some-end_wait.ensures.told.0

pub loop-preserved : goal.loop-preserved
loop-preserved g c = looked_more _ _ _ c.loop.invariant c.in_default.ensures.looked
