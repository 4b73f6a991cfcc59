use Rattle.std.proofs.Common.{sym, ◌∙◌}
use Rattle.evl_machine.proofs.calls.WaitingLaws.{begun_waits}
use Rattle.evl_machine.proofs.machine.MachineOf.wait_for.Goals as goal

pub wait_out-requires-clause-waits : goal.wait_out-requires-clause-waits
wait_out-requires-clause-waits g c = begun_waits c.args.self.now.first.limit c.args.caller.now c.args.begin c.call-answer.result c.call-answer.new.caller c.requires.begins (sym c.begins_wait.ensures ∙ c.if-begins_wait.true) c.call-answer.ensures.called
