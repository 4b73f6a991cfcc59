use Rattle.std.proofs.Common.{◌∙◌, sym}
use Rattle.lab_scenario_orders.proofs.CallLaws.{entered_bank, entered_reply, entered_state}
use Rattle.lab_step_orders.proofs.kernels.apply.Goals as goal

pub returns-then-has_entry-clause-reply : goal.returns-then-has_entry-clause-reply
returns-then-has_entry-clause-reply g c =
    let call = c.apply-answer in
    entered_reply c.args.kernel.now.history call.new.self.history c.args.who.0 c.args.call call.result (call.ensures.entry (sym c.has_entry.ensures ∙ c.if-has_entry.true))

pub returns-then-has_entry-clause-state : goal.returns-then-has_entry-clause-state
returns-then-has_entry-clause-state g c =
    let call = c.apply-answer in
    entered_state c.args.kernel.now.history call.new.self.history c.args.who.0 c.args.call call.result (call.ensures.entry (sym c.has_entry.ensures ∙ c.if-has_entry.true))

pub returns-then-has_entry-clause-bank : goal.returns-then-has_entry-clause-bank
returns-then-has_entry-clause-bank g c =
    let call = c.apply-answer in
    entered_bank c.args.kernel.now.history call.new.self.history c.args.who.0 c.args.call call.result (call.ensures.entry (sym c.has_entry.ensures ∙ c.if-has_entry.true))
