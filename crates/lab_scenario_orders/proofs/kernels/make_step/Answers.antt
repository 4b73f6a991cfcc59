use Rattle.std.proofs.Common.{◌∙◌, sym, ap}
use Rattle.evl_base.specs.declared.call.Call.{Call}
use Rattle.evl_kernel.specs.histories.Replays.{step_outcome}
use Rattle.lab_scenario_orders.proofs.CallLaws.{entered_bank, entered_reply, entered_state}
use Rattle.lab_scenario_orders.proofs.kernels.make_step.Goals as goal

pub returns-then-has_entry-clause-reply : goal.returns-then-has_entry-clause-reply
returns-then-has_entry-clause-reply g c =
    let old = c.args.kernel.now.history in
    let who = c.args.step.now.who.0 in
    let call = c.apply-answer in
    entered_reply old call.new.self.history who c.in-Ok.same call.result (call.ensures.entry (sym c.has_entry.ensures ∙ c.if-has_entry.true))
    ∙ ap (λ (asked : Call). (step_outcome old.state who asked).reply) c.in-Ok.ensures

pub returns-then-has_entry-clause-state : goal.returns-then-has_entry-clause-state
returns-then-has_entry-clause-state g c =
    let old = c.args.kernel.now.history in
    let who = c.args.step.now.who.0 in
    let call = c.apply-answer in
    entered_state old call.new.self.history who c.in-Ok.same call.result (call.ensures.entry (sym c.has_entry.ensures ∙ c.if-has_entry.true))
    ∙ ap (λ (asked : Call). (step_outcome old.state who asked).after) c.in-Ok.ensures

pub returns-then-has_entry-clause-bank : goal.returns-then-has_entry-clause-bank
returns-then-has_entry-clause-bank g c =
    let call = c.apply-answer in
    entered_bank c.args.kernel.now.history call.new.self.history c.args.step.now.who.0 c.in-Ok.same call.result (call.ensures.entry (sym c.has_entry.ensures ∙ c.if-has_entry.true))
