use Rattle.std.proofs.Common.{Ok, refl}
use Rattle.evl_kernel.specs.state.Records.{state_of, whereabouts}
use Rattle.evl_kernel.proofs.state.CallbackLaws.{answers-kept, keeps-both}
use Rattle.evl_kernel.proofs.histories.HistoryLaws.{performed_ok, performed_refused}
use Rattle.evl_kernel.proofs.settling.SettlingLaws.{appends_before}
use Rattle.evl_kernel.proofs.records.Records.perform.Goals as goal

pub settle-requires-clause-by_plan : goal.settle-requires-clause-by_plan
settle-requires-clause-by_plan g c =
    answers-kept g.C.Handler.declared g.C.Handler.plan c.args.self.now c.answer.new.self c.answer.ensures.stands c.requires.by_plan

pub returns-in-Ok-clause-performed : goal.returns-in-Ok-clause-performed
returns-in-Ok-clause-performed g c =
    let old = c.args.self.now in let mid = c.answer.new.self in
    performed_ok g.C.Handler.gives (whereabouts old) c.args.plays.now.items c.settle.new.plays.items (state_of old) (state_of mid) (state_of c.settle.new.self) c.args.caller.0 c.args.call.now
    (Ok c.in-Ok.reply) refl c.in-Ok.ensures.answered
    (appends_before g.C.Handler.gives (whereabouts mid) (whereabouts old) c.answer.ensures.stands.brings c.args.plays.now.items c.settle.new.plays.items (state_of mid) (state_of c.settle.new.self) c.settle.ensures.settled)

pub returns-in-Ok-clause-stands : goal.returns-in-Ok-clause-stands
returns-in-Ok-clause-stands g c = keeps-both c.args.self.now c.answer.new.self c.settle.new.self c.answer.ensures.stands c.settle.ensures.stands

pub returns-in-Err-clause-performed : goal.returns-in-Err-clause-performed
returns-in-Err-clause-performed g c =
    let old = c.args.self.now in
    performed_refused g.C.Handler.gives (whereabouts old) c.args.plays.now.items (state_of old) (state_of c.answer.new.self) c.args.caller.0 c.args.call.now
    c.in-Err.refusal c.in-Err.ensures.answered
