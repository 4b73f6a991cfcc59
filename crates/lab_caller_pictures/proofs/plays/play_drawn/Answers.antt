use Rattle.std.proofs.Common.{List, map}
use Rattle.std.proofs.lemmas.Result.{IfOk-weaker}
use Rattle.evl_kernel.specs.state.States.{Handler}
use Rattle.evl_plans.specs.Told.{handler_of}
use Rattle.lab_caller_pictures.proofs.RunLaws.{why_of}
use Rattle.lab_caller_pictures.proofs.plays.play_drawn.Goals as goal

pub returns-in-Ok-clause-run : goal.returns-in-Ok-clause-run
returns-in-Ok-clause-run c = IfOk-weaker c.play_asked.result _ _ (λ run h. (c.in-Ok.asked, c.in-Ok.ensures.opens, h)) c.play_asked.ensures.run

pub returns-in-Ok-clause-why : goal.returns-in-Ok-clause-why
returns-in-Ok-clause-why c =
    let bank : List Handler = map handler_of c.args.bank.now in
    why_of bank c.args.text.now c.in-Ok.asked c.play_asked.result c.in-Ok.ensures.opens c.play_asked.ensures.why
