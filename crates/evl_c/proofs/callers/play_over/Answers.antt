use Rattle.std.proofs.Common.{◌≡◌, List, inl, inr, map, subst}
use Rattle.std.specs.Prelude.{IsSomeAnd}
use Rattle.evl_kernel.specs.state.States.{Handler}
use Rattle.evl_plans.specs.Told as callbacks
use Rattle.evl_c.specs.Forms.{handler_of}
use Rattle.evl_c.specs.Callers.{PlaysCallers, TellsPlayed, fault_ended}
use Rattle.evl_c.proofs.TextLaws.{story_as}
use Rattle.evl_c.proofs.callers.play_over.Goals as goal

pub returns-in-Ok : goal.returns-in-Ok
returns-in-Ok c =
    let asked = c.in-Ok.asked in
    story_as _ (TellsPlayed (map callbacks.handler_of c.in_ok-read.read.items) asked) (PlaysCallers (map handler_of c.args.plans.now) c.args.limit c.args.text.now) c.play.result
    (λ story h. inl (asked, c.in-Ok.ensures.opens, subst (λ (bank : List Handler). TellsPlayed bank asked story) c.in_ok-read.ensures.plans h)) c.play.ensures

pub returns-in-Err : goal.returns-in-Err
returns-in-Err c =
    let e = c.in-Err.fault in
    story_as _ (λ story. IsSomeAnd (fault_ended e) (λ s. story ≡ s)) (PlaysCallers (map handler_of c.args.plans.now) c.args.limit c.args.text.now) c.refuse.result
    (λ story h. inr (e, c.in-Err.ensures.refused, h)) c.refuse.ensures
