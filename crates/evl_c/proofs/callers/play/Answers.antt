use Rattle.std.proofs.Common.{◌≡◌, ◌∙◌, Err, ap, inl, inr, length, map, [], refl}
use Rattle.std.proofs.lemmas.List.{length-map}
use Rattle.evl_kernel.specs.state.Openings.{can_open}
use Rattle.evl_plans.specs.Told.{handler_of}
use Rattle.evl_c.specs.Callers.{TellsPlayed, ended}
use Rattle.evl_c.proofs.TextLaws.{story_as}
use Rattle.evl_c.proofs.callers.play.Goals as goal

pub returns-in-Ok : goal.returns-in-Ok
returns-in-Ok c =
    let plans = c.args.plans.items in
    let made = c.in-Ok.made in
    story_as _ (λ story. story ≡ ended made) (TellsPlayed (map handler_of plans) c.args.asked) c.tell_made.result
    (λ story is. inl (made, record { plans = plans; bank_is = refl; is_told = c.in-Ok.ensures.told }, is)) c.tell_made.ensures

pub returns-in-Err-Range : goal.returns-in-Err-Range
returns-in-Err-Range c =
    let plans = c.args.plans.items in
    let asked = c.args.asked in
    let closed = ap (λ n. can_open asked.board n asked.limit) (length-map plans handler_of) ∙ c.in-Err-Range.ensures.range.0 (ap Err c.in-Err-Range.field-0-is) in
    story_as _ (λ story. story ≡ record { text = []; step = 0; status = 2 }) (TellsPlayed (map handler_of plans) asked) c.refuse.result (λ story is. inr (closed, is)) c.refuse.ensures
