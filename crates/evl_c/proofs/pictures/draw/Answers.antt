use Rattle.std.proofs.Common.{Bool, List, ℕ, map, refl, subst, sym}
use Rattle.evl_plans.specs.Told.{handler_of}
use Rattle.evl_scenario.proofs.Texts.{is_utf8-false, is_utf8-true}
use Rattle.evl_c.specs.Pictures.{DrawsBytes, DrawsIf, DrawsText, unread}
use Rattle.evl_c.proofs.PictureLemmas.{ends_as}
use Rattle.evl_c.proofs.pictures.draw.Goals as goal

pub returns-in-Ok : goal.returns-in-Ok
returns-in-Ok c =
    let bank = map handler_of c.args.asked.plans.now in
    let page = c.args.asked.page in
    let form = c.args.asked.form in
    let bytes = c.args.bytes.now in
    ends_as (DrawsText bank page form c.in-Ok.text.now) (DrawsBytes bank page form bytes) c.draw_text.result
    (λ outcome h. subst (λ (b : Bool). DrawsIf bank page form b bytes outcome) (sym (is_utf8-true bytes c.in-Ok.ensures.cases.1))
    (subst (λ (t : List ℕ). DrawsText bank page form t outcome) c.in-Ok.ensures.cases.0 h)) c.draw_text.ensures

pub returns-in-Err : goal.returns-in-Err
returns-in-Err c =
    subst (λ (b : Bool). DrawsIf (map handler_of c.args.asked.plans.now) c.args.asked.page c.args.asked.form b c.args.bytes.now unread) (sym (is_utf8-false c.args.bytes.now c.in-Err.ensures.cases.0)) refl
