use Rattle.std.proofs.Common.{◌++◌, inl, inr, map}
use Rattle.evl_plans.specs.Told.{handler_of}
use Rattle.evl_scenario.specs.Lines.{line_feed}
use Rattle.lab_caller_pictures.specs.Drawings.{callers, trace}
use Rattle.evl_c.specs.Pictures.{DrawsText, DrawsWhole}
use Rattle.evl_c.proofs.PictureLemmas.{ends_as}
use Rattle.evl_c.proofs.pictures.draw_text.Goals as goal

pub returns-in-Some : goal.returns-in-Some
returns-in-Some c =
    let bank = map handler_of c.args.asked.plans.now in
    let page = c.args.asked.page in
    let form = c.args.asked.form in
    let text = c.args.text.now in
    ends_as (DrawsWhole bank page form callers (c.in-Some.front.now ++ line_feed) text) (DrawsText bank page form text) c.draw_callers.result
    (λ outcome h. inl (_, _, c.in-Some.ensures.cases, h)) c.draw_callers.ensures

pub returns-in-None : goal.returns-in-None
returns-in-None c =
    let bank = map handler_of c.args.asked.plans.now in
    let page = c.args.asked.page in
    let form = c.args.asked.form in
    let text = c.args.text.now in
    ends_as (DrawsWhole bank page form trace text text) (DrawsText bank page form text) c.draw_whole.result (λ outcome h. inr (c.in-None.ensures.cases, h)) c.draw_whole.ensures
