use Rattle.std.proofs.Common.{◌∙◌, ◌++◌, List, ℕ, map, subst}
use Rattle.evl_plans.specs.Told.{handler_of}
use Rattle.evl_scenario.specs.Lines.{line_feed}
use Rattle.lab_caller_pictures.specs.Drawings.{callers}
use Rattle.evl_c.specs.Pictures.{DrawsWhole}
use Rattle.evl_c.proofs.PictureLemmas.{ends_as}
use Rattle.evl_c.proofs.pictures.draw_callers.Goals as goal

pub returns-in-Ok : goal.returns-in-Ok
returns-in-Ok c =
    let bank = map handler_of c.args.asked.plans.now in
    let page = c.args.asked.page in
    let form = c.args.asked.form in
    let text = c.args.text.now in
    ends_as (DrawsWhole bank page form callers c.as_str.result.now text) (DrawsWhole bank page form callers (c.args.front.now ++ line_feed) text) c.draw_whole.result
    (λ outcome h. subst (λ (l : List ℕ). DrawsWhole bank page form callers l text outcome) (c.as_str.ensures.value ∙ c.in-Ok.ensures) h) c.draw_whole.ensures
