use Rattle.std.proofs.Common.{inl, inr, refl}
use Rattle.lab_caller_pictures.specs.Drawings.{origin_of}
use Rattle.evl_c.specs.Pictures.{DrawsPage, DrawsSvg}
use Rattle.evl_c.proofs.PictureLemmas.{ends_as}
use Rattle.evl_c.proofs.pictures.draw_svg.Goals as goal

pub returns-then-asked-all : goal.returns-then-asked-all
returns-then-asked-all c =
    let all = c.page_count-all.result in
    (all, c.page_count-all.ensures, inl (c.if-asked-all.true, refl))

pub returns-else-asked-all : goal.returns-else-asked-all
returns-else-asked-all c =
    let all = c.page_count-all.result in
    let origin = origin_of c.args.source in
    ends_as (DrawsPage c.args.asked.page c.args.goes origin c.args.marks.now all) (DrawsSvg c.args.asked.page c.args.goes origin c.args.marks.now) c.draw_page.result
    (λ outcome h. (all, c.page_count-all.ensures, inr (c.if-asked-all.false, h))) c.draw_page.ensures
