use Rattle.lab_caller_pictures.specs.Drawings.{origin_of}
use Rattle.evl_c.proofs.PictureLemmas.{is_page}
use Rattle.evl_c.proofs.pictures.draw_page.Goals as goal

pub returns-in-Ok : goal.returns-in-Ok
returns-in-Ok c =
    is_page c.args.asked.page c.args.goes (origin_of c.args.source) c.args.marks.now c.saturating_sub-number.result c.args.all c.in-Ok.text.items c.saturating_sub-number.ensures c.in-Ok.ensures
