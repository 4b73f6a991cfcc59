use Rattle.std.proofs.Common.{◌∙◌}
use Rattle.lab_drawing.proofs.ShapeLaws.{mark_added}
use Rattle.lab_drawing.proofs.svg.put_mark.Goals as goal

pub returns : goal.returns
returns c =
    mark_added c.args.known.now.entry c.args.mark.now c.args.known.now.end _ _ _ _ _ _ _ _ (c.as_str.ensures.value ∙ c.in_ok-placed.ensures) c.in_ok-put_text.ensures c.in_ok-put_title.ensures c.in_ok-extend_from_slice.ensures.items
