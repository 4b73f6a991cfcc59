use Rattle.std.proofs.Common.{◌∙◌}
use Rattle.lab_drawing.specs.Shapes.{date}
use Rattle.lab_drawing.proofs.ShapeLaws.{sign_within}
use Rattle.lab_drawing.proofs.strips.put_date.Goals as goal

pub returns : goal.returns
returns c =
    sign_within (date c.args.nanoseconds) _ _ _ _ _ _ _ (c.as_str-2.ensures.value ∙ c.in_ok-told.ensures) c.in_ok-push_str.ensures.bytes c.in_ok-push_str-2.ensures.bytes
    c.in_ok-push_str-3.ensures.bytes
