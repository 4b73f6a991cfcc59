use Rattle.std.proofs.Common.{refl}
use Rattle.lab_drawing.specs.Shapes.{wait}
use Rattle.lab_drawing.proofs.ShapeLaws.{sign_first}
use Rattle.lab_drawing.proofs.waits.put_bar.Goals as goal

pub returns : goal.returns
returns c = sign_first (wait c.args.lane) _ _ _ _ _ (_, _, refl) c.in_ok-put_bar_place.ensures c.in_ok-push_str.ensures.bytes
