use Rattle.std.proofs.Common.{refl}
use Rattle.lab_drawing.specs.Shapes.{strip}
use Rattle.lab_drawing.proofs.ShapeLaws.{sign_first}
use Rattle.lab_drawing.proofs.strips.put_standing.Goals as goal

pub returns : goal.returns
returns c = sign_first (strip c.args.standing c.args.tells) _ _ _ _ _ (_, _, refl) c.in_ok-put_place.ensures c.in_ok-push_str.ensures.bytes
