use Rattle.std.proofs.lemmas.Result.{IfOk-weaker}
use Rattle.lab_caller_pictures.proofs.drawn.picture_of.Goals as goal

pub returns : goal.returns
returns c = IfOk-weaker c.write_svg.result _ _ (λ picture h. (c.in_ok-drawn.drawn, c.in_ok-drawn.ensures, h)) c.write_svg.ensures
