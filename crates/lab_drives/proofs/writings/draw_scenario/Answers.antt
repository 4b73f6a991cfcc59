use Rattle.std.proofs.lemmas.Result.{on_ok_weaker}
use Rattle.lab_drives.proofs.writings.draw_scenario.Goals as goal

pub returns : goal.returns
returns g c = on_ok_weaker c.write_to.result (λ h. (c.in_ok-drawn.drawn, rw c.plans.ensures at c.in_ok-drawn.ensures, h)) c.write_to.ensures
