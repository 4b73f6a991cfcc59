use Rattle.std.proofs.Common.{sym}
use Rattle.std.proofs.lemmas.Result.{on_ok_weaker}
use Rattle.lab_drives.proofs.LiveLemmas.{drawn_answered}
use Rattle.lab_drives.proofs.writings.answer.Goals as goal

pub returns-in-Some : goal.returns-in-Some
returns-in-Some g c = on_ok_weaker c.draw_to.result (drawn_answered c.args.line.now c.args.session.now c.in-Some.path.now _ _ (sym c.in-Some.ensures)) c.draw_to.ensures
