use Rattle.std.proofs.Common.{inl, inr}
use Rattle.std.proofs.lemmas.Result.{on_ok_weaker}
use Rattle.lab_drives.proofs.writings.save_to.Goals as goal

pub returns-in-Ok : goal.returns-in-Ok
returns-in-Ok g c = on_ok_weaker c.write_to.result (λ h. inl h) c.write_to.ensures

pub returns-in-Err : goal.returns-in-Err
returns-in-Err g c = on_ok_weaker c.write_unwritten.result (λ h. inr (h _ c.in-Err.ensures.refused)) c.write_unwritten.ensures
