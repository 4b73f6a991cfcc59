use Rattle.std.proofs.Common.{inl, inr}
use Rattle.std.proofs.lemmas.Result.{on_ok_weaker}
use Rattle.lab_drives.proofs.writings.draw_to.Goals as goal

pub returns-in-Ok : goal.returns-in-Ok
returns-in-Ok g c = on_ok_weaker c.draw_scenario.result (λ h. inl (h.0, rw (c.as_str.ensures.value, c.in-Ok.ensures.text) at h.1, h.2)) c.draw_scenario.ensures

pub returns-in-Err : goal.returns-in-Err
returns-in-Err g c = on_ok_weaker c.write_unwritten.result (λ h. inr (h _ c.in-Err.ensures.refused)) c.write_unwritten.ensures
