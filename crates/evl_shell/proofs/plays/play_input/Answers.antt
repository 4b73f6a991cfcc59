use Rattle.std.proofs.Common.{◌∙◌, Err, ap}
use Rattle.evl_scenario.specs.declared.faults.Fault.{Fault}
use Rattle.evl_shell.specs.Faults.{is_write_fault}
use Rattle.evl_shell.proofs.EndLemmas.{ended-unread, ended-done, ended-broken}
use Rattle.evl_shell.proofs.plays.play_input.Goals as goal

pub returns-in-Err-clause-ended : goal.returns-in-Err-clause-ended
returns-in-Err-clause-ended g c = ended-unread _ _ _ _ _ _ c.requires.working c.in-Err.ensures.stop

pub returns-in-Ok-run-clause-ended : goal.returns-in-Ok-run-clause-ended
returns-in-Ok-run-clause-ended g c =
    ended-done _ _ _ _ _ _ c.in-Ok.text.items c.as_slice.result.now c.as_slice.ensures.value c.in-Ok.ensures.text c.in-Ok-run.ensures.done
    (c.run.ensures.failed ∙ ap is_write_fault c.in-Ok-run.is)

pub returns-clause-ended : goal.returns-clause-ended
returns-clause-ended g c =
    ended-broken _ _ _ _ _ _ c.in-Ok.text.items c.as_slice.result.now c.in-Err-run.fault c.as_slice.ensures.value c.in-Ok.ensures.text
    (λ refusal. let told = c.in-Err-run.ensures.refused refusal in (told.0, ap g.S.Sink.told told.1))
    (λ memory. c.run.ensures.memory (c.in-Err-run.is ∙ ap (λ (f : Fault). Err f) memory))
    (λ written. c.run.ensures.write (c.in-Err-run.is ∙ ap (λ (f : Fault). Err f) written))
    (c.run.ensures.failed ∙ ap is_write_fault c.in-Err-run.is)
