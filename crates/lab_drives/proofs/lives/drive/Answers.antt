use Rattle.std.proofs.lemmas.Result.{on_ok_weaker}
use Rattle.lab_drives.proofs.LiveLemmas.{input_answered}
use Rattle.lab_drives.proofs.lives.drive.Goals as goal

pub returns-in-Ok-clause-answers : goal.returns-in-Ok-clause-answers
returns-in-Ok-clause-answers g c =
    let heard = c.in-Ok.ensures.heard in
    on_ok_weaker c.answer_last.result
    (input_answered _ heard.0 c.answer_parts.new.waiting.items c.as_slice.result.now _ _ _ heard.1 _ _ _ c.as_slice.ensures.value heard.2 heard.3 c.in-Ok.ensures.waits heard.4)
    c.answer_last.ensures.answers
