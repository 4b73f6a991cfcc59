use Rattle.std.proofs.Common.{Ok, Err}
use Rattle.lab_plays.specs.Plays.{unstored_words}
use Rattle.lab_plays.proofs.PlayLemmas.{told_as}
use Rattle.lab_plays.proofs.CompareLemmas.{unstored}
use Rattle.lab_plays.proofs.compares.compare_at.Goals as goal

pub returns-in-Ok-clause-told : goal.returns-in-Ok-clause-told
returns-in-Ok-clause-told g c =
    told_as _ _ _ _ _ _ _ c.compare_texts.result
    (λ told h. (Ok c.in-Ok.bytes.items, (c.in-Ok.ensures, rw (c.text_in-stored.ensures, c.as_slice.ensures.value) at h))) c.compare_texts.ensures.told

pub returns-in-Err-clause-told : goal.returns-in-Err-clause-told
returns-in-Err-clause-told g c =
    unstored _ c.args.name.now c.args.path.now c.in-Err.why c.args.trace.now _ _ _ c.tell_unstored.result c.tell_unstored.ensures.status c.tell_unstored.ensures.line
