use Rattle.lab_streams.specs.Endings.{line_about}
use Rattle.lab_drives.specs.Lives.{SaysUnopened}
use Rattle.lab_streams.specs.Readings.{unread_words}
use Rattle.lab_drives.proofs.LiveLemmas.{file_given, file_unread}
use Rattle.lab_streams.proofs.OutputLemmas.{told_of}
use Rattle.lab_drives.proofs.lives.drive_file.Goals as goal

pub returns-in-Ok-clause-lives : goal.returns-in-Ok-clause-lives
returns-in-Ok-clause-lives g c = file_given _ c.args.driving c.args.path.now c.in-Ok.text.items _ _ _ _ _ c.drive_given.result c.in-Ok.ensures c.drive_given.ensures.drives

pub returns-in-Err-clause-lives : goal.returns-in-Err-clause-lives
returns-in-Err-clause-lives g c =
    let path = c.args.path.now in
    let why = c.in-Err.why in
    file_unread _ c.args.driving path why _ _ _ _ _ c.refused.result
    (told_of _ (SaysUnopened path why) _ _ _ (line_about path) (unread_words why) c.tell_unread.result c.refused.result (λ output h. h) c.tell_unread.ensures.line c.refused.ensures.status)
