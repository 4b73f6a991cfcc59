use Rattle.lab_drives.proofs.LiveLemmas.{no_file}
use Rattle.lab_drives.proofs.lives.live.Goals as goal

pub returns-in-None-clause-lives : goal.returns-in-None-clause-lives
returns-in-None-clause-lives g c =
    rw c.in-None.is (no_file _ c.args.driving c.as_bytes.result.now _ _ _ _ _ c.drive_text.result c.as_bytes.ensures.value c.drive_text.ensures.drives)
