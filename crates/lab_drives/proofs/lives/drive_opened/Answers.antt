use Rattle.std.proofs.lemmas.Result.{on_ok_weaker}
use Rattle.lab_drives.proofs.LiveLemmas.{machine_driven}
use Rattle.lab_drives.proofs.lives.drive_opened.Goals as goal

pub returns-clause-drives : goal.returns-clause-drives
returns-clause-drives g c =
    on_ok_weaker c.drive_buffered.result (machine_driven _ c.args.session.now c.drive_buffered.new.session _ _ _ c.in_ok-print_trace.ensures.text) c.drive_buffered.ensures.answers
