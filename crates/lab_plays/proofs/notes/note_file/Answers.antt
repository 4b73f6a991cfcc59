use Rattle.std.proofs.Common.{map}
use Rattle.evl_plans.specs.Told.{handler_of}
use Rattle.lab_plays.proofs.NoteLemmas.{each_one}
use Rattle.lab_plays.proofs.notes.note_file.Goals as goal

pub returns-clause-each : goal.returns-clause-each
returns-clause-each g c =
    let read = c.in_ok-status.ensures in
    each_one (map handler_of c.args.plans.now) c.args.name.now read.0 _ _ _ _ (rw c.new-json.ensures.bytes at read.1)
    (rw c.as_bytes.ensures.value at c.in_ok-write_all.ensures.bytes)
