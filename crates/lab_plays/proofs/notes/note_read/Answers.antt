use Rattle.std.proofs.Common.{◌≡◌, Ok, Err, map, string_bytes}
use Rattle.evl_plans.specs.Told.{handler_of}
use Rattle.lab_plays.specs.Notes.{NotesAll, NotesFile}
use Rattle.lab_streams.specs.Readings.{Reading}
use Rattle.lab_plays.proofs.NoteLemmas.{noted_as, noted_of}
use Rattle.lab_plays.proofs.notes.note_read.Goals as goal

pub returns-in-Ok : goal.returns-in-Ok
returns-in-Ok g c =
    let bank = map handler_of c.args.plans.now in
    let old = string_bytes c.args.json.now in
    let new = string_bytes c.note_all.new.json in
    noted_as (λ status. (text : Reading) × NotesFile bank c.args.name.now text old new status) (NotesAll bank c.args.name.now c.in-Ok.text.items old new) c.note_all.result
    (λ status h. (Ok c.in-Ok.text.items, (c.in-Ok.ensures, h))) c.note_all.ensures

pub returns-in-Err : goal.returns-in-Err
returns-in-Err g c =
    let old = string_bytes c.args.json.now in
    let new = string_bytes c.note_why.new.json in
    noted_of (λ status. (text : Reading) × NotesFile (map handler_of c.args.plans.now) c.args.name.now text old new status) (λ status. status ≡ 2) _ c.note_why.result
    (λ status is written. (Err c.in-Err.why, (written, is))) c.note_why.ensures.status c.note_why.ensures.written
