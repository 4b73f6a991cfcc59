use Rattle.lab_traces.specs.Says.{parts_of}
use Rattle.lab_reports.proofs.JsonLaws.{entry_begun}
use Rattle.lab_reports.proofs.json.put_says.Goals as goal

pub returns-in_ok-put_head-in-Entry : goal.returns-in_ok-put_head-in-Entry
returns-in_ok-put_head-in-Entry c rest =
    rw c.in-Entry.is
    (entry_begun c.args.file.now c.args.begun (parts_of c.in-Entry.entry) rest _ _ _ c.in_ok-end_line-in-Entry.ensures c.in_ok-put_head-in-Entry.ensures)
