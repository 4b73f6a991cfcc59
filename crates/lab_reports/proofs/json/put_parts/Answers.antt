use Rattle.lab_traces.specs.Says.{parts_of}
use Rattle.lab_reports.proofs.JsonLaws.{entry_told}
use Rattle.lab_reports.proofs.json.put_parts.Goals as goal

pub returns : goal.returns
returns c =
    entry_told (parts_of c.args.entry) _ _ _ _ _ _ c.in_ok-push_str.ensures.bytes c.in_ok-put_number.ensures c.in_ok-write.ensures.bytes
    c.in_ok-put_call.ensures c.in_ok-put_answer.ensures
