use Rattle.std.proofs.Common.{option_map}
use Rattle.lab_traces.specs.Says.{parts_of}
use Rattle.lab_reports.proofs.JsonLaws.{head_told}
use Rattle.lab_reports.proofs.json.put_head.Goals as goal

pub returns : goal.returns
returns c =
    head_told c.args.file.now (option_map parts_of c.args.entry) _ _ _ _ _ c.in_ok-push_str.ensures.bytes c.in_ok-put_text.ensures
    c.in_ok-put_entry.ensures c.in_ok-push_str-2.ensures.bytes
