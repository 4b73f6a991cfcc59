use Rattle.std.proofs.Common.{◌∙◌, ap, map}
use Rattle.lab_traces.specs.Says.{says_of}
use Rattle.lab_plays.proofs.PlayLemmas.{is_trace, json_put, no_json}
use Rattle.lab_plays.proofs.plays.put_json.Goals as goal

pub returns-in-Ok-clause-text : goal.returns-in-Ok-clause-text
returns-in-Ok-clause-text g c =
    let read = c.in-Ok.ensures in
    json_put _ c.args.name.now c.args.text.now _ _ _ c.put_lines.result (is_trace c.args.text.now c.in-Ok.lines.items read.says read.whole read.apart)
    (rw (← c.as_slice.ensures.value) c.put_lines.ensures.text)

pub returns-in-Err-Line-clause-text : goal.returns-in-Err-Line-clause-text
returns-in-Err-Line-clause-text g c = no_json c.args.name.now c.args.text.now c.in-Err-Line.field-0-0 _ (rw c.in-Err-Line.field-0-is at c.in-Err-Line.ensures.refused)
