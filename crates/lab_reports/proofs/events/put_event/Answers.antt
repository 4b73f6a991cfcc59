use Rattle.std.proofs.Common.{◌++◌, codes}
use Rattle.std.specs.Str.{trim_start}
use Rattle.lab_reports.specs.Events.{at_text, look_text}
use Rattle.lab_reports.specs.Quotes.{json_text}
use Rattle.lab_reports.proofs.EventLaws.{quoted_more, three_more}
use Rattle.lab_reports.proofs.events.put_event.Goals as goal

pub returns : goal.returns
returns c =
    three_more _ (codes "{\"ph\": \"X\", \"name\": ") (json_text (trim_start c.args.mark.now.line.now))
    (codes ", " ++ (look_text c.args.mark.now.shape ++ (codes ", " ++ (at_text c.args.mark.now.lane c.args.row ++ codes ", \"dur\": 1},\n"))))
    _ _ _ c.in_ok-push_str.ensures.bytes (quoted_more _ _ _ _ c.in_ok-put_text.ensures c.trim_start.ensures.trim) c.in_ok-write.ensures.bytes
