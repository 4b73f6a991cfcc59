use Rattle.std.proofs.Common.{inr}
use Rattle.lab_streams.specs.Lines.{ConvertsText, place_text}
use Rattle.lab_streams.proofs.ConvertLemmas.{lines_converted}
use Rattle.lab_streams.proofs.OutputLemmas.{told_of, unread_said}
use Rattle.lab_streams.proofs.converts.convert_lines.Goals as goal

pub returns-in-Ok-clause-writes : goal.returns-in-Ok-clause-writes
returns-in-Ok-clause-writes g c =
    lines_converted _ c.args.asked c.args.name.now c.args.text.now c.in-Ok.meant _ _ _ _ c.convert_meant.result c.requires c.in-Ok.ensures.means c.convert_meant.ensures.writes

pub returns-in-Err-clause-writes : goal.returns-in-Err-clause-writes
returns-in-Err-clause-writes g c =
    let text = c.args.text.now in
    let name = c.args.name.now in
    let fault = c.in-Err.fault in
    told_of _ (ConvertsText c.args.asked name text) _ _ _ (λ l. l) (place_text name fault) c.tell_place.result c.refused.result
    (λ output h. inr (inr (unread_said name text fault output (inr (c.requires, c.in-Err.ensures.refused)) h))) c.tell_place.ensures.line c.refused.ensures.status
