use Rattle.std.proofs.Common.{inr}
use Rattle.lab_kinds.specs.Kinds.{kind_of}
use Rattle.lab_streams.specs.Endings.{line_about}
use Rattle.lab_streams.specs.Lines.{Converts, unlined_words}
use Rattle.lab_streams.proofs.ConvertLemmas.{form_printed}
use Rattle.lab_streams.proofs.OutputLemmas.{told_of}
use Rattle.lab_streams.proofs.converts.convert_scenario.Goals as goal

pub returns-in-Ok-clause-writes : goal.returns-in-Ok-clause-writes
returns-in-Ok-clause-writes g c =
    let w = c.in-Ok.ensures.written in
    form_printed _ c.args.as_lines c.args.name.now c.args.scenario.now w.0 c.in-Ok.text.items c.as_slice.result.now _ _ _ c.put.result w.1 w.2 c.as_slice.ensures.value c.put.ensures.bytes c.put.ensures.status

pub returns-in_ok-kind-in-Err-clause-writes : goal.returns-in_ok-kind-in-Err-clause-writes
returns-in_ok-kind-in-Err-clause-writes g c =
    let text = c.args.scenario.now in
    let name = c.args.name.now in
    told_of _ (Converts c.args.as_lines name text) _ _ _ (line_about name) (unlined_words (kind_of text) c.in-Err.why) c.tell_unlined.result c.refused.result
    (λ output h. inr (c.in-Err.why, c.in-Err.ensures.refused, h)) (rw c.in_ok-kind-in-Err.ensures at c.tell_unlined.ensures.text) c.refused.ensures.status
