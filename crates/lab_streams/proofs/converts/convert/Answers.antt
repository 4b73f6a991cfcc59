use Rattle.std.proofs.Common.{List, ℕ, ◌≤◌, length, codes, option_map, subst, sym}
use Rattle.std.specs.Prelude.{unwrap_or}
use Rattle.lab_streams.specs.Lines.{ConvertsText}
use Rattle.lab_streams.specs.Readings.{most_bytes}
use Rattle.lab_streams.specs.Texts.{IsAllOf}
use Rattle.lab_streams.proofs.OutputLemmas.{of_read, of_unread, written_as}
use Rattle.lab_streams.proofs.converts.convert.Goals as goal

pub returns-in-Ok-clause-writes : goal.returns-in-Ok-clause-writes
returns-in-Ok-clause-writes g c =
    let name = unwrap_or (option_map (λ file. file.now) c.args.file) (codes "-") in
    let text = c.as_slice.result.now in
    let same = sym c.as_slice.ensures.value in
    of_read _ (ConvertsText c.args.asked name) name _ _ _ _ _ _ text c.convert_text.result (subst (λ (l : List ℕ). length l ≤ most_bytes) same c.in-Ok.ensures.bound)
    (λ is. subst (λ (l : List ℕ). IsAllOf (g.I.Read.remaining c.args.input.now) l) same (c.in-Ok.ensures.input is))
    (written_as _ (ConvertsText c.args.asked name text) _ _ _ _ (ConvertsText c.args.asked c.called-name.result.now text) c.convert_text.result
    (λ output h. subst (λ (n : List ℕ). ConvertsText c.args.asked n text output) c.called-name.ensures h) c.convert_text.ensures.writes)

pub returns-in-Err-clause-writes : goal.returns-in-Err-clause-writes
returns-in-Err-clause-writes g c =
    let name = unwrap_or (option_map (λ file. file.now) c.args.file) (codes "-") in
    of_unread _ (ConvertsText c.args.asked name) name _ _ _ _ _ c.in-Err.why c.tell_unread.result c.refused.result c.in-Err.ensures.long
    (rw c.called-name.ensures at c.tell_unread.ensures.line) c.refused.ensures.status
