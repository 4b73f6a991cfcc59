use Rattle.std.proofs.Common.{List, ℕ, ◌≤◌, length, codes, map, option_map, subst, sym}
use Rattle.std.specs.Prelude.{unwrap_or}
use Rattle.evl_plans.specs.Told.{handler_of as told_by}
use Rattle.lab_drives.specs.Callers.{TellsText}
use Rattle.lab_streams.specs.Readings.{most_bytes}
use Rattle.lab_streams.specs.Texts.{IsAllOf}
use Rattle.lab_streams.proofs.OutputLemmas.{of_read, of_unread, written_as}
use Rattle.lab_drives.proofs.callers.play_file.Goals as goal

pub returns-in-Ok-clause-writes : goal.returns-in-Ok-clause-writes
returns-in-Ok-clause-writes g c =
    let bank = map told_by c.args.plans.items in
    let name = unwrap_or (option_map (λ file. file.now) c.args.file) (codes "-") in
    let text = c.as_slice.result.now in
    let same = sym c.as_slice.ensures.value in
    of_read _ (TellsText bank c.args.limit name) name _ _ _ _ _ _ text c.play_text.result (subst (λ (l : List ℕ). length l ≤ most_bytes) same c.in-Ok.ensures.bound)
    (λ is. subst (λ (l : List ℕ). IsAllOf (g.I.Read.remaining c.args.input.now) l) same (c.in-Ok.ensures.input is))
    (written_as _ (TellsText bank c.args.limit name text) _ _ _ _ (TellsText bank c.args.limit c.called-name.result.now text) c.play_text.result
    (λ output h. subst (λ (n : List ℕ). TellsText bank c.args.limit n text output) c.called-name.ensures h) c.play_text.ensures.writes)

pub returns-in-Err-clause-writes : goal.returns-in-Err-clause-writes
returns-in-Err-clause-writes g c =
    let bank = map told_by c.args.plans.items in
    let name = unwrap_or (option_map (λ file. file.now) c.args.file) (codes "-") in
    of_unread _ (TellsText bank c.args.limit name) name _ _ _ _ _ c.in-Err.why c.tell_unread.result c.refused.result c.in-Err.ensures.long
    (rw c.called-name.ensures at c.tell_unread.ensures.line) c.refused.ensures.status
