use Rattle.std.proofs.Common.{List, ℕ, ◌≤◌, length, codes, map, option_map, subst, sym}
use Rattle.std.specs.Prelude.{unwrap_or}
use Rattle.std.specs.Str.{is_utf8}
use Rattle.evl_kernel.specs.state.States.{Handler}
use Rattle.evl_plans.specs.Told.{handler_of}
use Rattle.lab_draws.specs.Draws.{DrawsIf}
use Rattle.lab_streams.specs.Readings.{most_bytes}
use Rattle.lab_streams.specs.Texts.{IsAllOf}
use Rattle.lab_streams.proofs.OutputLemmas.{of_read, of_unread}
use Rattle.lab_draws.proofs.draws.draw_file.Goals as goal

pub returns-in-Ok-clause-writes : goal.returns-in-Ok-clause-writes
returns-in-Ok-clause-writes g c =
    let bank : List Handler = map handler_of c.args.view.now.bank.now in
    let name = unwrap_or (option_map (λ file. file.now) c.args.file) (codes "-") in
    let same = sym c.as_slice.ensures.value in
    of_read _ (λ text. DrawsIf bank (is_utf8 text) c.args.view.now.drawing text) name _ _ _ _ _ _ c.as_slice.result.now c.draw_bytes.result
    (subst (λ (l : List ℕ). length l ≤ most_bytes) same c.in-Ok.ensures.bound) (λ is. subst (λ (l : List ℕ). IsAllOf (g.I.Read.remaining c.args.input.now) l) same (c.in-Ok.ensures.input is))
    c.draw_bytes.ensures.writes

pub returns-in-Err-clause-writes : goal.returns-in-Err-clause-writes
returns-in-Err-clause-writes g c =
    let bank : List Handler = map handler_of c.args.view.now.bank.now in
    let name = unwrap_or (option_map (λ file. file.now) c.args.file) (codes "-") in
    of_unread _ (λ text. DrawsIf bank (is_utf8 text) c.args.view.now.drawing text) name _ _ _ _ _ c.in-Err.why c.tell_unread.result c.refused.result c.in-Err.ensures.long
    (rw c.called-name.ensures at c.tell_unread.ensures.line)
    c.refused.ensures.status
