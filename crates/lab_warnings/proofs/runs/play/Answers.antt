use Rattle.std.proofs.Common.{string_bytes}
use Rattle.lab_warnings.proofs.RunLaws.{none_opened, on_ok, opened_lines}
use Rattle.lab_warnings.proofs.runs.play.Goals as goal

pub returns-in-Ok : goal.returns-in-Ok
returns-in-Ok c =
    let parts = c.into_parts-board.ensures in
    on_ok c.look-looked.result _ _ (λ lines. opened_lines _ _ c.args.name.now _ c.args.bank.now c.in_ok-own.ensures c.args.scenario _ _ _ c.in-Ok.kernel (string_bytes c.args.told.now) (string_bytes c.look-looked.new.told) c.in-Ok.is c.new.ensures.range parts.board parts.limit parts.steps
    c.in-Ok.ensures.opened (rw c.counts_of-counts.ensures at lines)) c.look-looked.ensures

pub returns-in-Err-Range : goal.returns-in-Err-Range
returns-in-Err-Range c =
    let parts = c.into_parts-board.ensures in
    none_opened _ _ c.args.name.now _ c.args.bank.now c.in_ok-own.ensures c.args.scenario _ _ (string_bytes c.args.told.now) c.in-Err-Range.is c.in-Err-Range.field-0-is c.new.ensures.range parts.board parts.limit
