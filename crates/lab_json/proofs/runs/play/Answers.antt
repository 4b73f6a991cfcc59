use Rattle.std.proofs.Common.{◌≡◌, IfOk, List, ℕ, string_bytes, subst}
use Rattle.lab_json.proofs.RunLaws.{opened}
use Rattle.lab_json.proofs.runs.play.Goals as goal

pub returns-in-Ok : goal.returns-in-Ok
returns-in-Ok c =
    let parts = c.into_parts-board.ensures in
    subst (λ (all : List ℕ). IfOk c.write_through-made.result (λ json. string_bytes json ≡ all))
    (opened c.args.file.now c.args.bank.items c.args.scenario _ _ _ c.in-Ok.kernel parts.board parts.limit parts.steps
    (λ e. cc (c.in-Ok.is, c.new.ensures.range.1 e)) c.in-Ok.ensures.opened)
    c.write_through-made.ensures
