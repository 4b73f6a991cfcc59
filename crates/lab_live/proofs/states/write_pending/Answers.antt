use Rattle.std.proofs.Common.{◌∙◌, ◌++◌, Bool, List, ℕ, ap, string_bytes}
use Rattle.lab_live.specs.States.{is_none, pending_end, pending_on, pending_so_far}
use Rattle.lab_live.proofs.StateLaws.{behind, pending_all}
use Rattle.lab_live.proofs.states.write_pending.Goals as goal

pub returns : goal.returns
returns g c =
    let lines = pending_on c.args.kernel.now.history.state c.args.stage in
    let before = string_bytes c.args.told.now in
    let mid = string_bytes c.write_lines.new.told in
    behind before mid (string_bytes c.put_end.new.told) (pending_so_far lines) (pending_end (is_none lines)) c.in_ok-is_quiet.ensures.lines
    (c.in_ok-put_end.ensures ∙ ap (λ (quiet : Bool). mid ++ pending_end quiet) c.in_ok-is_quiet.ensures.none)
    ∙ ap (λ (text : List ℕ). before ++ text) (pending_all lines)
