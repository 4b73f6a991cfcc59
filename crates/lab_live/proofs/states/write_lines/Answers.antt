use Rattle.std.proofs.Common.{◌∙◌, ◌++◌, List, ℕ, ap, append-nil, string_bytes, sym}
use Rattle.evl_pipeline.specs.Lines.{is_pending}
use Rattle.lab_live.specs.States.{is_none, pending_so_far}
use Rattle.lab_live.proofs.StateLaws.{none_more, pending_more, pending_none, pending_same, told_more}
use Rattle.lab_live.proofs.states.write_lines.Goals as goal
use Rattle.lab_live.proofs.states.write_lines.Goals.{then-pending+in_ok-put_line, else-pending}

pub loop-line-init : goal.loop-line-init
loop-line-init g c =
    let none = sym (pending_none (is_pending c.args.kernel.now.history.state.lines c.args.stage)) in
    let before = string_bytes c.args.told.now in
    record {
      lines = sym (append-nil before) ∙ ap (λ (ls : List ℕ). before ++ pending_so_far ls) none;
      none = ap is_none none;
    }

pub loop-line-preserved : goal.loop-line-preserved
loop-line-preserved g c =
    let passes = is_pending c.args.kernel.now.history.state.lines c.args.stage in
    let line = c.loop-line.line in
    let before = c.loop-line.invariant in
    let first = string_bytes c.args.told.now in
    let was = c.pending.ensures.pending in
    elim c.if-pending.branch [
      | then-pending+in_ok-put_line w ↦
          let is = sym was ∙ w.if-pending.true in
          record {
            lines = ap string_bytes w.told-is ∙ told_more passes line c.loop-line.is_quiet first (string_bytes c.loop-line.told) _ is before.lines before.none w.in_ok-put_line.ensures;
            none = w.is_quiet-is ∙ sym (ap is_none (pending_more passes line is) ∙ none_more _ line);
          }
      | else-pending w ↦
          let same = sym (pending_same passes line (sym was ∙ w.if-pending.false)) in
          record {
            lines = ap string_bytes w.told-is ∙ before.lines ∙ ap (λ (ls : List ℕ). first ++ pending_so_far ls) same;
            none = w.is_quiet-is ∙ before.none ∙ ap is_none same;
          }
    ]
