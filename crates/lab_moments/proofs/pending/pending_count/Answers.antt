use Rattle.std.proofs.Common.{◌∙◌, ap, ◌+◌, ℕ, Bool, arith, if◌then◌else◌}
use Rattle.lab_moments.specs.Standings.{pending_below}
use Rattle.lab_moments.proofs.PendingLaws.{one_at_most, pending_more, pending_none}
use Rattle.lab_moments.proofs.pending.pending_count.Goals as goal

pub loop-line-init : goal.loop-line-init
loop-line-init g c = record { counted = pending_none c.args.kernel.now.history.state c.args.stage; few = omega arith }

pub loop-line-preserved : goal.loop-line-preserved
loop-line-preserved g c =
    let s = c.args.kernel.now.history.state in let stage = c.args.stage in let line = c.loop-line.line in
    record {
      counted = c.counted-count.ensures ∙ ap (λ (k : ℕ). k + (if c.pending.result then 1 else 0)) c.loop-line.invariant.counted
          ∙ ap (λ (is_one : Bool). pending_below s stage line + (if is_one then 1 else 0)) c.pending.ensures.pending ∙ pending_more s stage line;
      few = omega (arith, c.counted-count.ensures, c.loop-line.invariant.few, one_at_most c.pending.result);
    }
