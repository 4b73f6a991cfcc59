use Rattle.std.proofs.Common.{ℕ}
use Rattle.std.specs.Int.{IsGcd}
use Rattle.lab_tasks.proofs.hyperperiods.common_divisor.Given as goal

abbrev pub invariant-loop-b : goal.invariant-loop-b
invariant-loop-b l = (g : ℕ) → IsGcd l.a l.b g → IsGcd l.fn.one l.fn.other g

abbrev pub decreases-loop-b : goal.decreases-loop-b
decreases-loop-b l = l.b
