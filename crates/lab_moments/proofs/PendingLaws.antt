-- Events that are pending, counted line by line.
use Rattle.std.proofs.Common.{◌≡◌, ◌≤◌, ℕ, ◌+◌, Bool, true, false, arith, if◌then◌else◌, refl, sym, ap, add-one}
use Rattle.evl_base.specs.declared.stage.Stage.{Stage}
use Rattle.evl_pipeline.specs.Lines.{is_pending}
use Rattle.evl_kernel.specs.state.States.{State}
use Rattle.lab_moments.specs.Standings.{pending_below}

pub pending_none : (s : State) (stage : Stage) → 0 ≡ pending_below s stage 0
unfolding pending_below
pending_none s stage = refl

pub pending_more : (s : State) (stage : Stage) (line : ℕ) → pending_below s stage line + (if is_pending s.lines stage line then 1 else 0) ≡ pending_below s stage (line + 1)
unfolding pending_below
pending_more s stage line = ap (λ (k : ℕ). pending_below s stage k) (sym (add-one line))

pub one_at_most : (is_one : Bool) → (if is_one then 1 else 0) ≤ 1
one_at_most true = omega arith
one_at_most false = omega arith
