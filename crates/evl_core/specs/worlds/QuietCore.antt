-- A kernel whose out-of-band stage holds nothing back but by a stall, and that forgets nothing that is due.
use Rattle.std.specs.Prelude.{ℕ, ◌≡◌, [], ◌∷◌, true, Some}
use mathlib.Core.Option.{some}
use Rattle.evl_base.specs.declared.stage.Stage.TheVariants.{Oob}
use Rattle.evl_pipeline.specs.Lines.{is_pending}
use Rattle.evl_clock.specs.Dues.{is_due}
use Rattle.evl_kernel.specs.histories.Histories.{History, IsLegal}
use Rattle.evl_kernel.specs.state.KernelViews.{KernelView}
use Rattle.evl_core.specs.rule.CoreRule.{Homes}

-- a line is pending out-of-band only while the out-of-band stage is stalled, and something is due only while line 0 is
-- pending
pub record IsQuiet (h : History) : Type 0 where
  pub stalled : (line : ℕ) → is_pending h.state.lines Oob line ≡ true → h.state.lines.oob.stalled ≡ true
  pub due : is_due h.state.clock ≡ true → is_pending h.state.lines Oob 0 ≡ true

-- rule: While the core is free, and at each take, the kernel's history is legal, a line pends out-of-band only while
--   that stage is stalled, and something is due only while line 0 pends.
--   also: QuietCore.IsQuiet; Calls.TookKernel
--   clauses: free_core_is_quiet; Machine::take
-- a kernel lies in the slot, whose history is legal and ends quiet
abbrev pub LiesQuiet : {C : Type 0} → Homes (KernelView C) → Type 0
LiesQuiet {C} homes = (k : KernelView C) × (homes ≡ some (Some k) ∷ []) × IsLegal k.history × IsQuiet k.history
