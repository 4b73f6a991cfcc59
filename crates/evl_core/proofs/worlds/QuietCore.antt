-- A legal history ends quiet, so what lies in the slot of a free core is quiet.
use Rattle.std.proofs.Common.{◌≡◌, map, get_or, Option, sym, subst, ⊎_elim, arith}
use Rattle.atomic_table.specs.Table.{State as TableState}
use Rattle.evl_kernel.specs.histories.Histories.{History, IsLegal}
use Rattle.evl_kernel.specs.state.KernelViews.{KernelView}
use Rattle.evl_kernel.proofs.settling.QuietLaws.{stalled_while_pending}
use Rattle.evl_kernel.proofs.settling.PendingLaws.{due_pends}
use Rattle.evl_core.specs.rule.CoreRule.{IsFree, IsTaken}
use Rattle.evl_core.specs.rule.ThreadRule.{core_of}
use Rattle.evl_core.specs.rule.Known.{ComesFrom, CoreHand, KeptKnown, past_of}
use Rattle.evl_core.specs.worlds.QuietCore.{IsQuiet, LiesQuiet}

pub ends_quiet : (h : History) → IsLegal h → IsQuiet h
ends_quiet h legal = record { stalled = stalled_while_pending h legal; due = due_pends h legal }

module _ {C : Type 0} where
  pub free_is_quiet : (first : KernelView C) → (s : TableState (Option (KernelView C)) (CoreHand C)) → KeptKnown first s → get_or s.words 0 0 ≡ 0 → LiesQuiet s.homes
  free_is_quiet first s d free =
      let r = d.kept.locked.1 in
      ⊎_elim
      (λ (f : IsFree past_of ComesFrom first r.history (get_or s.words 0 0) s.homes (map core_of d.views)).
      let legal : IsLegal f.kernel.history = subst IsLegal (sym f.past_is) r.legal in
      (f.kernel, f.slot_is, legal, ends_quiet f.kernel.history legal))
      (λ (t : IsTaken r.history (get_or s.words 0 0) s.homes (map core_of d.views)). let one = t.word_is in absurd (omega arith))
      r.who
