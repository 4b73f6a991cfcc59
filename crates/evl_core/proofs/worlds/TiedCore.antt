-- Each mutex's word is tied to the kernel in the slot, where the core is free.
use Rattle.std.proofs.Common.{◌≡◌, ◌+◌, ◌<◌, map, get_or, length, Option, ⊎_elim, arith}
use Rattle.atomic_table.specs.Table.{State as TableState}
use Rattle.evl_kernel.specs.state.KernelViews.{KernelView}
use Rattle.evl_core.specs.rule.CoreRule.{IsFree, IsTaken}
use Rattle.evl_core.specs.rule.Known.{ComesFrom, CoreHand, KeptKnown, past_of}
use Rattle.evl_core.specs.rule.ThreadRule.{core_of}
use Rattle.evl_core.specs.worlds.TiedCore.{LiesTied}

pub free_is_tied : {C : Type 0} (first : KernelView C) → (s : TableState (Option (KernelView C)) (CoreHand C)) → KeptKnown first s → get_or s.words 0 0 ≡ 0 → LiesTied first s.words s.homes
free_is_tied {C} first s d free =
    let r = d.kept.locked.1 in
    ⊎_elim
    (λ (f : IsFree past_of ComesFrom first r.history (get_or s.words 0 0) s.homes (map core_of d.views)).
    (f.kernel, f.slot_is, λ i less. let long = d.kept.long in let within : 1 + i < length s.words = omega (arith, long, less) in (d.kept.ties i within).free f.kernel f.slot_is))
    (λ (t : IsTaken r.history (get_or s.words 0 0) s.homes (map core_of d.views)). let one = t.word_is in absurd (omega (arith, one, free)))
    r.who
