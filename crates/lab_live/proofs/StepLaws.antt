-- The effect of a step on a history under a limit.
use Rattle.std.proofs.Common.{arith, ◌≡◌, ◌≢◌, ◌↔◌, ◌≤◌, ◌<◌, ◌+◌, ◌-◌, ◌∙◌, ℕ, suc, Bool, true, false, IsTrue, IsFalse, List, [], ◌∷◌, ◌++◌, length, map, take, Result, Err, inl, inr, refl, sym, ap, subst}
use Rattle.std.proofs.lemmas.Bool.{false≢true}
use Rattle.std.proofs.lemmas.List.{append_assoc, length-append, map-append}
use Rattle.evl_base.specs.declared.entry.Entry.{Entry}
use Rattle.evl_base.specs.declared.refusal.Refusal.{Refusal}
use Rattle.evl_base.specs.declared.refusal.Refusal.TheVariants.{HistoryFull}
use Rattle.evl_base.specs.declared.reply.Reply.{Reply}
use Rattle.evl_kernel.specs.histories.Histories.{History}
use Rattle.evl_kernel.specs.state.KernelViews.{AddsEntry, entry_of, makes_entry}
use Rattle.evl_scenario.specs.Writings.{step_of_entry}
use Rattle.evl_scenario.specs.declared.steps.Step.{Step}
use Rattle.lab_live.specs.Sessions.{Enters, KeepsWithin, MayEnter, asked_under}

-- ---- one step

pub enters : (old new : History) (step : Step) (r : Result Reply Refusal) → AddsEntry old step.who.0 step.call r new → Enters old step new
enters old new step r (plays, adds) = record {
  entry = entry_of step.who.0 step.call r plays;
  plays = plays;
  extends = adds.extends;
  asked = (refl, refl);
}

pub may_enter : (old new : History) (step : Step) → Enters old step new → MayEnter old step new
may_enter old new step enters = inr enters

pub may_stay : (old new : History) (step : Step) → new ≡ old → MayEnter old step new
may_stay old new step same = inl same

pub is_not_full : (r : Result Reply Refusal) (count limit : ℕ) → makes_entry r ≡ true → ((r ≡ Err HistoryFull) ↔ (count ≡ limit)) → count ≢ limit
is_not_full r count limit makes full at = false≢true (sym (ap makes_entry (full.1 at)) ∙ makes)

-- one more than what is no more than a limit, and isn't it
within_still : (count limit : ℕ) → count ≢ limit → count ≤ limit → count < limit
within_still count limit differs few = grind (arith)

pub keeps_entry : (limit : ℕ) (old new : History) (step : Step) → Enters old step new → length old.entries ≢ limit → KeepsWithin limit old new
keeps_entry limit old new step enters differs = record {
  board = enters.extends.board;
  bank = enters.extends.bank;
  within = λ few.
      let size = length-append old.entries (enters.entry ∷ []) in
      let less = within_still (length old.entries) limit differs few in
      subst (λ (es : List Entry). length es ≤ limit) (sym enters.extends.entries) (omega (arith, size, less));
}

pub keeps_same : (limit : ℕ) (old new : History) → new ≡ old → KeepsWithin limit old new
keeps_same limit old new same = record {
  board = ap (λ (h : History). h.board) same;
  bank = ap (λ (h : History). h.bank) same;
  within = λ few. subst (λ (h : History). length h.entries ≤ limit) (sym same) few;
}

-- ---- one of some steps

-- what a machine is asked for stays, when it makes the first of its steps
took_one : (limit n m : ℕ) (front : List Step) (step : Step) (rest : List Step) → n < limit → m ≡ n + 1
    → (front ++ step ∷ []) ++ take (limit - m) rest ≡ front ++ take (limit - n) (step ∷ rest)
took_one limit n m front step rest less more =
    let left : limit - n ≡ suc (limit - m) = omega (arith, less, more) in
    append_assoc front (step ∷ []) (take (limit - m) rest) ∙ ap (λ k. front ++ take k (step ∷ rest)) (sym left)

pub asked_entry : (limit : ℕ) (old new : History) (step : Step) (rest : List Step) → Enters old step new → length old.entries ≢ limit → length old.entries ≤ limit
    → asked_under limit new rest ≡ asked_under limit old (step ∷ rest)
asked_entry limit old new step rest enters differs few =
    let size = length-append old.entries (enters.entry ∷ []) in
    let all = enters.extends.entries in
    let count : length new.entries ≡ length old.entries + 1 = ap (λ (es : List Entry). length es) all ∙ omega (arith, size) in
    let its : step_of_entry enters.entry ≡ step = λ i. record { who = enters.asked.0 i; call = enters.asked.1 i } in
    let asked : map step_of_entry new.entries ≡ map step_of_entry old.entries ++ step ∷ [] =
    ap (λ (es : List Entry). map step_of_entry es) all ∙ map-append step_of_entry old.entries (enters.entry ∷ [])
    ∙ ap (λ (s : Step). map step_of_entry old.entries ++ s ∷ []) its in
    ap (λ (ss : List Step). ss ++ take (limit - length new.entries) rest) asked
    ∙ took_one limit (length old.entries) (length new.entries) (map step_of_entry old.entries) step rest (within_still (length old.entries) limit differs few) count

pub asked_full : (limit : ℕ) (old new : History) (step : Step) (rest : List Step) → new ≡ old → length old.entries ≡ limit
    → asked_under limit new rest ≡ asked_under limit old (step ∷ rest)
asked_full limit old new step rest same full =
    let none : limit - length old.entries ≡ 0 = omega (arith, full) in
    ap (λ (h : History). asked_under limit h rest) same
    ∙ ap (λ k. map step_of_entry old.entries ++ take k rest) none
    ∙ ap (λ k. map step_of_entry old.entries ++ take k (step ∷ rest)) (sym none)

pub keeps_on : (limit kept : ℕ) (first old new : History) → kept ≡ limit → KeepsWithin limit first old → KeepsWithin kept old new → KeepsWithin limit first new
keeps_on limit kept first old new same before after = record {
  board = after.board ∙ before.board;
  bank = after.bank ∙ before.bank;
  within = λ few. subst (λ (n : ℕ). length new.entries ≤ n) same (after.within (subst (λ (n : ℕ). length old.entries ≤ n) (sym same) (before.within few)));
}

-- what a machine is asked for stays, whether or not the first of its steps has an entry
pub asked_on : (limit kept : ℕ) (old new : History) (step : Step) (steps rest : List Step) (entered : Bool) → kept ≡ limit → length old.entries ≤ limit
    → steps ≡ step ∷ rest → (IsTrue entered → Enters old step new) → (IsTrue entered → length old.entries ≢ kept) → (IsFalse entered → new ≡ old)
    → (IsFalse entered → length old.entries ≡ kept) → asked_under limit new rest ≡ asked_under limit old steps
asked_on limit kept old new step steps rest true same few cut enters room none full =
    asked_entry limit old new step rest (enters refl) (λ e. room refl (e ∙ sym same)) few ∙ ap (asked_under limit old) (sym cut)
asked_on limit kept old new step steps rest false same few cut enters room none full =
    asked_full limit old new step rest (none refl) (full refl ∙ same) ∙ ap (asked_under limit old) (sym cut)
