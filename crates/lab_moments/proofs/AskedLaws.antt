-- All that is pending is counted below the lines for which no call asks.
use Rattle.std.proofs.Common.{◌≡◌, ◌≤◌, ◌<◌, ℕ, zero, suc, ◌+◌, ◌-◌, max, Bool, true, false, List, [], ◌∷◌, ◌++◌, if◌then◌else◌, Result, IsTrue, IsFalse, refl, sym, ap, ◌∙◌, subst, arith}
use Rattle.evl_base.specs.declared.call.Call.{Call}
use Rattle.evl_base.specs.declared.entry.Entry.{Entry}
use Rattle.evl_base.specs.declared.refusal.Refusal.{Refusal}
use Rattle.evl_base.specs.declared.reply.Reply.{Reply}
use Rattle.evl_base.specs.declared.stage.Stage.{Stage}
use Rattle.evl_pipeline.specs.Lines.{is_pending}
use Rattle.evl_kernel.specs.state.States.{State}
use Rattle.evl_kernel.specs.state.KernelViews.{AddsEntry, makes_entry}
use Rattle.evl_kernel.specs.histories.Histories.{History, IsLegal}
use Rattle.lab_moments.specs.Asked.{CountsAll, below_call, below_entries, below_steps}
use Rattle.evl_scenario.specs.declared.steps.Step.{Step}
use Rattle.lab_moments.specs.Standings.{pending_below, pending_count}
use Rattle.lab_moments.proofs.PendingLaws.{pending_more}
use Rattle.lab_moments.proofs.WithinLaws.{quiet_behind}

-- lines of which none is pending add nothing
none_added : (s : State) (stage : Stage) (below k : ℕ) → ((line : ℕ) → below ≤ line → line < below + k → is_pending s.lines stage line ≡ false) → pending_below s stage (below + k) ≡ pending_below s stage below
none_added s stage below zero none = let same : below + 0 ≡ below = omega arith in ap (λ (n : ℕ). pending_below s stage n) same
none_added s stage below (suc k) none =
    let next : below + suc k ≡ (below + k) + 1 = omega arith in
    let quiet : is_pending s.lines stage (below + k) ≡ false = none (below + k) (omega arith) (omega arith) in
    let nothing : pending_below s stage (below + k) + 0 ≡ pending_below s stage (below + k) = omega arith in
    ap (λ (n : ℕ). pending_below s stage n) next ∙ sym (pending_more s stage (below + k))
    ∙ ap (λ (b : Bool). pending_below s stage (below + k) + (if b then 1 else 0)) quiet ∙ nothing
    ∙ none_added s stage below k (λ line from to. none line from (omega (arith, to)))

pub counts_all : (h : History) (below : ℕ) → IsLegal h → below_entries h.entries ≤ below → 1 ≤ below → below ≤ 4096 → CountsAll h.state below
counts_all h below legal asked some few stage =
    let all : below + (4096 - below) ≡ 4096 = omega (arith, few) in
    sym (none_added h.state stage below (4096 - below) (λ line from to. quiet_behind below h legal asked some stage line from (omega (arith, to, few))))
    ∙ ap (λ (n : ℕ). pending_below h.state stage n) all

one_asked_more : (entries : List Entry) (e : Entry) (below : ℕ) → below_entries entries ≤ below → below_call e.call ≤ below → below_entries (entries ++ e ∷ []) ≤ below
one_asked_more [] e below few is = omega (arith, is)
one_asked_more (first ∷ entries) e below few is =
    let rest : below_entries (entries ++ e ∷ []) ≤ below = one_asked_more entries e below (omega (arith, few)) is in omega (arith, few, rest)

-- a call more
pub asked_more : (old new : History) (caller : ℕ) (asked : Call) (reply : Result Reply Refusal) (below : ℕ) → (IsTrue (makes_entry reply) → AddsEntry old caller asked reply new)
    → (IsFalse (makes_entry reply) → new ≡ old) → below_entries old.entries ≤ below → below_call asked ≤ below → below_entries new.entries ≤ below
asked_more old new caller asked reply below adds keeps few is = by (makes_entry reply) adds keeps
  where
    by : (b : Bool) → (IsTrue b → AddsEntry old caller asked reply new) → (IsFalse b → new ≡ old) → below_entries new.entries ≤ below
    by true entered same = let added = (entered refl).1.extends in subst (λ (es : List Entry). below_entries es ≤ below) (sym added.entries) (one_asked_more old.entries _ below few is)
    by false entered same = subst (λ (h : History). below_entries h.entries ≤ below) (sym (same refl)) few

-- the first of some steps, and the others
pub each_asks : (steps rest : List Step) (step : Step) (below : ℕ) → steps ≡ step ∷ rest → below_steps steps ≤ below → (below_call step.call ≤ below) × (below_steps rest ≤ below)
each_asks steps rest step below cut few =
    let both : max (below_call step.call) (below_steps rest) ≤ below = subst (λ (ss : List Step). below_steps ss ≤ below) cut few in
    (omega (arith, both), omega (arith, both))

-- those of a slice, and none
pub all_ask : (steps items : List Step) (below : ℕ) → items ≡ steps → below ≡ max 1 (below_steps items) → below_steps steps ≤ below
all_ask steps items below same is =
    let these : below ≡ max 1 (below_steps steps) = is ∙ ap (λ (ss : List Step). max 1 (below_steps ss)) same in omega (arith, these)

pub none_asked : (entries : List Entry) (below : ℕ) → entries ≡ [] → below_entries entries ≤ below
none_asked entries below none = let zero_is : below_entries entries ≡ 0 = ap below_entries none in omega (arith, zero_is)

pub same_asked : (steps items : List Step) (below : ℕ) → items ≡ steps → below_steps steps ≤ below → below_steps items ≤ below
same_asked steps items below same few = subst (λ (ss : List Step). below_steps ss ≤ below) (sym same) few
