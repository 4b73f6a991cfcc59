-- A call of the kernel does just the turn of its step.
use Rattle.std.proofs.Common.{◌≡◌, ℕ, ◌+◌, ◌==◌, Bool, true, false, List, [], ◌∷◌, length, length-append, append-nil, Some, None, Result, Ok, Err, IsTrue, IsFalse, if◌then◌else◌, refl, sym, ap, ◌∙◌, subst, arith, lt-ltb, nat_lt, ◌↔◌}
use Rattle.std.proofs.lemmas.Bool.{ne_eqb, false_from_ne_true, ltb-true, eq-eqb}
use Rattle.evl_base.specs.declared.call.Call.{Call}
use Rattle.evl_base.specs.declared.entry.Entry.{Entry}
use Rattle.evl_base.specs.declared.refusal.Refusal.{Refusal}
use Rattle.evl_base.specs.declared.refusal.Refusal.TheVariants.{NoMemory, HistoryFull}
use Rattle.evl_base.specs.declared.reply.Reply.{Reply}
use Rattle.evl_kernel.specs.histories.Histories.{History}
use Rattle.evl_kernel.specs.state.KernelViews.{KernelView, AddsEntry, makes_entry, entry_of}
use Rattle.evl_kernel.specs.histories.Replays.{Outcome, step_outcome}
use Rattle.evl_kernel.proofs.settling.Walking.{step_is_stepped}
use Rattle.evl_scenario.specs.declared.steps.Step.{Step}
use Rattle.evl_shell.specs.Moments.{moment, Tells, wants_memory, number_after}
use Rattle.evl_shell.specs.Runs.{Moment, Turn, turned_away, turn_entered, turn}

chosen-false : {A : Type 0} (b : Bool) (x y : A) → b ≡ false → (if b then x else y) ≡ y
chosen-false true x y h = cc
chosen-false false x y h = refl

chosen-true : {A : Type 0} (b : Bool) (x y : A) → b ≡ true → (if b then x else y) ≡ x
chosen-true true x y h = refl
chosen-true false x y h = cc

-- the turn of a step where the history is at its limit
pub turn-away : (limit : ℕ) (m : Moment) (step : Step) → m.entries ≡ limit → turn limit m step ≡ turned_away m
unfolding turn
turn-away limit m step e =
    chosen-true (m.entries == limit) (turned_away m) (turn_entered m (step_outcome m.state step.who.0 step.call)) (eq-eqb m.entries limit e)

-- the turn of a step where it is not
pub turn-entered : (limit : ℕ) (m : Moment) (step : Step) (o : Outcome) → (m.entries ≡ limit → ⊥) → step_outcome m.state step.who.0 step.call ≡ o → turn limit m step ≡ turn_entered m o
unfolding turn
turn-entered limit m step o below is =
    chosen-false (m.entries == limit) (turned_away m) (turn_entered m (step_outcome m.state step.who.0 step.call)) (ne_eqb m.entries limit below)
    ∙ ap (λ (x : Outcome). turn_entered m x) is

-- an answer that reports want of memory is that refusal
pub wanted : (reply : Result Reply Refusal) → wants_memory reply ≡ true → reply ≡ Err NoMemory
wanted (Ok reply) wants = cc
wanted (Err NoMemory) wants = refl
wanted (Err refusal) wants = cc

not_more : (n : ℕ) → number_after n n ≡ None
not_more n = chosen-false (nat_lt n n) (Some n) None (false_from_ne_true (nat_lt n n) (λ e. absurd (omega (arith, ltb-true n n e))))

one_more : (n : ℕ) → number_after n (n + 1) ≡ Some (n + 1)
one_more n = chosen-true (nat_lt n (n + 1)) (Some (n + 1)) None (lt-ltb n (n + 1) (omega arith))

-- a call that finds the history at its limit
away : {C : Type 0} (old new : KernelView C) (step : Step) (limit : ℕ) → length old.history.entries ≡ limit → new.history ≡ old.history → new.limit ≡ old.limit
    → Tells old new (number_after (length old.history.entries) (length new.history.entries)) (Err HistoryFull) (turn limit (moment old) step)
away old new step limit full same bound =
    let P : Turn → Type 0 = λ t. Tells old new (number_after (length old.history.entries) (length new.history.entries)) (Err HistoryFull) t in
    subst P (sym (turn-away limit (moment old) step full)) (record {
      turns = record {
        after = ap (λ (h : History). record { entries = length h.entries; state = h.state }) same;
        limit = bound;
        plays = ap (λ (h : History). h.plays) same ∙ sym (append-nil old.history.plays);
      };
      number_is = ap (λ (h : History). number_after (length old.history.entries) (length h.entries)) same ∙ not_more (length old.history.entries);
      answer_is = refl;
    })

-- a call that makes an entry
enters : {C : Type 0} (old new : KernelView C) (step : Step) (limit : ℕ) (reply : Result Reply Refusal) → (length old.history.entries ≡ limit → ⊥)
    → AddsEntry old.history step.who.0 step.call reply new.history → new.limit ≡ old.limit
    → Tells old new (number_after (length old.history.entries) (length new.history.entries)) reply (turn limit (moment old) step)
enters old new step limit reply below added bound =
    let plays = added.0 in
    let by = added.1 in
    let o : Outcome = record { reply = reply; plays = plays; touches = (step_outcome old.history.state step.who.0 step.call).touches; after = new.history.state } in
    let is : step_outcome old.history.state step.who.0 step.call ≡ o =
    step_is_stepped old.history.state step.who.0 step.call reply plays new.history.state by.extends.step.1 by.few in
    let count : length new.history.entries ≡ length old.history.entries + 1 =
    ap (λ (es : List Entry). length es) by.extends.entries ∙ length-append old.history.entries (entry_of step.who.0 step.call reply plays ∷ []) in
    let P : Turn → Type 0 = λ t. Tells old new (number_after (length old.history.entries) (length new.history.entries)) reply t in
    subst P (sym (turn-entered limit (moment old) step o below is)) (record {
      turns = record {
        after = ap (λ (n : ℕ). record { entries = n; state = new.history.state }) count;
        limit = bound;
        plays = by.extends.plays_too;
      };
      number_is = ap (λ (n : ℕ). number_after (length old.history.entries) n) count ∙ one_more (length old.history.entries);
      answer_is = refl;
    })

-- a call that isn't refused for want of memory
pub made : {C : Type 0} (old new : KernelView C) (step : Step) (asked : Call) (reply : Result Reply Refusal) → asked ≡ step.call
    → (IsTrue (makes_entry reply) → AddsEntry old.history step.who.0 asked reply new.history)
    → (IsFalse (makes_entry reply) → new.history ≡ old.history)
    → ((reply ≡ Err HistoryFull) ↔ (length old.history.entries ≡ old.limit))
    → new.limit ≡ old.limit → wants_memory reply ≡ false
    → Tells old new (number_after (length old.history.entries) (length new.history.entries)) reply (turn old.limit (moment old) step)
made old new step asked (Ok reply) is adds keeps full bound memory =
    enters old new step old.limit (Ok reply) (λ e. absurd (let h = full.1 e in cc)) (rw (← is) (adds refl)) bound
made old new step asked (Err NoMemory) is adds keeps full bound memory = cc
made old new step asked (Err HistoryFull) is adds keeps full bound memory = away old new step old.limit (full.0 refl) (keeps refl) bound
made old new step asked (Err refusal) is adds keeps full bound memory =
    enters old new step old.limit (Err refusal) (λ e. absurd (let h = full.1 e in cc)) (rw (← is) (adds refl)) bound
