-- The laws of a gate after any legal history, and how one step changes its holders.
use Rattle.std.proofs.Common.{◌≡◌, ℕ, ◌+◌, ◌<◌, ◌≤◌, ◌≢◌, eqb, eq-eqb, ne_eqb, cond, Bool, true, false, List, [], ◌∷◌, length, refl, sym, ap, ◌∙◌, subst, arith}
use Rattle.std.specs.Prelude.{Option, Some, None, is_some, IsSome, nat_lt, nat_le, All}
use Rattle.std.proofs.lemmas.Bool.Decides.{nat_tests}
use Rattle.std.proofs.lemmas.List.Elements.{All-nil, All-head, All-tail, All-cons}
use mathlib.Core.Logic.{dite}
use native.Mathlib.Decide.{ℕ_discrete}
use Rattle.evl_base.specs.declared.stage.Stage.{Stage}
use Rattle.evl_base.specs.declared.stage.Stage.TheVariants.{Inband, Oob}
use Rattle.evl_base.specs.declared.refusal.Refusal.{Refusal}
use Rattle.evl_words.specs.declared.gate.GateCall.{GateCall}
use Rattle.evl_words.specs.declared.gate.GateCall.TheVariants.{Enter, Leave, Claim, Unclaim, Peek}
use Rattle.evl_words.specs.Machine.{Run}
use Rattle.evl_words.specs.Gate.{Holder, Gate, GateEntry, open_gate, is_same_stage, stage_held, without, entry_refusal, gate_after, gate_may, gate_change, GateStep, HasOneStage}
use Rattle.evl_words.proofs.Machines.{run_keeps}

-- no seat is among the holders twice
abbrev pub AreDistinct : List Holder → Type 0
AreDistinct [] = Unit {0}
AreDistinct (h ∷ hs) = (stage_held h.seat hs ≡ None) × AreDistinct hs

pub record IsSound (limit : ℕ) (g : Gate) : Type 0 where
  pub one_stage : HasOneStage g
  pub distinct : AreDistinct g.holders
  pub within : length g.holders ≤ limit

is_same : (s w : Stage) → is_same_stage s w ≡ true → s ≡ w
is_same Inband Inband e = refl
is_same Inband Oob e = cc
is_same Oob Inband e = cc
is_same Oob Oob e = refl

-- a gate that refuses nobody of a stage has no holder of the other, and room
pub open_to : (limit count : ℕ) (s w : Stage) → entry_refusal limit count s w ≡ None → (0 < count → s ≡ w) × (count < limit)
open_to limit count s w e = go (nat_lt 0 count) refl (is_same_stage s w) refl (nat_le limit count) refl
  where
    go : (b : Bool) → nat_lt 0 count ≡ b → (c : Bool) → is_same_stage s w ≡ c → (d : Bool) → nat_le limit count ≡ d → (0 < count → s ≡ w) × (count < limit)
    go b p true q false r = (λ _. is_same s w q, grind (arith, nat_tests))
    go false p false q false r = (λ lt. absurd (grind (arith, nat_tests)), grind (arith, nat_tests))
    go true p false q d r = absurd (let h = rw (p, q) at e in cc)
    go false p c q true r = absurd (let h = rw (p, r) at e in cc)
    go true p true q true r = absurd (let h = rw (p, q, r) at e in cc)

without-absent : (k : ℕ) (hs : List Holder) → stage_held k hs ≡ None → without k hs ≡ hs
without-absent k [] e = refl
without-absent k (h ∷ hs) e = dite (ℕ_discrete h.seat k)
    (λ (same : h.seat ≡ k). absurd (let e' = rw (eq-eqb h.seat k same) at e in cc))
    (λ (ne : h.seat ≢ k). rw (ne_eqb h.seat k ne) (ap (λ l. h ∷ l) (without-absent k hs (rw (ne_eqb h.seat k ne) at e))))

pub stage_held-without : (k : ℕ) (hs : List Holder) → stage_held k (without k hs) ≡ None
stage_held-without k [] = refl
stage_held-without k (h ∷ hs) = dite (ℕ_discrete h.seat k)
    (λ (same : h.seat ≡ k). rw (eq-eqb h.seat k same) (stage_held-without k hs))
    (λ (ne : h.seat ≢ k). rw (ne_eqb h.seat k ne) (rw (ne_eqb h.seat k ne) (stage_held-without k hs)))

pub stage_held-without_other : (j k : ℕ) (hs : List Holder) → j ≢ k → stage_held j (without k hs) ≡ stage_held j hs
stage_held-without_other j k [] ne = refl
stage_held-without_other j k (h ∷ hs) ne = dite (ℕ_discrete h.seat k)
    (λ (same : h.seat ≡ k). let other : h.seat ≢ j = λ e. ne (sym e ∙ same) in rw (eq-eqb h.seat k same, ne_eqb h.seat j other) (stage_held-without_other j k hs ne))
    (λ (no : h.seat ≢ k). rw (ne_eqb h.seat k no) (ap (λ o. cond (eqb h.seat j) (Some h.stage) o) (stage_held-without_other j k hs ne)))

pub length-without : (k : ℕ) (hs : List Holder) → AreDistinct hs → IsSome (stage_held k hs) → length (without k hs) + 1 ≡ length hs
length-without k [] d some = cc
length-without k (h ∷ hs) d some = dite (ℕ_discrete h.seat k)
    (λ (same : h.seat ≡ k).
    let none : stage_held k hs ≡ None = subst (λ n. stage_held n hs ≡ None) same d.0 in
    let e : length (without k hs) ≡ length hs = ap length (without-absent k hs none) in
    rw (eq-eqb h.seat k same) (omega arith))
    (λ (ne : h.seat ≢ k). let rest = length-without k hs d.1 (rw (ne_eqb h.seat k ne) at some) in rw (ne_eqb h.seat k ne) (omega arith))

all_without : (k : ℕ) (P : Holder → Type 0) (hs : List Holder) → All P hs → All P (without k hs)
all_without k P [] h = h
all_without k P (x ∷ hs) h =
    let rest = all_without k P hs (All-tail P x hs h) in
    dite (ℕ_discrete x.seat k)
    (λ (same : x.seat ≡ k). subst (λ b. All P (cond b (without k hs) (x ∷ without k hs))) (sym (eq-eqb x.seat k same)) rest)
    (λ (ne : x.seat ≢ k). subst (λ b. All P (cond b (without k hs) (x ∷ without k hs))) (sym (ne_eqb x.seat k ne)) (All-cons P x (without k hs) (All-head P x hs h) rest))

distinct_without : (k : ℕ) (hs : List Holder) → AreDistinct hs → AreDistinct (without k hs)
distinct_without k [] d = tt
distinct_without k (h ∷ hs) d = dite (ℕ_discrete h.seat k)
    (λ (same : h.seat ≡ k). rw (eq-eqb h.seat k same) (distinct_without k hs d.1))
    (λ (ne : h.seat ≢ k). rw (ne_eqb h.seat k ne) (stage_held-without_other h.seat k hs ne ∙ d.0, distinct_without k hs d.1))

same_stage : (s w : Stage) (hs : List Holder) → All (λ h. h.stage ≡ s) hs → (0 < length hs → s ≡ w) → All (λ h. h.stage ≡ w) hs
same_stage s w [] all so = All-nil (λ h. h.stage ≡ w)
same_stage s w (x ∷ xs) all so = let P : Stage → Type 0 = λ z. All (λ h. h.stage ≡ z) (x ∷ xs) in subst P (so (omega arith)) all

-- each step keeps a gate sound
pub sound_change : (limit : ℕ) (g : Gate) (by : ℕ) (call : GateCall) → gate_may g by call → IsSound limit g → IsSound limit (gate_change limit g by call)
sound_change limit g by (Enter stage) may h = go (entry_refusal limit (length g.holders) g.stage stage) refl
  where
    go : (r : Option Refusal) → entry_refusal limit (length g.holders) g.stage stage ≡ r
        → IsSound limit (gate_after r g record { stage = stage; holders = record { seat = by; stage = stage } ∷ g.holders; marked = g.marked })
    go None e = let free = open_to limit (length g.holders) g.stage stage e in record {
      one_stage = All-cons (λ (z : Holder). z.stage ≡ stage) record { seat = by; stage = stage } g.holders refl (same_stage g.stage stage g.holders h.one_stage free.0);
      distinct = (may, h.distinct);
      within = omega (arith, free.1);
    }
    go (Some refusal) e = h
sound_change limit g by Leave may h = let fewer = length-without by g.holders h.distinct may in record {
  one_stage = all_without by (λ z. z.stage ≡ g.stage) g.holders h.one_stage;
  distinct = distinct_without by g.holders h.distinct;
  within = omega (arith, h.within);
}
sound_change limit g by Claim may h = record { one_stage = h.one_stage; distinct = h.distinct; within = h.within }
sound_change limit g by Unclaim may h = record { one_stage = h.one_stage; distinct = h.distinct; within = h.within }
sound_change limit g by Peek may h = h

-- a gate is sound after any legal history: among others, all its holders are of one stage
pub run_sound : (limit : ℕ) (g : Gate) (log : List GateEntry) → Run (GateStep limit) open_gate log g → IsSound limit g
run_sound limit g log run =
    run_keeps (GateStep limit) (IsSound limit) (λ s e t h step. subst (IsSound limit) (sym step.after) (sound_change limit s e.by e.call step.may h)) open_gate g log
    record { one_stage = All-nil (λ (z : Holder). z.stage ≡ Inband); distinct = tt; within = omega arith } run

-- a step changes nothing of what other seats hold
pub stage_held-change : (limit : ℕ) (g : Gate) (by j : ℕ) (call : GateCall) → j ≢ by → stage_held j (gate_change limit g by call).holders ≡ stage_held j g.holders
stage_held-change limit g by j (Enter stage) ne = go (entry_refusal limit (length g.holders) g.stage stage)
  where
    go : (r : Option Refusal) → stage_held j (gate_after r g record { stage = stage; holders = record { seat = by; stage = stage } ∷ g.holders; marked = g.marked }).holders ≡ stage_held j g.holders
    go None = rw (ne_eqb by j (λ e. ne (sym e))) refl
    go (Some refusal) = refl
stage_held-change limit g by j Leave ne = stage_held-without_other j by g.holders ne
stage_held-change limit g by j Claim ne = refl
stage_held-change limit g by j Unclaim ne = refl
stage_held-change limit g by j Peek ne = refl

abbrev pub one_for : Option Stage → ℕ
one_for stage = cond (is_some stage) 1 0

-- the number of holders changes by what the seat holds
pub length-change : (limit : ℕ) (g : Gate) (by : ℕ) (call : GateCall) → gate_may g by call → IsSound limit g
    → length (gate_change limit g by call).holders + one_for (stage_held by g.holders) ≡ length g.holders + one_for (stage_held by (gate_change limit g by call).holders)
length-change limit g by (Enter stage) may h = go (entry_refusal limit (length g.holders) g.stage stage)
  where
    go : (r : Option Refusal)
        → length (gate_after r g record { stage = stage; holders = record { seat = by; stage = stage } ∷ g.holders; marked = g.marked }).holders + one_for (stage_held by g.holders)
        ≡ length g.holders + one_for (stage_held by (gate_after r g record { stage = stage; holders = record { seat = by; stage = stage } ∷ g.holders; marked = g.marked }).holders)
    go None = rw (eq-eqb by by refl) (rw may (omega arith))
    go (Some refusal) = refl
length-change limit g by Leave may h =
    let fewer = length-without by g.holders h.distinct may in
    let one : one_for (stage_held by g.holders) ≡ 1 = rw may refl in
    rw (stage_held-without by g.holders) (omega arith)
length-change limit g by Claim may h = refl
length-change limit g by Unclaim may h = refl
length-change limit g by Peek may h = refl
