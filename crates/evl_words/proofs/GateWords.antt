-- A gate's word says what was packed into it, and how each step changes it.
use Rattle.std.proofs.Common.{◌≡◌, ℕ, ◌+◌, ◌-◌, ◌*◌, ◌/◌, ◌%◌, ◌^◌, ◌<◌, Bool, true, false, refl, sym, ap, ◌∙◌, arith}
use Rattle.std.specs.Int.Bits.{and_block, or_block, or_zero_r}
use Rattle.std.proofs.lemmas.Nat.{and_mask}
use Rattle.std.proofs.lemmas.Nat.Bits.{and_high}
use mathlib.Core.Logic.{dite}
use native.Mathlib.Decide.{ℕ_discrete}
use Rattle.std.specs.Prelude.{◌≢◌, not, nat_eq, bit_and, bit_or}
use Rattle.evl_base.specs.declared.stage.Stage.{Stage}
use Rattle.evl_base.specs.declared.stage.Stage.TheVariants.{Inband, Oob}
use Rattle.evl_words.specs.GateWord.{packed_gate, count_in, stage_in, mark_in, stage_bit, mark_bit}

pub count_in-packed : (count : ℕ) (stage : Stage) (marked : Bool) → count < 65536 → count_in (packed_gate count stage marked) ≡ count
count_in-packed count Inband false small = omega arith
count_in-packed count Inband true small = omega arith
count_in-packed count Oob false small = omega arith
count_in-packed count Oob true small = omega arith

pub stage_in-packed : (count : ℕ) (stage : Stage) (marked : Bool) → count < 65536 → stage_in (packed_gate count stage marked) ≡ stage
stage_in-packed count Inband false small = let e : (count + 0 + 0) / 1073741824 % 2 ≡ 0 = omega arith in rw e refl
stage_in-packed count Inband true small = let e : (count + 0 + 2147483648) / 1073741824 % 2 ≡ 0 = omega arith in rw e refl
stage_in-packed count Oob false small = let e : (count + 1073741824 + 0) / 1073741824 % 2 ≡ 1 = omega arith in rw e refl
stage_in-packed count Oob true small = let e : (count + 1073741824 + 2147483648) / 1073741824 % 2 ≡ 1 = omega arith in rw e refl

pub mark_in-packed : (count : ℕ) (stage : Stage) (marked : Bool) → count < 65536 → mark_in (packed_gate count stage marked) ≡ marked
mark_in-packed count Inband false small = let e : (count + 0 + 0) / 2147483648 % 2 ≡ 0 = omega arith in rw e refl
mark_in-packed count Inband true small = let e : (count + 0 + 2147483648) / 2147483648 % 2 ≡ 1 = omega arith in rw e refl
mark_in-packed count Oob false small = let e : (count + 1073741824 + 0) / 2147483648 % 2 ≡ 0 = omega arith in rw e refl
mark_in-packed count Oob true small = let e : (count + 1073741824 + 2147483648) / 2147483648 % 2 ≡ 1 = omega arith in rw e refl

low : ℕ → Stage → ℕ
low count stage = count + stage_bit stage * 1073741824

low-lt : (count : ℕ) (stage : Stage) → count < 65536 → low count stage < 2147483648
unfolding low
low-lt count Inband small = omega arith
low-lt count Oob small = omega arith

-- the mark lies above the rest of the word
in_blocks : (count : ℕ) (stage : Stage) (marked : Bool) → packed_gate count stage marked ≡ mark_bit marked * 2 ^ 31 + low count stage
unfolding low
in_blocks count stage marked = omega arith

pub bit_or-packed : (count : ℕ) (stage : Stage) (marked : Bool) → count < 65536 → bit_or (packed_gate count stage marked) 2147483648 ≡ packed_gate count stage true
bit_or-packed count stage marked small =
    let below : low count stage < 2 ^ 31 = low-lt count stage small in
    ap (λ n. bit_or n 2147483648) (in_blocks count stage marked) ∙ or_block 31 (mark_bit marked) 1 (low count stage) 0 below (omega arith) ∙ last marked (or_zero_r (low count stage)) ∙ sym (in_blocks count stage true)
  where
    last : (m : Bool) → bit_or (low count stage) 0 ≡ low count stage → bit_or (mark_bit m) 1 * 2 ^ 31 + bit_or (low count stage) 0 ≡ 1 * 2 ^ 31 + low count stage
    last false e = ap (λ n. 2147483648 + n) e
    last true e = ap (λ n. 2147483648 + n) e

pub bit_and-packed : (count : ℕ) (stage : Stage) (marked : Bool) → count < 65536 → bit_and (packed_gate count stage marked) 18446744071562067967 ≡ packed_gate count stage false
bit_and-packed count stage marked small =
    let below : low count stage < 2 ^ 31 = low-lt count stage small in
    let mask : bit_and (low count stage) (2 ^ 31 - 1) ≡ low count stage % 2 ^ 31 = and_mask (low count stage) 31 in
    let same : bit_and (low count stage) 2147483647 ≡ low count stage = mask ∙ omega arith in
    ap (λ n. bit_and n 18446744071562067967) (in_blocks count stage marked) ∙ and_block 31 (mark_bit marked) 8589934590 (low count stage) 2147483647 below (omega arith) ∙ last marked same ∙ sym (in_blocks count stage false)
  where
    last : (m : Bool) → bit_and (low count stage) 2147483647 ≡ low count stage → bit_and (mark_bit m) 8589934590 * 2 ^ 31 + bit_and (low count stage) 2147483647 ≡ 0 * 2 ^ 31 + low count stage
    last false e = ap (λ n. 0 + n) e
    last true e = ap (λ n. 0 + n) e

-- one holder fewer
pub minus_one-packed : (count : ℕ) (stage : Stage) (marked : Bool) → count < 65536 → (packed_gate (count + 1) stage marked + (2 ^ 64 - 1)) % 2 ^ 64 ≡ packed_gate count stage marked
minus_one-packed count Inband false small = omega arith
minus_one-packed count Inband true small = omega arith
minus_one-packed count Oob false small = omega arith
minus_one-packed count Oob true small = omega arith

bit_30 : (n : ℕ) → bit_and n 1073741824 ≡ n / 1073741824 % 2 * 1073741824
bit_30 n = and_high n 1 30

bit_31 : (n : ℕ) → bit_and n 2147483648 ≡ n / 2147483648 % 2 * 2147483648
bit_31 n = and_high n 1 31

pub stage_clear : (n : ℕ) → bit_and n 1073741824 ≡ 0 → stage_in n ≡ Inband
stage_clear n e = let z : n / 1073741824 % 2 ≡ 0 = let b = bit_30 n in omega arith in rw z refl

pub stage_set : (n : ℕ) → bit_and n 1073741824 ≢ 0 → stage_in n ≡ Oob
stage_set n ne = let o : n / 1073741824 % 2 ≡ 1 = let b = bit_30 n in omega arith in rw o refl

pub mark_test : (n : ℕ) → not (nat_eq (bit_and n 2147483648) 0) ≡ mark_in n
mark_test n = dite (ℕ_discrete (n / 2147483648 % 2) 0)
    (λ (z : n / 2147483648 % 2 ≡ 0). let e : bit_and n 2147483648 ≡ 0 = let b = bit_31 n in omega arith in rw (e, z) refl)
    (λ (ne : n / 2147483648 % 2 ≢ 0). let o : n / 2147483648 % 2 ≡ 1 = omega arith in let e : bit_and n 2147483648 ≡ 2147483648 = let b = bit_31 n in omega arith in rw (e, o) refl)
