-- Texts are read back as what they were written from: numbers, and the words and numbers of policies, takes and kinds of mutexes.
use Rattle.std.proofs.Common.{arith, ◌≡◌, ℕ, zero, suc, ◌+◌, ◌/◌, ◌%◌, inl, inr, slice_index, ◌<◌, ◌≤◌, ◌^◌, nat_le, nat_lt, lt-ltb, Bool, true, false, not, ◌&&◌, List, [], ◌∷◌, ◌++◌, length, drop, codes, decimal, Some, refl, sym, ap, ◌∙◌, append_assoc, length-append}
use Rattle.std.proofs.lemmas.Bool.{and_parts, cases_lt, false_from_ne_true, false≢true}
use Rattle.std.proofs.lemmas.Bool.Decides.{nat_tests}
use Rattle.std.proofs.lemmas.Fmt.{decimal_is_IsNumeral}
use Rattle.std.proofs.lemmas.Slice.Eq.{bytes_eq-Decides}
use Rattle.std.specs.Str.{bytes_eq}
use Rattle.std.proofs.Math.Seq.{take-append_seam}
use Rattle.std.specs.Char.{digit_value}
use Rattle.std.specs.List.{list_all, position_or_len}
use Rattle.std.specs.Str.Parse.{AllDigits}
use Rattle.hex.specs.Hex.{IsBytes, encode_lower, encode_with, lower_digits}
use Rattle.evl_base.specs.Policy.{policy_text}
use Rattle.evl_base.specs.Take.{take_text}
use Rattle.evl_base.specs.declared.policy.Policy.{Policy}
use Rattle.evl_base.specs.declared.policy.Policy.TheVariants.{Fifo, Rr, Quota, Weak}
use Rattle.evl_base.specs.declared.take.Take.{Take}
use Rattle.evl_base.specs.declared.take.Take.TheVariants.{Any, Of, Exact}
use Rattle.evl_base.specs.declared.mutex_kind.MutexKind.{MutexKind}
use Rattle.evl_base.specs.declared.mutex_kind.MutexKind.TheVariants.{Normal, Recursive, Ceiling}
use Rattle.evl_scenario.specs.Policies.{policy_of, small_number}
use Rattle.evl_scenario.specs.Takes.{take_of, mask_of}
use Rattle.evl_scenario.specs.Values.{text_number, number_below, is_space, around_space, mutex_kind_of}
use Rattle.evl_scenario.specs.Widths.{PolicyFits, TakeFits}
use Rattle.evl_scenario.specs.Writings.{kind_text}
use Rattle.evl_scenario.proofs.Numbers.{number_of_text-at}
use Rattle.evl_scenario.proofs.PlainTexts.{is_plain, IsPlain, plain-append}

-- ---- digits

abbrev pub is_digit : ℕ → Bool
is_digit c = nat_le 48 c && nat_le c 57

digit_from_value : (c : ℕ) → digit_value c < 10 → is_digit c ≡ true
digit_from_value c h = grind (arith, nat_tests)

plain_digit : (c : ℕ) → is_digit c ≡ true → is_plain c ≡ true
plain_digit c h = grind (arith, nat_tests)

no_space_digit : (c : ℕ) → is_digit c ≡ true → is_space c ≡ false
no_space_digit c h = grind (arith, nat_tests)

plain_digits : (ds : List ℕ) → AllDigits 10 ds → IsPlain ds
plain_digits [] h = refl
plain_digits (c ∷ ds) h = rw (plain_digit c (digit_from_value c h.0), plain_digits ds h.1) refl

all_digits : (ds : List ℕ) → AllDigits 10 ds → list_all is_digit ds ≡ true
all_digits [] h = refl
all_digits (c ∷ ds) h = rw (digit_from_value c h.0, all_digits ds h.1) refl

-- the digits of a number aren't a text with another byte
pub decimal-other : (n : ℕ) (text : List ℕ) → n < 2 ^ 64 → list_all is_digit text ≡ false → bytes_eq (decimal n) text ≡ false
decimal-other n text small other =
    false_from_ne_true (bytes_eq (decimal n) text) (λ e.
    let same : decimal n ≡ text = (bytes_eq-Decides (decimal n) text).0 e in
    false≢true (sym other ∙ ap (list_all is_digit) (sym same) ∙ all_digits (decimal n) ((decimal_is_IsNumeral n small).0.1)))

-- the digits of a number are plain
pub plain-decimal : (n : ℕ) → n < 2 ^ 64 → IsPlain (decimal n)
plain-decimal n small = plain_digits (decimal n) ((decimal_is_IsNumeral n small).0.1)

abbrev HasNoSpace : List ℕ → Type 0
HasNoSpace text = list_all (λ c. not (is_space c)) text ≡ true

spaceless_digits : (ds : List ℕ) → AllDigits 10 ds → HasNoSpace ds
spaceless_digits [] h = refl
spaceless_digits (c ∷ ds) h = rw (no_space_digit c (digit_from_value c h.0), spaceless_digits ds h.1) refl

spaceless-decimal : (n : ℕ) → n < 2 ^ 64 → HasNoSpace (decimal n)
spaceless-decimal n small = spaceless_digits (decimal n) ((decimal_is_IsNumeral n small).0.1)

-- ---- words around a space

first_space : (a b : List ℕ) → HasNoSpace a → position_or_len is_space (a ++ 32 ∷ b) ≡ length a
first_space [] b h = refl
first_space (c ∷ a) b h =
    let (here, more) = and_parts (not (is_space c)) (list_all (λ x. not (is_space x)) a) h in
    rw (here, first_space a b more) (omega arith)

drop_past : (a b : List ℕ) → drop (length a + 1) (a ++ 32 ∷ b) ≡ b
drop_past [] b = refl
drop_past (c ∷ a) b = let e : length (c ∷ a) + 1 ≡ suc (length a + 1) = omega arith in rw e (drop_past a b)

parts_at : (a b : List ℕ) → HasNoSpace a → around_space (a ++ 32 ∷ b) ≡ Some (a, b)
parts_at a b h =
    let size = length-append a (32 ∷ b) in
    let inside : nat_lt (length a) (length (a ++ 32 ∷ b)) ≡ true = lt-ltb _ _ (omega (arith, size)) in
    rw (first_space a b h, inside, take-append_seam a (32 ∷ b), drop_past a b) refl

-- ---- numbers

pub number-read : (n : ℕ) → n < 2 ^ 64 → text_number (decimal n) ≡ Some n
number-read n small = number_of_text-at n (decimal n) small refl

pub below-read : (bound n : ℕ) → n < bound → number_below bound (Some n) ≡ Some n
below-read bound n h = rw (lt-ltb n bound h) refl

below_text : (bound n : ℕ) → n < bound → bound ≤ 2 ^ 64 → number_below bound (text_number (decimal n)) ≡ Some n
below_text bound n h small = rw (number-read n (omega arith)) (below-read bound n h)

small-read : (n : ℕ) → n < 2 ^ 8 → small_number (decimal n) ≡ Some n
small-read n h = below_text (2 ^ 8) n h (omega arith)

-- ---- policies, takes and kinds of mutexes

rr_text : (prio slice : ℕ) → policy_text (Rr prio slice) ≡ codes "rr" ++ 32 ∷ (decimal prio ++ 32 ∷ decimal slice)
rr_text prio slice = simp append_assoc refl

quota_text : (group prio : ℕ) → policy_text (Quota group prio) ≡ codes "quota" ++ 32 ∷ (decimal group ++ 32 ∷ decimal prio)
quota_text group prio = simp append_assoc refl

pub policy-read : (p : Policy) → PolicyFits p → policy_of (policy_text p) ≡ Some p
policy-read (Fifo prio) h = rw (parts_at (codes "fifo") (decimal prio) refl, small-read prio h) refl
policy-read (Rr prio slice) h =
    ap policy_of (rr_text prio slice) ∙ rw (parts_at (codes "rr") (decimal prio ++ 32 ∷ decimal slice) refl, parts_at (decimal prio) (decimal slice) (spaceless-decimal prio (omega (arith, h))), small-read prio h.0, number-read slice h.1) refl
policy-read (Quota group prio) h =
    ap policy_of (quota_text group prio) ∙ rw (parts_at (codes "quota") (decimal group ++ 32 ∷ decimal prio) refl, parts_at (decimal group) (decimal prio) (spaceless-decimal group (omega (arith, h))), below_text (2 ^ 16) group h.0 (omega arith), small-read prio h.1) refl
policy-read (Weak prio) h = rw (parts_at (codes "weak") (decimal prio) refl, small-read prio h) refl

mask-read : (n : ℕ) → n < 2 ^ 32 → mask_of (decimal n) ≡ Some n
mask-read n h = below_text (2 ^ 32) n h (omega arith)

pub take-read : (t : Take) → TakeFits t → take_of (take_text t) ≡ Some t
take-read Any h = refl
take-read (Of mask) h = rw (parts_at (codes "of") (decimal mask) refl, mask-read mask h) refl
take-read (Exact mask) h = rw (parts_at (codes "exact") (decimal mask) refl, mask-read mask h) refl

abbrev pub KindFits : MutexKind → Type 0
KindFits Normal = Unit {0}
KindFits Recursive = Unit {0}
KindFits (Ceiling prio) = prio < 2 ^ 8

pub kind-read : (k : MutexKind) → KindFits k → mutex_kind_of (kind_text k) ≡ Some k
kind-read Normal h = refl
kind-read Recursive h = refl
kind-read (Ceiling prio) h = rw (below_text (2 ^ 8) prio h (omega arith)) refl

-- ---- they are plain

pub policy-plain : (p : Policy) → PolicyFits p → IsPlain (policy_text p)
policy-plain (Fifo prio) h = plain-decimal prio (omega (arith, h))
policy-plain (Rr prio slice) h =
    ap (list_all is_plain) (rr_text prio slice) ∙ plain-append (decimal prio) (32 ∷ decimal slice) (plain-decimal prio (omega (arith, h.0))) (plain-decimal slice h.1)
policy-plain (Quota group prio) h =
    ap (list_all is_plain) (quota_text group prio)
    ∙ plain-append (decimal group) (32 ∷ decimal prio) (plain-decimal group (omega (arith, h.0))) (plain-decimal prio (omega (arith, h.1)))
policy-plain (Weak prio) h = plain-decimal prio (omega (arith, h))

pub take-plain : (t : Take) → TakeFits t → IsPlain (take_text t)
take-plain Any h = refl
take-plain (Of mask) h = plain-decimal mask (omega (arith, h))
take-plain (Exact mask) h = plain-decimal mask (omega (arith, h))

pub kind-plain : (k : MutexKind) → KindFits k → IsPlain (kind_text k)
kind-plain Normal h = refl
kind-plain Recursive h = refl
kind-plain (Ceiling prio) h = plain-decimal prio (omega (arith, h))

-- ---- bytes

plain_below : ℕ → Bool
plain_below zero = true
plain_below (suc n) = is_plain (slice_index lower_digits n) && plain_below n

plain_below-at : (n k : ℕ) → plain_below n ≡ true → k < n → is_plain (slice_index lower_digits k) ≡ true
unfolding plain_below
plain_below-at zero k h lt = absurd (omega arith)
plain_below-at (suc n) k h lt =
    let parts = and_parts (is_plain (slice_index lower_digits n)) (plain_below n) h in
    elim (cases_lt k n) [
      | inl number_below ↦ plain_below-at n k parts.1 number_below
      | inr top ↦
          let e : k ≡ n = omega arith in
          rw e parts.0
    ]

plain_hex_digit : (d : ℕ) → d < 16 → is_plain (slice_index lower_digits d) ≡ true
unfolding plain_below
plain_hex_digit d h = plain_below-at 16 d refl h

-- the digits of bytes are plain
pub plain-hex : (bytes : List ℕ) → IsBytes bytes → IsPlain (encode_lower bytes)
unfolding encode_with
plain-hex [] h = refl
plain-hex (b ∷ rest) h =
    let byte : b < 256 = h 0 in
    rw (plain_hex_digit (b / 16) (omega arith), plain_hex_digit (b % 16) (omega arith), plain-hex rest (λ i. h (suc i))) refl
