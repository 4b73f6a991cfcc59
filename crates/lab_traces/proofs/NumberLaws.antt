-- Numbers in texts.
use Rattle.std.proofs.Common.{arith, ◌≡◌, ℕ, ◌<◌, ◌≤◌, ◌^◌, ◌==◌, nat_lt, lt-ltb, Bool, true, false, not, ◌||◌, List, [], ◌∷◌, codes, decimal, if◌then◌else◌, Option, Some, None, refl, sym, ap, ◌∙◌}
use Rattle.std.proofs.lemmas.Bool.{false_from_ne_true, false≢true}
use Rattle.std.proofs.lemmas.Bool.Decides.{nat_tests}
use Rattle.std.proofs.lemmas.Fmt.{decimal_is_IsNumeral}
use Rattle.std.proofs.lemmas.Slice.Eq.{bytes_eq-Decides}
use Rattle.std.specs.Char.{digit_value}
use Rattle.std.specs.List.{list_all}
use Rattle.std.specs.Str.{bytes_eq}
use Rattle.std.specs.Str.Parse.{AllDigits}
use Rattle.evl_scenario.specs.Values.{text_number, number_below}
use Rattle.lab_traces.specs.Parts.{Lacks}
use Rattle.evl_scenario.proofs.Numbers.{number_of_text-at, number_of_text-decimal}

-- a byte below that of the digit 0, or above that of the digit 9
abbrev pub is_no_digit : ℕ → Bool
is_no_digit c = nat_lt c 48 || nat_lt 57 c

other_digit : (c d : ℕ) → is_no_digit c ≡ true → digit_value d < 10 → not (d == c) ≡ true
other_digit c d other h = grind (arith, nat_tests)

lacks_digits : (c : ℕ) (ds : List ℕ) → is_no_digit c ≡ true → AllDigits 10 ds → Lacks c ds
lacks_digits c [] other h = refl
lacks_digits c (d ∷ ds) other h = rw (other_digit c d other h.0, lacks_digits c ds other h.1) refl

-- no other byte is among the digits of a number
pub decimal-lacks : (c n : ℕ) → is_no_digit c ≡ true → n < 2 ^ 64 → Lacks c (decimal n)
decimal-lacks c n other small = lacks_digits c (decimal n) other ((decimal_is_IsNumeral n small).0.1)

pub number-at : (n : ℕ) → n < 2 ^ 64 → text_number (decimal n) ≡ Some n
number-at n small = number_of_text-at n (decimal n) small refl

pub number-whole : (t : List ℕ) (n : ℕ) → text_number t ≡ Some n → t ≡ decimal n
number-whole t n h = (number_of_text-decimal t n h).0

pub below-at : (bound n : ℕ) → n < bound → number_below bound (Some n) ≡ Some n
below-at bound n h = rw (lt-ltb n bound h) refl

below_cases : (n m : ℕ) (v : Bool) → (if v then Some n else None) ≡ Some m → n ≡ m
below_cases n m true h = cc
below_cases n m false h = absurd (cc)

pub below-whole : (bound m : ℕ) (o : Option ℕ) → number_below bound o ≡ Some m → o ≡ Some m
below-whole bound m None h = absurd (cc)
below-whole bound m (Some n) h = ap Some (below_cases n m (nat_lt n bound) h)

pub small-at : (bound n : ℕ) → n < bound → bound ≤ 2 ^ 64 → number_below bound (text_number (decimal n)) ≡ Some n
small-at bound n h wide = let fits : n < 2 ^ 64 = omega arith in rw (number-at n fits) (below-at bound n h)

pub small-whole : (bound n : ℕ) (t : List ℕ) → number_below bound (text_number t) ≡ Some n → t ≡ decimal n
small-whole bound n t h = number-whole t n (below-whole bound n (text_number t) h)

-- the digits of a number aren't a dash
pub decimal-no_dash : (n : ℕ) → n < 2 ^ 64 → bytes_eq (decimal n) (codes "-") ≡ false
decimal-no_dash n small =
    false_from_ne_true (bytes_eq (decimal n) (codes "-")) (λ e.
    let same : decimal n ≡ codes "-" = (bytes_eq-Decides (decimal n) (codes "-")).0 e in
    false≢true (ap (list_all (λ x. not (x == 45))) (sym same) ∙ decimal-lacks 45 n refl small))
