-- Texts that are taken apart as std's functions do it.
use Rattle.std.proofs.lemmas.Bool.Decides.{nat_tests}
use Rattle.std.proofs.lemmas.Fmt.{decimal_is_IsNumeral}
use Rattle.std.specs.Fmt.{digit_glyph, digits, digits_onto}
use Rattle.std.proofs.Common.{arith, ◌≡◌, ◌≤◌, ◌<◌, ℕ, zero, suc, ◌-◌, ◌^◌, ◌&&◌, nat_eq, nat_lt, ltb-true, lt-ltb, Bool, true, false, List, [], ◌∷◌, ◌++◌, length, take, drop, Option, Some, None, Result, Ok, Err, refl, sym, ap, subst, ◌∙◌, ◌%◌, ◌/◌, ◌==◌, ◌||◌, not, decimal, ◌+◌, if◌then◌else◌}
use Rattle.std.specs.List.{ends_with, starts_with}
use Rattle.std.specs.Str.{IsCharBoundary, all_ascii_digits}
use Rattle.std.specs.Str.Parse.{AllDigits, ParsesUnsigned, digits_value, without_leading_plus}
use Rattle.std.specs.Str.Pattern.{FindsText, FindsTextPrefix, FindsTextSuffix, LacksTextAt, SplitsAroundMatch, StripsPrefix, StripsSuffix}
use Rattle.std.proofs.lemmas.Bool.{and_parts, eq-eqb, eqb-true, false_from_ne_true}
use Rattle.std.proofs.lemmas.Slice.Eq.{starts_is}
use Rattle.std.proofs.lemmas.Str.Pattern.{ends_text}
use Rattle.std.proofs.lemmas.Str.Parse.{IsNumeralModel, digit_from_value, numerals_by_value, tells_all_ascii_digits, without_leading_plus_none}
use Rattle.lab_traces.specs.Parts.{Lacks, before_end}
use Rattle.lab_drawing.specs.Texts.{around_part, number_in, past_front}

-- ---- front parts and ends

starts : (t f : List ℕ) → (starts_with nat_eq t f ≡ true → t ≡ f ++ drop (length f) t) × ((rest : List ℕ) → t ≡ f ++ rest → starts_with nat_eq t f ≡ true)
starts t f = starts_is (λ a b. (eqb-true a b, eq-eqb a b)) t f _ refl

drop_front : (a b : List ℕ) → drop (length a) (a ++ b) ≡ b
drop_front [] b = refl
drop_front (x ∷ a) b = drop_front a b

pub past_at : (front text rest : List ℕ) → text ≡ front ++ rest → past_front front text ≡ Some rest
unfolding past_front
past_at front text rest e =
    let found : starts_with nat_eq text front ≡ true = (starts text front).1 rest e in
    let behind : drop (length front) text ≡ rest = ap (drop (length front)) e ∙ drop_front front rest in
    rw (found, behind) refl

pub past_lacks : (front text : List ℕ) → LacksTextAt front text 0 → past_front front text ≡ None
unfolding past_front
past_lacks front text lacks =
    let missing : starts_with nat_eq text front ≡ false = false_from_ne_true (starts_with nat_eq text front) (λ e. lacks _ ((starts text front).0 e)) in
    rw missing refl

pub past_found : (front text rest : List ℕ) → StripsPrefix (FindsTextPrefix front) text rest → Some rest ≡ past_front front text
past_found front text rest found =
    let cut : text ≡ front ++ rest = found.1.1 ∙ ap (λ (r : List ℕ). front ++ r) (sym found.2) in
    sym (past_at front text rest cut)

pub past_missing : (front text : List ℕ) → FindsTextPrefix front text None → None ≡ past_front front text
past_missing front text missing = sym (past_lacks front text missing)

pub before_found : (end text front : List ℕ) → StripsSuffix (FindsTextSuffix end) text front → Some front ≡ before_end end text
before_found end text front found =
    let ends : true ≡ ends_with nat_eq text end = ends_text true end text (found.0, found.1, omega (arith, found.3), let P : ℕ → Type 0 = λ n. IsCharBoundary text (length text - n) in subst P (sym found.1.0) found.1.2) in
    let same : front ≡ take (length text - length end) text = found.2 ∙ ap (λ (n : ℕ). take (length text - n) text) found.1.0 in
    rw (← ends, same)

pub before_missing : (end text : List ℕ) → FindsTextSuffix end text None → None ≡ before_end end text
before_missing end text missing =
    let ends : false ≡ ends_with nat_eq text end = ends_text false end text missing in
    rw (← ends)

-- ---- around the first part

abbrev at_front : List ℕ → Option (List ℕ × List ℕ)
at_front behind = Some ([], behind)

around_at : (part text rest : List ℕ) (i : ℕ) → i ≤ length text → ((k : ℕ) → k < i → LacksTextAt part text k) → drop i text ≡ part ++ rest → around_part part text ≡ Some (take i text, rest)
unfolding around_part
around_at part [] rest zero inside lacks e = rw (past_at part [] rest e) refl
around_at part [] rest (suc i) inside lacks e = absurd (omega (arith, inside))
around_at part (c ∷ text) rest zero inside lacks e = rw (past_at part (c ∷ text) rest e) refl
around_at part (c ∷ text) rest (suc i) inside lacks e =
    let none : past_front part (c ∷ text) ≡ None = past_lacks part (c ∷ text) (lacks 0 (omega arith)) in
    let more : around_part part text ≡ Some (take i text, rest) = around_at part text rest i (omega (arith, inside)) (λ k h. lacks (suc k) (omega (arith, h))) e in
    rw (none, more) refl

pub around_none : (part text : List ℕ) → ((i : ℕ) → i ≤ length text → LacksTextAt part text i) → around_part part text ≡ None
unfolding around_part
around_none part [] lacks = rw (past_lacks part [] (lacks 0 (omega arith))) refl
around_none part (c ∷ text) lacks =
    let none : past_front part (c ∷ text) ≡ None = past_lacks part (c ∷ text) (lacks 0 (omega arith)) in
    let more : around_part part text ≡ None = around_none part text (λ i h. lacks (suc i) (omega (arith, h))) in
    rw (none, more) refl

pub around_found : (part text front behind : List ℕ) → SplitsAroundMatch (FindsText part) text front behind → Some (front, behind) ≡ around_part part text
around_found part text front behind found =
    let i = found.0 in
    let cut : drop i text ≡ part ++ behind = found.2.1.split ∙ ap (λ (r : List ℕ). part ++ r) (sym found.4) in
    let inside : i ≤ length text = omega (arith, found.5, found.6, found.7) in
    ap (λ (f : List ℕ). Some (f, behind)) found.3 ∙ sym (around_at part text behind i inside found.2.0 cut)

pub around_missing : (part text : List ℕ) → FindsText part text None → None ≡ around_part part text
around_missing part text missing = sym (around_none part text missing)

-- ---- numbers

ascii_digits : IsNumeralModel (λ ds. all_ascii_digits ds ≡ true) (digits_value 10)
ascii_digits = numerals_by_value (λ ds. all_ascii_digits ds ≡ true) tells_all_ascii_digits

abbrev is_number : ℕ → List ℕ → Bool
is_number bits ds = nat_lt 0 (length ds) && all_ascii_digits ds && nat_lt (digits_value 10 ds) (2 ^ bits)

pub number_found : {E : Type 0} (bits n : ℕ) (text : List ℕ) (r : Result ℕ E) → ParsesUnsigned bits 10 text r → r ≡ Ok n → Some n ≡ number_in bits text
unfolding number_in
number_found bits n text (Err e) h is = absurd (cc)
number_found bits n text (Ok m) h is =
    let ds : List ℕ = without_leading_plus text in
    let some : nat_lt 0 (length ds) ≡ true = lt-ltb 0 (length ds) h.0.0.0 in
    let all : all_ascii_digits ds ≡ true = ascii_digits.from ds h.0.0.1 in
    let small : nat_lt (digits_value 10 ds) (2 ^ bits) ≡ true = lt-ltb (digits_value 10 ds) (2 ^ bits) h.0.1 in
    let same : n ≡ digits_value 10 ds = cc in
    rw (some, all, small, same) refl

pub number_missing : {E : Type 0} (bits : ℕ) (text : List ℕ) (r : Result ℕ E) (e : E) → ParsesUnsigned bits 10 text r → r ≡ Err e → None ≡ number_in bits text
unfolding number_in
number_missing bits text (Ok m) e h is = absurd (cc)
number_missing bits text (Err d) e h is =
    let ds : List ℕ = without_leading_plus text in
    let no : is_number bits ds ≡ false =
    false_from_ne_true (is_number bits ds) (λ t.
    let some : Bool = nat_lt 0 (length ds) in
    let fits : Bool = nat_lt (digits_value 10 ds) (2 ^ bits) in
    let both = and_parts (some && all_ascii_digits ds) fits t in
    let front = and_parts some (all_ascii_digits ds) both.0 in
    h ((ltb-true 0 (length ds) front.0, ascii_digits.to ds front.1), ltb-true (digits_value 10 ds) (2 ^ bits) both.1)) in
    rw no refl

no_plus : (ds : List ℕ) → AllDigits 10 ds → without_leading_plus ds ≡ ds
no_plus [] h = refl
no_plus (d ∷ ds) h = without_leading_plus_none (d ∷ ds) (λ plus. let digit = digit_from_value d h.0 in omega (arith, digit, plus))

-- what is written of a number is read as that number
pub number_again : (bits n : ℕ) → n < 2 ^ bits → n < 2 ^ 64 → number_in bits (decimal n) ≡ Some n
number_again bits n small wide =
    let is = decimal_is_IsNumeral n wide in
    let bare : without_leading_plus (decimal n) ≡ decimal n = no_plus (decimal n) is.0.1 in
    sym (number_found {E = ℕ} bits n (decimal n) (Ok n) (rw bare ((is.0, rw is.1 small), sym is.1)) refl)

pub number_back : (n : ℕ) → n < 2 ^ 16 → number_in 16 (decimal n) ≡ Some n
number_back n small = number_again 16 n small (omega arith)

-- ---- a number has no other bytes

abbrev pub is_no_digit : ℕ → Bool
is_no_digit c = nat_lt c 48 || nat_lt 57 c

glyph_apart : (c d : ℕ) → is_no_digit c ≡ true → d < 10 → not (48 + d == c) ≡ true
glyph_apart c d other small = grind (arith, nat_tests)

digit_apart : (c n : ℕ) → is_no_digit c ≡ true → not (digit_glyph false (n % 10) == c) ≡ true
digit_apart c n other =
    let small : n % 10 < 10 = omega arith in
    rw (lt-ltb (n % 10) 10 small) (glyph_apart c (n % 10) other small)

onto_lacks : (c k n : ℕ) (behind : List ℕ) → is_no_digit c ≡ true → Lacks c behind → Lacks c (digits_onto k 10 false n behind)
onto_lacks c zero n behind other h = h
onto_lacks c (suc k) n behind other h = by (n / 10 == 0) (onto_lacks c k (n / 10) (digit_glyph false (n % 10) ∷ behind) other more)
  where
    more : Lacks c (digit_glyph false (n % 10) ∷ behind)
    more = rw (digit_apart c n other, h) refl

    by : (b : Bool) → Lacks c (digits_onto k 10 false (n / 10) (digit_glyph false (n % 10) ∷ behind))
        → Lacks c (if b then digit_glyph false (n % 10) ∷ behind else digits_onto k 10 false (n / 10) (digit_glyph false (n % 10) ∷ behind))
    by true rest = more
    by false rest = rest

pub decimal_lacks : (c n : ℕ) → is_no_digit c ≡ true → Lacks c (decimal n)
unfolding digits
decimal_lacks c n other = onto_lacks c 64 n [] other refl
