-- The numbers of a scenario's texts.
use Rattle.std.proofs.Common.{◌≡◌, ℕ, ◌<◌, ◌^◌, Bool, true, false, ◌&&◌, nat_lt, if◌then◌else◌, List, Option, Some, None, Result, Ok, Err, decimal, sym, refl, ◌∙◌, ap, lt-ltb}
use Rattle.std.specs.Str.{bytes_eq}
use Rattle.std.specs.Str.Parse.{digits_value, ParsesUnsigned}
use Rattle.std.proofs.lemmas.Bool.{and_parts, ltb-true, false≢true}
use Rattle.std.proofs.lemmas.Slice.Eq.{bytes_eq-Decides}
use Rattle.std.proofs.lemmas.Fmt.{parse-decimal, decimal_is_IsNumeral}
use Rattle.evl_scenario.specs.Values.{text_number}

split : (m n : ℕ) (t : List ℕ) (b : Bool) → (nat_lt m (2 ^ 64) && bytes_eq (decimal m) t) ≡ b
    → (if b then Some m else None) ≡ Some n → (t ≡ decimal n) × (n < 2 ^ 64)
split m n t true e h =
    let same : m ≡ n = cc in
    let parts = and_parts _ _ e in
    let text : decimal m ≡ t = (bytes_eq-Decides (decimal m) t).0 parts.1 in
    let small : m < 2 ^ 64 = ltb-true m (2 ^ 64) parts.0 in
    (cc, rw (← same) small)
split m n t false e h = cc

-- a text that is read as a number has that number's digits
pub number_of_text-decimal : (t : List ℕ) (n : ℕ) → text_number t ≡ Some n → (t ≡ decimal n) × (n < 2 ^ 64)
number_of_text-decimal t n h = split (digits_value 10 t) n t _ refl h

-- the digits of a number are read as that number
pub number_of_text-at : (n : ℕ) (t : List ℕ) → n < 2 ^ 64 → t ≡ decimal n → text_number t ≡ Some n
number_of_text-at n t small e =
    let value : digits_value 10 t ≡ n = ap (digits_value 10) e ∙ (decimal_is_IsNumeral n small).1 in
    let fits : nat_lt n (2 ^ 64) ≡ true = lt-ltb n (2 ^ 64) small in
    let text : bytes_eq (decimal n) t ≡ true = (bytes_eq-Decides (decimal n) t).1 (sym e) in
    rw (value, fits, text)

-- what is read as a number is parsed as it
pub parse-number_of_text : {E : Type 0} (t : List ℕ) (r : Result ℕ E) (n : ℕ) → ParsesUnsigned 64 10 t r → text_number t ≡ Some n → r ≡ Ok n
parse-number_of_text t r n parsed h =
    let is = number_of_text-decimal t n h in
    parse-decimal 64 n t r is.1 is.1 is.0 parsed

-- no number, where it is none that is known
pub none_unless : (o : Option ℕ) → ((n : ℕ) → o ≡ Some n → ⊥) → o ≡ None
none_unless None h = refl
none_unless (Some n) h = absurd (h n refl)

ok_is : {E : Type 0} (r : Result ℕ E) (m n : ℕ) → r ≡ Ok m → r ≡ Ok n → m ≡ n
ok_is r m n h k = cc

-- a text that its number prints is read as the number
pub number_of_text-printed : {E : Type 0} (t shown : List ℕ) (r : Result ℕ E) (n : ℕ) → n < 2 ^ 64 → shown ≡ decimal n
    → bytes_eq shown t ≡ true → Some n ≡ text_number t
number_of_text-printed t shown r n small is h =
    let same : shown ≡ t = (bytes_eq-Decides shown t).0 h in
    sym (number_of_text-at n t small (sym same ∙ is))

-- a text that its number prints otherwise isn't read as one
pub number_of_text-other : {E : Type 0} (t shown : List ℕ) (r : Result ℕ E) (n : ℕ) → ParsesUnsigned 64 10 t r → r ≡ Ok n → shown ≡ decimal n
    → bytes_eq shown t ≡ false → None ≡ text_number t
number_of_text-other t shown r n parsed ok is h =
    sym (none_unless (text_number t) (λ m e.
    let same : m ≡ n = ok_is r m n (parse-number_of_text t r m parsed e) ok in
    let text : t ≡ decimal m = (number_of_text-decimal t m e).0 in
    let equal : bytes_eq shown t ≡ true = (bytes_eq-Decides shown t).1 (is ∙ ap decimal (sym same) ∙ sym text) in
    false≢true (sym h ∙ equal)))

-- a text that isn't parsed isn't read
pub number_of_text-refused : {E : Type 0} (t : List ℕ) (r : Result ℕ E) (e : E) → ParsesUnsigned 64 10 t r → r ≡ Err e → None ≡ text_number t
number_of_text-refused t r e parsed err =
    sym (none_unless (text_number t) (λ m h.
    let ok : r ≡ Ok m = parse-number_of_text t r m parsed h in cc))
