-- No order ends with a text that no outcome has; and texts of answers that may never be.
use Rattle.std.proofs.Common.{◌≡◌, ◌≤◌, ℕ, ◌+◌, ◌*◌, Bool, true, false, not, cond, List, [], ◌∷◌, length, refl, sym, ◌∙◌, ap, arith, All}
use Rattle.std.specs.Prelude.{None, Some, nat_lt, position, string_bytes}
use Rattle.std.specs.List.{AllByRecursion, position_or_len}
use Rattle.std.proofs.lemmas.List.Elements.{All-from_recursion}
use Rattle.std.proofs.lemmas.List.Sums.{sum_by-cons}
use Rattle.std.proofs.lemmas.Bool.{ltb-false}
use Rattle.lab_orders.specs.Machines.{Run}
use Rattle.lab_orders.specs.Tallies.{told_weight}
use Rattle.lab_orders.specs.Weights.{total}
use Rattle.lab_orders.specs.declared.tallies.Tally.{Tally}
use Rattle.lab_scenario_orders.specs.Asks.{IsParted}

-- 1 for texts of some kind, and 0 for all others
abbrev pub counted : (List ℕ → Bool) → List ℕ → ℕ
counted is text = cond (is text) 1 0

not_first : (b : Bool) (n m : ℕ) → n + 1 ≤ cond (not b) (1 + m) 0 → (b ≡ false) × (n ≤ m)
not_first true n m le = absurd (omega (arith, le))
not_first false n m le = (refl, omega (arith, le))

nowhere : (b : Bool) (i : ℕ) → cond b (Some i) None ≡ None → b ≡ false
nowhere true i e = cc
nowhere false i e = refl

abbrev one_if : Bool → ℕ
one_if b = cond b 1 0

none_of : (b : Bool) → one_if b ≡ 0 → b ≡ false
none_of true e = absurd (omega (arith, e))
none_of false e = refl

nothing : (is : List ℕ → Bool) (tallies : List Tally) → length tallies ≤ position_or_len (λ tally. is (string_bytes tally.told)) tallies → told_weight (counted is) tallies ≡ 0
nothing is [] le = refl
nothing is (tally ∷ tallies) le =
    let each : told_weight (counted is) (tally ∷ tallies) ≡ tally.count * counted is (string_bytes tally.told) + told_weight (counted is) tallies =
    sum_by-cons (λ (t : Tally). t.count * counted is (string_bytes t.told)) tally tallies in
    let past = not_first (is (string_bytes tally.told)) (length tallies) (position_or_len (λ tally. is (string_bytes tally.told)) tallies) (omega (arith, le)) in
    let here : tally.count * counted is (string_bytes tally.told) ≡ tally.count * 0 = ap (λ (b : Bool). tally.count * cond b 1 0) past.0 in
    omega (arith, each, here, nothing is tallies past.1)

quiet : {S : Type 0} (told : S → List ℕ) (is : List ℕ → Bool) (rs : List (Run S)) → total (λ s. counted is (told s)) rs ≡ 0 → AllByRecursion (λ r. is (told r.at) ≡ false) rs
quiet told is [] none = tt
quiet {S} told is (r ∷ rs) none =
    let each : total (λ s. counted is (told s)) (r ∷ rs) ≡ counted is (told r.at) + total (λ s. counted is (told s)) rs = sum_by-cons (λ (r : Run S). counted is (told r.at)) r rs in
    (none_of (is (told r.at)) (omega (arith, each, none)), quiet told is rs (omega (arith, each, none)))

past_all : {X : Type 0} (p : X → Bool) (xs : List X) → position p xs ≡ None → length xs ≤ position_or_len p xs
past_all p xs none = ltb-false (position_or_len p xs) (length xs) (nowhere (nat_lt (position_or_len p xs) (length xs)) (position_or_len p xs) none)

pub no_order : {S : Type 0} (told : S → List ℕ) (is : List ℕ → Bool) (tallies : List Tally) (rs : List (Run S))
    → ((f : List ℕ → ℕ) → told_weight f tallies ≡ total (λ s. f (told s)) rs) → position (λ tally. is (string_bytes tally.told)) tallies ≡ None
    → All (λ r. is (told r.at) ≡ false) rs
no_order told is tallies rs same none =
    All-from_recursion (λ r. is (told r.at) ≡ false) rs
    (quiet told is rs (sym (same (counted is)) ∙ nothing is tallies (past_all (λ tally. is (string_bytes tally.told)) tallies none)))

-- the same parts, as other values of the code
pub parted_as : (text written who named answer given : List ℕ) → written ≡ text → named ≡ who → given ≡ answer → IsParted text who answer → IsParted written named given
parted_as text written who named answer given same_text same_who same_answer parts = record {
  before = parts.before;
  behind = parts.behind;
  arrow = same_text ∙ parts.arrow;
  named = same_who ∙ parts.named;
  given = same_answer ∙ parts.given;
}
