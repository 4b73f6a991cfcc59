-- Callers are found by their names.
use Rattle.std.proofs.Common.{◌≡◌, ℕ, zero, suc, ◌+◌, Bool, true, false, ◌||◌, List, [], ◌∷◌, ◌++◌, length, map, refl, sym, ◌∙◌, ap, arith, take}
use Rattle.std.specs.Prelude.{◌<◌, Option, Some, None, option_map, slice_get}
use Rattle.std.specs.List.{list_any}
use Rattle.std.specs.Option.{option_map_or}
use Rattle.std.specs.Str.{bytes_eq}
use Rattle.std.proofs.lemmas.Bool.{false≢true}
use Rattle.std.proofs.lemmas.Slice.Eq.{bytes_eq-Decides}
use Rattle.lab_scenario_orders.specs.Asks.{caller_text, is_caller_text}
use Rattle.lab_scenario_orders.specs.OrderTexts.{caller_name}
use Rattle.lab_scenario_orders.specs.declared.callers.Caller.{Caller}

-- whether the caller with this number has this name
abbrev pub is_at : List Caller → ℕ → List ℕ → Bool
is_at callers n who = option_map_or (λ name. bytes_eq name who) (caller_name callers n) false

pub caller_is : (callers : List Caller) (n : ℕ) (who : List ℕ) → is_at callers n who ≡ true → (caller_name callers n ≡ Some who) × (n < length callers)
caller_is [] n who e = absurd (false≢true e)
caller_is (c ∷ cs) zero who e = (ap (λ (text : List ℕ). Some text) ((bytes_eq-Decides (caller_text c.who.0) who).0 e), omega arith)
caller_is (c ∷ cs) (suc n) who e = let there = caller_is cs n who e in (there.0, omega (arith, there.1))

-- nobody among one caller more
pub nobody_more : (callers : List Caller) (n : ℕ) (who : List ℕ) → is_at callers n who ≡ false → is_caller_text (take n callers) who ≡ false → is_caller_text (take (suc n) callers) who ≡ false
nobody_more [] n who none was = refl
nobody_more (c ∷ cs) zero who none was = ap (λ b. b || false) none
nobody_more (c ∷ cs) (suc n) who none was = by (bytes_eq (caller_text c.who.0) who) (λ rest. nobody_more cs n who none rest) was
  where
    by : (b : Bool) → (is_caller_text (take n cs) who ≡ false → is_caller_text (take (suc n) cs) who ≡ false) → (b || is_caller_text (take n cs) who) ≡ false
        → (b || is_caller_text (take (suc n) cs) who) ≡ false
    by true more e = e
    by false more e = more e
