-- Words that take no value.
use Rattle.std.proofs.Common.{◌≡◌, ℕ, List, Bool, true, false, Option, Some, None, Ok, Err, Result, codes, refl, sym, ap}
use Rattle.std.specs.Prelude.{unwrap_or}
use Rattle.std.specs.Option.{option_map_or}
use Rattle.std.specs.Str.{bytes_eq}
use Rattle.std.specs.Str.Parse.{ParsesBool}
use Rattle.std.proofs.lemmas.Bool.{false_from_ne_true}
use Rattle.std.proofs.lemmas.Slice.Eq.{bytes_eq-Decides}
use Rattle.clap.specs.Words.{Text, ReadsOne}

abbrev is_true : Text → Bool
is_true text = bytes_eq text (codes "true")

module _ (E : Type 0) where
  read : (t : Text) (r : Option Bool) → ReadsOne {E = E} ParsesBool t r → unwrap_or r false ≡ is_true t
  read t (Some true) h = ap is_true (sym h)
  read t (Some false) h = ap is_true (sym h)
  read t None h = sym (false_from_ne_true _ (λ is. h.1.0 ((bytes_eq-Decides t (codes "true")).0 is)))

  -- whether such a word is there, as it is read
  pub reads_flag : (o : Option Text) (r : Option Bool) → (o ≡ None → r ≡ None) → ((t : Text) → o ≡ Some t → ReadsOne {E = E} ParsesBool t r) → unwrap_or r false ≡ option_map_or is_true o false
  reads_flag None r none some = ap (λ (o : Option Bool). unwrap_or o false) (none refl)
  reads_flag (Some t) r none some = read t r (some t refl)
