-- The play that the words of the program ask for.
use Rattle.std.proofs.Common.{◌≡◌, ℕ, List, Bool, true, false, Option, Some, None, Ok, Err, Result, option_and_then, if◌then◌else◌, refl, sym, ap, ◌∙◌, arith}
use Rattle.std.specs.Str.Parse.{ParsesUnsigned, digits_value, without_leading_plus}
use Rattle.clap.specs.ValueTests.{is_unsigned_in}
use Rattle.clap.specs.Words.{Text, ReadsOne}
use Rattle.clap.specs.declared.builder.value_parser.ValueParser.TheVariants.{Unsigned}
use Rattle.clap.proofs.ValueTestLemmas.{accepts-Accepts, Accepts-accepts}
use Rattle.evl_shell.specs.Arguments.{number_of}

chosen : (b : Bool) (n : ℕ) → b ≡ true → (if b then Some n else None) ≡ Some n
chosen true n h = refl
chosen false n h = cc

left_out : (b : Bool) (n : ℕ) → (b ≡ true → ⊥) → None ≡ (if b then Some n else None)
left_out true n h = absurd (h refl)
left_out false n h = refl

module _ {E : Type 0} (gives : List ℕ → Result ℕ E → Type 0) (parses : (t : Text) (r : Result ℕ E) → gives t r → ParsesUnsigned 32 10 t r) where
  read : (t : Text) (r : Option ℕ) → ReadsOne gives t r → r ≡ number_of t
  read t (Some v) h =
      let it = parses t (Ok v) h in
      let taken = Accepts-accepts false (Unsigned 0 4294967295) t (it.0.0, omega (arith, it.0.1), omega arith, omega (arith, it.0.1)) in
      ap (λ (n : ℕ). Some n) it.1 ∙ sym (chosen (is_unsigned_in 0 4294967295 t) (digits_value 10 (without_leading_plus t)) taken)
  read t None h =
      left_out (is_unsigned_in 0 4294967295 t) (digits_value 10 (without_leading_plus t)) (λ taken.
      let it = accepts-Accepts false (Unsigned 0 4294967295) t taken in
      absurd (parses t (Err h.0) h.1 (it.0, omega (arith, it.3))))

  -- what is read of a text is the number that it says
  pub reads_number : (o : Option Text) (r : Option ℕ) → (o ≡ None → r ≡ None) → ((t : Text) → o ≡ Some t → ReadsOne gives t r) → r ≡ option_and_then number_of o
  reads_number None r none some = none refl
  reads_number (Some t) r none some = read t r (some t refl)
