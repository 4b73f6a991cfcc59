-- The faults of a bank, or the one as a whole.
use Rattle.std.proofs.Common.{◌≡◌, ◌∙◌, ◌⊎◌, inl, inr, ℕ, true, false, List, [], ◌∷◌, length, map, Ok, Err, refl, sym, ap, subst, arith}
use Rattle.std.specs.Prelude.{is_ok}
use Rattle.evl_kernel.specs.state.States.{Handler}
use Rattle.evl_plans.specs.Banks.{bank_of}
use Rattle.evl_plans.specs.declared.faults.BankFault.{BankFault}
use Rattle.evl_plans.specs.declared.faults.BankFault.TheVariants as bank
use Rattle.lab_faults.specs.Told.{Told, fault_told}
use Rattle.lab_faults.specs.declared.found.Found.{Found}
use Rattle.lab_kinds.specs.Banks.{BankFinds, BankTells, or_whole, whole_faults}

module _ (text : List ℕ) (fault : BankFault) where
  pub whole_told : (found : List Found) (faults now : List Told) → map fault_told found ≡ faults → length found ≡ 0 → now ≡ whole_faults text fault
      → now ≡ or_whole text fault faults
  whole_told [] faults now told none is = is ∙ ap (or_whole text fault) told
  whole_told (one ∷ rest) faults now told none is = absurd (omega (arith, none))

  pub some_told : (found : List Found) (faults : List Told) → map fault_told found ≡ faults → (length found ≡ 0 → ⊥)
      → map fault_told found ≡ or_whole text fault faults
  some_told [] faults told some = absurd (some refl)
  some_told (one ∷ rest) faults told some = ap (or_whole text fault) told

  pub tells_refused : (faults : List Told) → (fault ≡ bank.Memory → ⊥) → (fault ≡ bank.Memory) ⊎ (bank_of text ≡ Err fault) → BankFinds text fault faults
      → BankTells text faults
  tells_refused faults other (inl is) finds = absurd (other is)
  tells_refused faults other (inr is) finds = record {
    read = λ ok. let no : is_ok (bank_of text) ≡ false = ap is_ok is in cc;
    refused = λ again e. let same : fault ≡ again = cc (is, e) in subst (λ (f : BankFault). BankFinds text f faults) same finds;
  }

-- a bank that was read has none
pub tells_read : (text : List ℕ) (handlers : List Handler) (found : List Found) → bank_of text ≡ Ok handlers → found ≡ [] → BankTells text (map fault_told found)
tells_read text handlers found is none = record {
  read = λ ok. ap (λ (all : List Found). map fault_told all) none;
  refused = λ fault e. let both : Ok handlers ≡ Err fault = sym is ∙ e in absurd cc;
}
