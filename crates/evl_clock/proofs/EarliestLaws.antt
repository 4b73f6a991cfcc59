-- The last entry of a clock's agenda has the least date of all that there are.
use Rattle.std.proofs.Common.{◌≡◌, ℕ, suc, zero, ◌+◌, ◌≤◌, ⊎_elim, Bool, true, false, nat_le, List, [], ◌∷◌, Option, Some, None, IfSome, slice_index_or, if◌then◌else◌, refl, sym, ap, ◌∙◌, subst, arith}
use Rattle.std.specs.List.{AllByRecursion}
use Rattle.std.proofs.lemmas.Bool.{leb-false, leb-true}
use Rattle.evl_clock.specs.declared.agenda.Entry.{Entry}
use Rattle.evl_clock.specs.Agenda.{IsKept, dates_of, entry, first_entry as first, is_before}
use Rattle.evl_clock.specs.Clocks.{Clock}
use Rattle.evl_clock.specs.Dues.{earliest_date, least_date, lesser}
use Rattle.evl_clock.proofs.AgendaLaws.{first-least, first-none, from-all, not-before}
use Rattle.evl_clock.proofs.KeptLaws.{first_dated, kept-ordered}

abbrev AreNotBefore : ℕ → List (Option ℕ) → Type 0
AreNotBefore date dates = (k t : ℕ) → slice_index_or dates k None ≡ Some t → date ≤ t

none_there : (dates : List (Option ℕ)) → ((k t : ℕ) → slice_index_or dates k None ≡ Some t → ⊥) → least_date dates ≡ None
none_there [] h = refl
none_there (None ∷ dates) h = none_there dates (λ k t e. h (suc k) t e)
none_there (Some date ∷ dates) h = absurd (h 0 date refl)

lesser_first : (date : ℕ) (o : Option ℕ) → IfSome o (λ t. date ≤ t) → lesser date o ≡ date
lesser_first date None h = refl
lesser_first date (Some other) h = by (nat_le date other) refl
  where
    by : (q : Bool) → nat_le date other ≡ q → (if q then date else other) ≡ date
    by true e = refl
    by false e = absurd (omega (arith, h, leb-false date other e))

lesser_other : (first date : ℕ) → date ≤ first → lesser first (Some date) ≡ date
lesser_other first date h = by (nat_le first date) refl
  where
    by : (q : Bool) → nat_le first date ≡ q → (if q then first else date) ≡ date
    by true e = omega (arith, h, leb-true first date e)
    by false e = refl

lesser_above : (date first : ℕ) (o : Option ℕ) → date ≤ first → IfSome o (λ t. date ≤ t) → date ≤ lesser first o
lesser_above date first None h k = h
lesser_above date first (Some other) h k = by (nat_le first other)
  where
    by : (q : Bool) → date ≤ (if q then first else other)
    by true = h
    by false = k

least_above : (date : ℕ) (dates : List (Option ℕ)) → AreNotBefore date dates → IfSome (least_date dates) (λ t. date ≤ t)
least_above date [] h = tt
least_above date (None ∷ dates) h = least_above date dates (λ k t e. h (suc k) t e)
least_above date (Some first ∷ dates) h = lesser_above date first (least_date dates) (h 0 first refl) (least_above date dates (λ k t e. h (suc k) t e))

no_date : (date : ℕ) (o : Option ℕ) → o ≡ None → o ≡ Some date → ⊥
no_date date o e f = cc

same_date : (a b : ℕ) → Some a ≡ Some b → a ≡ b
same_date a b e = cc

least_there : (dates : List (Option ℕ)) (k date : ℕ) → slice_index_or dates k None ≡ Some date → AreNotBefore date dates → least_date dates ≡ Some date
least_there [] k date e h = absurd (no_date date None refl e)
least_there (None ∷ dates) zero date e h = absurd (no_date date None refl e)
least_there (None ∷ dates) (suc k) date e h = least_there dates k date e (λ j t f. h (suc j) t f)
least_there (Some first ∷ dates) zero date e h =
    ap Some (ap (λ d. lesser d (least_date dates)) (same_date first date e)
    ∙ lesser_first date (least_date dates) (least_above date dates (λ j t f. h (suc j) t f)))
least_there (Some first ∷ dates) (suc k) date e h =
    ap Some (ap (lesser first) (least_there dates k date e (λ j t f. h (suc j) t f)) ∙ lesser_other first date (h 0 first refl))

module _ {C : Type 0} where
  each : (c : Clock C) (xs : List Entry) (room : ℕ) (P : Entry → Type 0) → IsKept c xs room → AllByRecursion P xs → (k t : ℕ) → slice_index_or (dates_of c) k None ≡ Some t → P (entry k t)
  each c xs room P h all k t e = subst (λ m. P (entry m t)) (from_zero k) (from-all P 0 (dates_of c) (subst (AllByRecursion P) h.agenda all) k t e)
    where
      from_zero : (k : ℕ) → 0 + k ≡ k
      from_zero k = omega arith

  pub earliest-none : (c : Clock C) (xs : List Entry) (room : ℕ) → IsKept c xs room → first xs ≡ None → earliest_date c ≡ None
  earliest-none c xs room h none =
      none_there (dates_of c) (each c xs room (λ x. ⊥) h (subst (AllByRecursion (λ x. ⊥)) (sym (first-none xs none)) tt))

  pub earliest-first : (c : Clock C) (xs : List Entry) (room : ℕ) (e : Entry) → IsKept c xs room → first xs ≡ Some e → earliest_date c ≡ Some e.date
  earliest-first c xs room e h is =
      least_there (dates_of c) e.place e.date (first_dated c xs room e h is)
      (λ k t there. ⊎_elim (λ l. omega (arith, l)) (λ l. omega (arith, l.0))
      (not-before (entry k t) e (each c xs room (λ x. is_before x e ≡ false) h (first-least xs e (kept-ordered c xs room h) is) k t there)))
