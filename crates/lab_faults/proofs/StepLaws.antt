-- The result of a step's faults.
use Rattle.std.proofs.Common.{◌≡◌, ◌∙◌, ℕ, ◌+◌, ◌<◌, ◌≤◌, true, false, List, [], ◌∷◌, ◌++◌, codes, length, map, refl, sym, ap, arith, length-append}
use Rattle.std.proofs.lemmas.List.{append-nil, length-map}
use Rattle.lab_faults.specs.Steps.{call_faults, first_byte, is_step, item_at, or_unread, step_faults, step_told, unread_text}
use Rattle.lab_faults.specs.Told.{Adds, Told, fault_told}
use Rattle.lab_faults.specs.declared.found.Finding.{Finding}
use Rattle.lab_faults.specs.declared.found.Found.{Found}
use Rattle.lab_faults.specs.declared.items.Item.{Item}

-- as many more as were reported
longer : (old new : List Found) (faults : List Told) → map fault_told new ≡ map fault_told old ++ faults → length new ≡ length old + length faults
longer old new faults e =
    sym (length-map new fault_told) ∙ ap length e ∙ length-append (map fault_told old) faults ∙ ap (λ (n : ℕ). n + length faults) (length-map old fault_told)

some_by : (old new : Finding) (text : List ℕ) (number at : ℕ) (faults : List Told) → Adds old new faults
    → length old.found.items < length new.found.items → Adds old new (or_unread text number at faults)
some_by old new text number at [] adds h = absurd (omega (arith, h, longer old.found.items new.found.items [] adds.told))
some_by old new text number at (fault ∷ rest) adds h = adds

none_by : (old mid new : Finding) (number at : ℕ) (faults : List Told) → Adds old mid faults → length mid.found.items ≤ length old.found.items
    → Adds mid new (step_told mid.text.now number at (unread_text number) ∷ []) → Adds old new (or_unread old.text.now number at faults)
none_by old mid new number at [] first h then = record {
  text = then.text ∙ first.text;
  told = then.told
      ∙ ap (λ (before : List Told). before ++ step_told mid.text.now number at (unread_text number) ∷ []) (first.told ∙ append-nil (map fault_told old.found.items))
      ∙ ap (λ (text : List ℕ). map fault_told old.found.items ++ step_told text number at (unread_text number) ∷ []) (ap (λ t. t.now) first.text);
}
none_by old mid new number at (fault ∷ rest) first h then =
    absurd (omega (arith, h, longer old.found.items mid.found.items (fault ∷ rest) first.told))

module _ (number : ℕ) (items : List Item) where
  -- where the step can be read
  pub was_read : (old : Finding) → true ≡ is_step old.text.now items → Adds old old (step_faults old.text.now number items)
  unfolding step_faults
  was_read old e = rw (← e) (record { text = refl; told = sym (append-nil (map fault_told old.found.items)) })

  -- where something is known of it
  pub some_noted : (old new : Finding) → false ≡ is_step old.text.now items
      → Adds old new (call_faults old.text.now number items (first_byte items) (item_at old.text.now items (codes "do")))
      → length old.found.items < length new.found.items → Adds old new (step_faults old.text.now number items)
  unfolding step_faults
  some_noted old new e adds h = rw (← e) (some_by old new old.text.now number (first_byte items) _ adds h)

  -- where nothing is
  pub none_noted : (old mid new : Finding) → false ≡ is_step old.text.now items
      → Adds old mid (call_faults old.text.now number items (first_byte items) (item_at old.text.now items (codes "do")))
      → length mid.found.items ≤ length old.found.items
      → Adds mid new (step_told mid.text.now number (first_byte items) (unread_text number) ∷ []) → Adds old new (step_faults old.text.now number items)
  unfolding step_faults
  none_noted old mid new e first h then = rw (← e) (none_by old mid new number (first_byte items) _ first h then)
