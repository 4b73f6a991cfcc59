-- All that is kept for each line, as it is written and read.
use Rattle.std.proofs.Common.{◌≡◌, ◌<◌, ◌≤◌, ℕ, zero, suc, ◌+◌, ◌-◌, List, [], ◌∷◌, ◌++◌, length, replicate, slice_index_or, slice_set, refl, sym, ap, ◌∙◌, arith}
use Rattle.std.proofs.lemmas.List.{append_assoc, length-append, length-set, set-append_left}
use Rattle.evl_pipeline.specs.ByLine.{filled_up}
use Rattle.evl_pipeline.specs.Limits.{line_count}

module _ {T : Type 0} (blank : T) where
  one-more : (n k : ℕ) → n ≡ suc k → replicate n blank ≡ blank ∷ replicate k blank
  one-more n k e = ap (λ (m : ℕ). replicate m blank) e

  -- one more blank is written
  pub blank-written : (written after : List T) → length written < line_count → after ≡ written ++ blank ∷ [] → filled_up blank after ≡ filled_up blank written
  blank-written written after few is =
      let long : length (written ++ blank ∷ []) ≡ length written + 1 = length-append written (blank ∷ []) in
      ap (filled_up blank) is
      ∙ ap (λ (n : ℕ). (written ++ blank ∷ []) ++ replicate (line_count - n) blank) long
      ∙ append_assoc written (blank ∷ []) (replicate (line_count - (length written + 1)) blank)
      ∙ ap (λ (xs : List T). written ++ xs) (sym (one-more (line_count - length written) (line_count - (length written + 1)) (omega (arith, few))))

  -- an item is written
  pub item-set : (written : List T) (i : ℕ) (x : T) → i < length written → filled_up blank (slice_set written i x) ≡ slice_set (filled_up blank written) i x
  item-set written i x there =
      ap (λ (n : ℕ). slice_set written i x ++ replicate (line_count - n) blank) (length-set written i x)
      ∙ sym (set-append_left written (replicate (line_count - length written) blank) i x there)

  -- blanks come after what was written
  blank-at : (k i : ℕ) → slice_index_or (replicate k blank) i blank ≡ blank
  blank-at zero i = refl
  blank-at (suc k) zero = refl
  blank-at (suc k) (suc i) = blank-at k i

  blank-behind : (written : List T) (k i : ℕ) → length written ≤ i → slice_index_or (written ++ replicate k blank) i blank ≡ blank
  blank-behind [] k i past = blank-at k i
  blank-behind (x ∷ written) k zero past = absurd (omega (arith, past))
  blank-behind (x ∷ written) k (suc i) past = blank-behind written k i (omega (arith, past))

  pub blank-past : (written : List T) (i : ℕ) → length written ≤ i → slice_index_or (filled_up blank written) i blank ≡ blank
  blank-past written i past = blank-behind written (line_count - length written) i past
