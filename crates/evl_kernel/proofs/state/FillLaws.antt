-- A list whose items are written one after another: what was written, and the rest as it was.
use Rattle.std.proofs.Common.{◌≡◌, ◌<◌, ◌≤◌, ◌+◌, ℕ, zero, suc, List, [], ◌∷◌, ◌++◌, length, map, take, drop, replicate, slice_index_or, slice_set, refl, sym, ap, ◌∙◌, subst, arith, append-nil}
use Rattle.std.proofs.lemmas.List.{drop_all, length-map, length-take, map_more, take_all}

module _ {X : Type 0} where
  written_suc : (done old : List X) (y : X) → length done < length old → slice_set (done ++ drop (length done) old) (length done) y ≡ (done ++ y ∷ []) ++ drop (suc (length done)) old
  written_suc [] [] y inside = absurd (omega (arith, inside))
  written_suc [] (x ∷ xs) y inside = refl
  written_suc (d ∷ ds) [] y inside = absurd (omega (arith, inside))
  written_suc (d ∷ ds) (x ∷ xs) y inside = ap (λ (zs : List X). d ∷ zs) (written_suc ds xs y (omega (arith, inside)))

  pub written_more : (done old : List X) (i : ℕ) (y : X) → length done ≡ i → i < length old → slice_set (done ++ drop i old) i y ≡ (done ++ y ∷ []) ++ drop (i + 1) old
  written_more done old i y is inside =
      let next : suc (length done) ≡ i + 1 = omega (arith, is) in
      subst (λ (k : ℕ). slice_set (done ++ drop k old) k y ≡ (done ++ y ∷ []) ++ drop (i + 1) old) is
      (written_suc done old y (omega (arith, is, inside)) ∙ ap (λ (k : ℕ). (done ++ y ∷ []) ++ drop k old) next)

  pub written_all : (done old : List X) (i : ℕ) → length old ≤ i → done ++ drop i old ≡ done
  written_all done old i all = ap (λ (zs : List X). done ++ zs) (drop_all i old all) ∙ append-nil done

  pub one_more : (n : ℕ) (x : X) → replicate n x ++ x ∷ [] ≡ replicate (n + 1) x
  one_more zero x = refl
  one_more (suc n) x =
      let next : suc (n + 1) ≡ suc n + 1 = omega arith in
      ap (λ (zs : List X). x ∷ zs) (one_more n x) ∙ ap (λ (k : ℕ). replicate k x) next

-- each item is made of one of another list
module _ {X Y : Type 0} (f : Y → X) (made : List Y) where
  pub made_more : (old now : List X) (i : ℕ) (d : Y) → now ≡ map f (take i made) ++ drop i old → length old ≡ length made → i < length old
      → slice_set now i (f (slice_index_or made i d)) ≡ map f (take (i + 1) made) ++ drop (i + 1) old
  made_more old now i d is same inside =
      let long : length (map f (take i made)) ≡ i = length-map (take i made) f ∙ omega (arith, length-take i made, same, inside) in
      ap (λ (zs : List X). slice_set zs i (f (slice_index_or made i d))) is ∙ written_more (map f (take i made)) old i (f (slice_index_or made i d)) long inside
      ∙ ap (λ (zs : List X). zs ++ drop (i + 1) old) (sym (map_more f made i d (omega (arith, same, inside))))

  pub made_all : (old now : List X) (i : ℕ) → now ≡ map f (take i made) ++ drop i old → length old ≡ length made → length old ≤ i → now ≡ map f made
  made_all old now i is same all =
      is ∙ written_all (map f (take i made)) old i all ∙ ap (λ (ys : List Y). map f ys) (take_all i made (omega (arith, same, all)))
