-- A call's text, parted at its `=` and at its spaces.
use Rattle.std.proofs.Common.{arith, ◌≡◌, ◌≢◌, ◌⊎◌, inl, inr, ℕ, zero, suc, ◌+◌, add-one, ◌==◌, ◌<◌, true, false, not, List, [], ◌∷◌, ◌++◌, append_assoc, length, take, drop, get_or, Some, None, refl, ◌∙◌, ap, sym, subst}
use Rattle.std.proofs.lemmas.Bool.{and_parts, eq-eqb, not-true}
use Rattle.std.proofs.lemmas.Bool.Decides.{eqb_tells}
use Rattle.std.proofs.lemmas.List.{take-append-drop}
use Rattle.std.proofs.lemmas.List.Folds.{list_all-append}
use Rattle.std.proofs.lemmas.List.Splits.{join_with_byte-slice_split, length-slice_split, slice_split-cons_no, slice_split-cons_yes, slice_split_none}
use Rattle.std.proofs.lemmas.List.Sums.{fails_before_first}
use Rattle.std.proofs.lemmas.Str.Pattern.{NoCharPasses-char, drop_at_char, split_once_first}
use Rattle.std.specs.List.{join_with_byte, list_all, onto_first, position_or_len}
use Rattle.std.specs.Str.Pattern.{FindsChar, RFindsChar, SplitsAroundMatch}
use Rattle.lab_traces.specs.Parts.{Lacks}
use Rattle.lab_reports.specs.Calls.{IsAllValue, IsBeforeKey, Pair, around_last_space, pairs_behind, pairs_of, pieces}

-- ---- pieces

pub pieces-alone : (text : List ℕ) → position_or_len (λ b. b == 61) text ≡ length text → pieces text ≡ text ∷ []
pieces-alone text e = slice_split_none (λ b. b == 61) text (λ k d h. fails_before_first (λ b. b == 61) text k d (omega (arith, e, h)))

pub lacks_cut : (xs ys : List ℕ) → Lacks 61 xs → pieces (xs ++ 61 ∷ ys) ≡ xs ∷ pieces ys
lacks_cut [] ys h = slice_split-cons_yes (λ b. b == 61) 61 ys (eq-eqb 61 61 refl)
lacks_cut (x ∷ xs) ys h =
    let (here, more) = and_parts (not (x == 61)) (list_all (λ b. not (b == 61)) xs) h in
    slice_split-cons_no (λ b. b == 61) x (xs ++ 61 ∷ ys) (not-true _ here) ∙ ap (onto_first x) (lacks_cut xs ys more)

pub pieces-clean : (text : List ℕ) → Lacks 61 text → pieces text ≡ text ∷ []
pieces-clean [] h = refl
pieces-clean (x ∷ xs) h =
    let (here, more) = and_parts (not (x == 61)) (list_all (λ b. not (b == 61)) xs) h in
    slice_split-cons_no (λ b. b == 61) x xs (not-true _ here) ∙ ap (onto_first x) (pieces-clean xs more)

pub lacks_join : (front back : List ℕ) → Lacks 61 front → Lacks 61 back → Lacks 61 (front ++ 32 ∷ back)
lacks_join front back p q = list_all-append (λ x. not (x == 61)) front (32 ∷ back) ∙ rw (p, q) refl

-- ---- the last space

last_none : (text : List ℕ) → Lacks 32 text → around_last_space text ≡ None
last_none [] h = refl
last_none (x ∷ xs) h =
    let (here, more) = and_parts (not (x == 32)) (list_all (λ b. not (b == 32)) xs) h in
    rw (last_none xs more, not-true _ here) refl

pub last_at : (front back : List ℕ) → Lacks 32 back → around_last_space (front ++ 32 ∷ back) ≡ Some (front, back)
last_at [] back h = rw (last_none back h) refl
last_at (x ∷ front) back h = rw (last_at front back h) refl

other : (a b : ℕ) → a ≢ b → (a == b) ≡ false
other a b n = by (eqb_tells a b)
  where
    by : ((a == b) ≡ true) × (a ≡ b) ⊎ ((a == b) ≡ false) × (a ≢ b) → (a == b) ≡ false
    by (inl h) = absurd (n h.1)
    by (inr h) = h.0

lacks_by : (c : ℕ) (text : List ℕ) → ((i : ℕ) → i < length text → get_or text i 0 ≢ c) → Lacks c text
lacks_by c [] h = refl
lacks_by c (x ∷ xs) h =
    let here : x ≢ c = h 0 (omega arith) in
    rw (other x c here, lacks_by c xs (λ i l. h (suc i) (omega (arith, l)))) refl

spaceless : (text : List ℕ) → RFindsChar 32 text None → Lacks 32 text
spaceless text h = lacks_by 32 text (λ i l. NoCharPasses-char 32 text i h (omega arith) l)

spaced : (text front back : List ℕ) → SplitsAroundMatch (RFindsChar 32) text front back → (text ≡ front ++ 32 ∷ back) × Lacks 32 back
spaced text front back h =
    let i = h.0 in
    let j = h.1 in
    let behind : drop i text ≡ 32 ∷ drop j text = drop_at_char 32 text i j h.2.1 (omega arith) in
    let whole : text ≡ take i text ++ drop i text = sym (take-append-drop i text) in
    (whole ∙ rw (behind, ← h.3, ← h.4) refl, subst (Lacks 32) (sym h.4) (lacks_by 32 (drop j text) (λ k l. NoCharPasses-char 32 (drop j text) k h.2.0 (omega arith) l)))

-- ---- a value

pub some_pieces : (text : List ℕ) → 0 < length (pieces text)
some_pieces text = omega (arith, length-slice_split (λ b. b == 61) text)

value_alone : (key piece : List ℕ) (more : List (List ℕ)) → 0 < length more → around_last_space piece ≡ None → pairs_behind key (piece ∷ more) ≡ (key, join_with_byte 61 (piece ∷ more)) ∷ []
value_alone key piece [] h e = absurd (omega (arith, h))
value_alone key piece (next ∷ more) h e = rw e refl

pub value_with : (key piece value next : List ℕ) (more : List (List ℕ)) → 0 < length more → around_last_space piece ≡ Some (value, next) → pairs_behind key (piece ∷ more) ≡ (key, value) ∷ pairs_behind next more
value_with key piece value next [] h e = absurd (omega (arith, h))
value_with key piece value next (other ∷ more) h e = rw e refl

-- the text has no `=`
pub all_without : (text : List ℕ) → FindsChar 61 text None → IsAllValue text
all_without text h key =
    let alone : position_or_len (λ b. b == 61) text ≡ length text = split_once_first 61 text None h (omega arith) in
    rw (pieces-alone text alone) refl

-- what is before the first `=`, and what is after it
module _ (text front back : List ℕ) (whole : text ≡ front ++ 61 ∷ back) (apart : (i : ℕ) → i < length front → get_or front i 0 ≢ 61) where
  pub pieces-cut : pieces text ≡ front ∷ pieces back
  pieces-cut = ap pieces whole ∙ lacks_cut front back (lacks_by 61 front apart)

  -- no space is before it
  pub all_before : RFindsChar 32 front None → IsAllValue text
  all_before h key =
      rw pieces-cut (value_alone key front (pieces back) (some_pieces back) (last_none front (spaceless front h)))
      ∙ ap (λ (v : List ℕ). (key, v) ∷ []) (ap (join_with_byte 61) (sym pieces-cut) ∙ join_with_byte-slice_split 61 text)

  pub value_before : (value next : List ℕ) → SplitsAroundMatch (RFindsChar 32) front value next → IsBeforeKey text value
  value_before value next h =
      let (parted, lacks) = spaced front value next h in
      let both : Lacks 61 (value ++ 32 ∷ next) = subst (Lacks 61) parted (lacks_by 61 front apart) in
      let split = and_parts (list_all (λ x. not (x == 61)) value) (list_all (λ x. not (x == 61)) (32 ∷ next)) (sym (list_all-append (λ x. not (x == 61)) value (32 ∷ next)) ∙ both) in
      let clean : Lacks 61 next = split.1 in
      record {
        rest = next ++ 61 ∷ back;
        whole = whole ∙ ap (λ (x : List ℕ). x ++ 61 ∷ back) parted ∙ append_assoc value (32 ∷ next) (61 ∷ back);
        pairs = λ key. rw (pieces-cut, lacks_cut next back clean) (value_with key front value next (pieces back) (some_pieces back) (ap around_last_space parted ∙ last_at value next lacks));
      }

-- ---- all pairs

-- one pair more
pub pairs_more : (done : List Pair) (key value : List ℕ) (rest : List Pair) (n : ℕ) → (done ++ (key, value) ∷ []) ++ take n rest ≡ done ++ take (n + 1) ((key, value) ∷ rest)
pairs_more done key value rest n = append_assoc done ((key, value) ∷ []) (take n rest) ∙ rw add-one refl

pub no_pairs : (n : ℕ) → take {A = Pair} n [] ≡ []
no_pairs zero = refl
no_pairs (suc n) = refl

-- of a text without `=` there is none
pub pairs_done : (done : List Pair) (text : List ℕ) (n : ℕ) → FindsChar 61 text None → done ++ take n [] ≡ done ++ take (n + 1) (pairs_of (pieces text))
pairs_done done text n h =
    let alone : position_or_len (λ b. b == 61) text ≡ length text = split_once_first 61 text None h (omega arith) in
    rw (pieces-alone text alone, no_pairs n, no_pairs (n + 1)) refl
