-- The output for scenarios that are checked, one after the other.
use Rattle.std.proofs.Common.{◌≡◌, ◌≤◌, ◌∙◌, length, ℕ, List, [], ◌∷◌, ◌++◌, append-nil, Bool, true, false, Option, Some, None, Result, Ok, Err, IfOk, OnOk, map, refl, sym, ap, ap₂, subst, string_bytes, arith, max}
use Rattle.std.specs.Prelude.{IsSomeAnd, codes}
use Rattle.std.specs.List.{All, concat}
use Rattle.std.specs.Io.KnownBytes.{Appends}
use Rattle.std.proofs.KnownBytes.{Appends-nil, Appends-trans}
use Rattle.std.proofs.lemmas.List.{map-append}
use Rattle.std.proofs.lemmas.List.Elements.{All-append, All-cons, All-nil}
use Rattle.std.proofs.lemmas.List.Folds.{concat-append}
use Rattle.evl_kernel.specs.state.States.{Handler}
use Rattle.lab_plays.specs.Checks.{Checked, ChecksEach, ChecksJudged, ChecksText, IsChecked, Prints, PrintsStatus}
use Rattle.lab_streams.specs.Endings.{line_about, status_of}
use Rattle.lab_plays.specs.Expects.{JudgesText}
use Rattle.lab_plays.specs.Plays.{worst}
use Rattle.lab_streams.specs.Readings.{most_bytes, too_long_words, unread_words}
use Rattle.lab_plays.specs.declared.expects.Judged.{Judged}
use Rattle.lab_streams.specs.declared.texts.Unread.{Unread}
use Rattle.lab_streams.specs.declared.texts.Unread.TheVariants.{NoFile, TooLong, Memory}

-- ---- a text

-- what is printed of the one is printed of the other
pub printed_as : {E : Type 0} (Is Was : List ℕ → Bool → Type 0) (old new : Option (List ℕ)) (r : Result Bool E)
    → ((printed : List ℕ) (b : Bool) → Was printed b → Is printed b) → IfOk r (Prints Was old new) → IfOk r (Prints Is old new)
printed_as Is Was old new (Ok b) same p = record { printed = p.printed; tells = same p.printed b p.tells; prints = p.prints }
printed_as Is Was old new (Err e) same p = tt

-- of a fault that has a line, just that is printed
pub printed_of : {E : Type 0} (Is : List ℕ → Bool → Type 0) (line : Option (List ℕ)) (old new : Option (List ℕ)) (r : Result Bool E)
    → ((printed : List ℕ) → IsSomeAnd line (λ l. printed ≡ l) → (b : Bool) → b ≡ true → Is printed b) → IfOk r (λ b. b ≡ true)
    → OnOk r (IsSomeAnd line (λ l. Appends old new l)) → IfOk r (Prints Is old new)
printed_of Is (Some l) old new (Ok b) is answers prints = record { printed = l; tells = is l refl b answers; prints = prints }
printed_of Is None old new (Ok b) is answers prints = absurd prints
printed_of Is line old new (Err e) is answers prints = tt

-- one that was read is checked and judged
pub judged_printed : (E : Type 0) (bank : List Handler) (name text : List ℕ) (old mid new : Option (List ℕ)) (bad : Bool) (status : ℕ) (own : Judged) (r : Result ℕ E)
    → Prints (ChecksText bank name text) old mid bad → JudgesText bank None name text own → status ≡ status_of bad → IfOk r (λ s. s ≡ max status own.status)
    → OnOk r (Appends mid new (string_bytes own.said)) → IfOk r (PrintsStatus (ChecksJudged bank name text) old new)
judged_printed E bank name text old mid new bad status own (Ok s) p judges is ends says = record {
  printed = p.printed ++ string_bytes own.said;
  tells = (p.printed, bad, own, p.tells, judges, refl, ends ∙ ap (λ (n : ℕ). max n own.status) is);
  prints = Appends-trans old mid new _ _ p.prints says;
}
judged_printed E bank name text old mid new bad status own (Err e) p judges is ends says = tt

-- ---- several

module _ (bank : List Handler) where
  pub each_none : (old : Option (List ℕ)) → ChecksEach bank [] old old 0
  each_none old = record { each = []; in_order = refl; are = All-nil (IsChecked bank); prints = Appends-nil old; ends = refl }

  max_zero : (n : ℕ) → n ≡ max n 0
  max_zero n = omega arith

  worst-append : (xs ys : List ℕ) → max (worst xs) (worst ys) ≡ worst (xs ++ ys)
  worst-append [] ys = omega arith
  worst-append (x ∷ xs) ys = let rest = worst-append xs ys in omega (arith, rest)

  each_one : (c : Checked) (old new : Option (List ℕ)) (status : ℕ) → IsChecked bank c → Appends old new c.printed → status ≡ c.status
      → ChecksEach bank (c.name ∷ []) old new status
  each_one c old new status is prints ends = record {
    each = c ∷ [];
    in_order = refl;
    are = All-cons (IsChecked bank) c [] is (All-nil (IsChecked bank));
    prints = subst (Appends old new) (sym (append-nil c.printed)) prints;
    ends = ends ∙ max_zero c.status;
  }

  -- a file that was read, and one that wasn't
  pub each_read : (E : Type 0) (name text : List ℕ) (old new : Option (List ℕ)) (r : Result ℕ E) → length text ≤ most_bytes
      → IfOk r (PrintsStatus (ChecksJudged bank name text) old new) → IfOk r (ChecksEach bank (name ∷ []) old new)
  each_read E name text old new (Ok s) few p =
      each_one (record { name = name; text = Ok text; printed = p.printed; status = s }) old new s (few, p.tells) p.prints refl
  each_read E name text old new (Err e) few p = tt

  pub each_unread : (name : List ℕ) (why : Unread) (old new : Option (List ℕ)) → IsSomeAnd (unread_words why) (λ w. Appends old new (line_about name w))
      → ChecksEach bank (name ∷ []) old new 2
  each_unread name NoFile old new tells =
      each_one (record { name = name; text = Err NoFile; printed = line_about name (codes "no file"); status = 2 }) old new 2 (refl, refl) tells refl
  each_unread name TooLong old new tells =
      each_one (record { name = name; text = Err TooLong; printed = line_about name too_long_words; status = 2 }) old new 2 (refl, refl) tells refl
  each_unread name Memory old new tells = absurd tells

  -- a further file after those that were checked
  pub each_next : (names : List (List ℕ)) (name : List ℕ) (old mid new : Option (List ℕ)) (status ended : ℕ)
      → ChecksEach bank names old mid status → ChecksEach bank (name ∷ []) mid new ended → ChecksEach bank (names ++ name ∷ []) old new (max status ended)
  each_next names name old mid new status ended first second =
      let xs = first.each in
      let ys = second.each in
      let printed : Checked → List ℕ = λ c. c.printed in
      let own : Checked → ℕ = λ c. c.status in
      record {
        each = xs ++ ys;
        in_order = map-append (λ (c : Checked). c.name) xs ys ∙ ap₂ (λ (a b : List (List ℕ)). a ++ b) first.in_order second.in_order;
        are = All-append (IsChecked bank) xs ys first.are second.are;
        prints = subst (Appends old new) (sym (ap concat (map-append printed xs ys) ∙ concat-append (map printed xs) (map printed ys))) (Appends-trans old mid new _ _ first.prints second.prints);
        ends = ap₂ max first.ends second.ends ∙ worst-append (map own xs) (map own ys) ∙ sym (ap worst (map-append own xs ys));
      }
