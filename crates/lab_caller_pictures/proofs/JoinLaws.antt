-- One line more after those that are joined, and where they end; what is shown at a place.
use Rattle.std.proofs.Common.{◌≡◌, ◌∙◌, ◌+◌, List, ℕ, suc, [], ◌∷◌, ◌++◌, Bor, length, map, option_map, slice_get, ap, ap₂, sym, refl, arith, append_assoc, append-nil}
use Rattle.std.specs.Prelude.{Option, Some, None}
use Rattle.std.proofs.lemmas.List.{map-append}
use Rattle.std.proofs.lemmas.Option.{slice_get-map, slice_get_past, slice_get_read}
use Rattle.std.specs.Slice.{IsItemAt}
use Rattle.lab_drawing.specs.Standings.{Told, told_at}
use Rattle.lab_drawing.specs.declared.moments.Moment.{Moment}
use Rattle.lab_moments.specs.Moments.{Shown, moment_shown}
use Rattle.lab_caller_pictures.specs.Joins.{all_joined, joined, shown_after}

-- what a place of some moments shows, which is one before a count
pub shown_there : (shown : List Moment) (before entered : ℕ) (r : Option (Bor Moment)) → entered ≡ suc before → IsItemAt shown before r
    → option_map (λ (moment : Bor Moment). moment_shown moment.now) r ≡ shown_after (map moment_shown shown) entered
shown_there shown before entered r is item = by r item ∙ ap (λ (n : ℕ). shown_after (map moment_shown shown) n) (sym is)
  where
    by : (o : Option (Bor Moment)) → IsItemAt shown before o → option_map (λ (moment : Bor Moment). moment_shown moment.now) o ≡ slice_get (map moment_shown shown) before
    by None at = sym (slice_get-map moment_shown shown before ∙ ap (option_map moment_shown) (slice_get_past shown before at.3))
    by (Some moment) at = sym (slice_get-map moment_shown shown before ∙ ap (option_map moment_shown) (slice_get_read shown _ before moment.now refl at.3.0 at.1))

-- one line more
pub one_joined : (shown : List Shown) (done more before left : List Moment) (words one : Moment) (threads : Option Shown) (counts others : List ℕ) (count : ℕ) (all : List Told)
    → map told_at done ++ all_joined shown (map told_at before) counts ≡ all → before ≡ words ∷ left → counts ≡ count ∷ others
    → threads ≡ shown_after shown count → told_at one ≡ joined (told_at words) threads → more ≡ done ++ one ∷ []
    → map told_at more ++ all_joined shown (map told_at left) others ≡ all
one_joined shown done more before left words one threads counts others count all e cut taken after is pushed =
    (λ i. map told_at (pushed i) ++ all_joined shown (map told_at left) others)
    ∙ ap (λ (t : List Told). t ++ all_joined shown (map told_at left) others) (map-append told_at done (one ∷ []))
    ∙ append_assoc (map told_at done) (told_at one ∷ []) (all_joined shown (map told_at left) others)
    ∙ ap (λ (t : Told). map told_at done ++ t ∷ all_joined shown (map told_at left) others) (is ∙ ap (λ (o : Option Shown). joined (told_at words) o) after)
    ∙ ap₂ (λ (ms : List Moment) (cs : List ℕ). map told_at done ++ all_joined shown (map told_at ms) cs) (sym cut) (sym taken)
    ∙ e

no_counts : (shown : List Shown) (words : List Told) → all_joined shown words [] ≡ []
no_counts shown [] = refl
no_counts shown (first ∷ rest) = refl

-- once the words are at their end, all are joined
pub words_end : (shown : List Shown) (all wanted : List Told) (words : List Moment) (counts : List ℕ) → length words ≡ 0 → all ++ all_joined shown (map told_at words) counts ≡ wanted → all ≡ wanted
words_end shown all wanted [] counts none is = sym (append-nil all) ∙ is
words_end shown all wanted (first ∷ rest) counts none is = absurd (omega (arith, none))

-- and once the counts are
pub counts_end : (shown : List Shown) (all wanted words : List Told) (counts : List ℕ) → length counts ≡ 0 → all ++ all_joined shown words counts ≡ wanted → all ≡ wanted
counts_end shown all wanted words [] none is = sym (append-nil all) ∙ ap (λ (l : List Told). all ++ l) (sym (no_counts shown words)) ∙ is
counts_end shown all wanted words (first ∷ rest) none is = absurd (omega (arith, none))
