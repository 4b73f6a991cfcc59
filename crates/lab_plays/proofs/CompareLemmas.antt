-- How differences are printed.
use Rattle.std.proofs.Common.{arith, ◌≡◌, ◌==◌, ◌<◌, ◌+◌, ◌∙◌, ℕ, List, [], ◌∷◌, ◌++◌, append-nil, Bool, true, false, codes, get_or, length, map, take, Option, Result, Ok, Err, IfOk, OnOk, IsSomeAnd, refl, sym, ap, subst}
use Rattle.std.proofs.lemmas.List.{map-append, map_more}
use Rattle.std.proofs.lemmas.List.Folds.{concat-append}
use Rattle.std.specs.Prelude.{MatchBool}
use Rattle.std.specs.List.{concat}
use Rattle.std.specs.Str.{bytes_eq}
use Rattle.lab_reports.specs.Differences.{Apart, told_apart}
use Rattle.lab_reports.specs.declared.differences.Difference.{Difference}
use Rattle.std.specs.Io.KnownBytes.{Appends}
use Rattle.lab_streams.specs.Endings.{line_about}
use Rattle.lab_plays.specs.Plays.{Compares, Tells, Told, apart_text, differences_told, ends_apart, ends_well, unstored_words}
use Rattle.lab_streams.specs.Readings.{Reading}
use Rattle.lab_streams.specs.declared.texts.Unread.{Unread}
use Rattle.lab_plays.proofs.PlayLemmas.{ill_told, is_zero, isnt_zero}

pub told_none : (name : List ℕ) (ds : List Difference) → true ≡ (length ds == 0) → ends_well name [] ≡ differences_told name (map told_apart ds)
told_none name [] h = refl
told_none name (d ∷ ds) h = let none : length (d ∷ ds) ≡ 0 = is_zero _ h in absurd (omega (arith, none))

pub told_some : (name : List ℕ) (ds : List Difference) → false ≡ (length ds == 0)
    → ends_apart name (concat (map (apart_text name) (map told_apart ds))) (codes "differs") ≡ differences_told name (map told_apart ds)
told_some name [] h = absurd (isnt_zero _ h refl)
told_some name (d ∷ ds) h = refl

-- a trace that isn't read
pub unstored : (E : Type 0) (name path : List ℕ) (why : Unread) (trace : List ℕ) (old quiet spoken : Option (List ℕ)) (r : Result ℕ E) → IfOk r (λ s. s ≡ 2)
    → OnOk r (IsSomeAnd (unstored_words path why) (λ w. Appends quiet spoken (line_about name w)))
    → IfOk r (Tells (λ told. (stored : Reading) × Compares name path stored trace told) old old quiet spoken)
unstored E name path why trace old quiet spoken (Ok s) ends says =
    subst (Tells (λ told. (stored : Reading) × Compares name path stored trace told) old old quiet spoken) (sym ends)
    (ill_told (λ told. (stored : Reading) × Compares name path stored trace told) name (unstored_words path why) old quiet spoken (λ told h. (Err why, h)) says)
unstored E name path why trace old quiet spoken (Err e) ends says = tt

-- one difference more
pub apart_more : (name : List ℕ) (ds : List Difference) (i : ℕ) (d : Difference) → i < length ds
    → concat (map (apart_text name) (map told_apart (take (i + 1) ds)))
    ≡ concat (map (apart_text name) (map told_apart (take i ds))) ++ apart_text name (told_apart (get_or ds i d))
apart_more name ds i d within =
    let before = map told_apart (take i ds) in
    let one = told_apart (get_or ds i d) in
    let own = apart_text name in
    ap (λ (all : List Apart). concat (map own all)) (map_more told_apart ds i d within) ∙ ap concat (map-append own before (one ∷ []))
    ∙ concat-append (map own before) (own one ∷ []) ∙ ap (λ (text : List ℕ). concat (map own before) ++ text) (append-nil (own one))
