-- The names that a path goes through.
use Rattle.std.proofs.Common.{◌≡◌, ◌∙◌, ℕ, ◌-◌, nat_eq, nat_lt, codes, true, false, arith, List, length, length-drop, take, take_all, drop, map, None, Bor, refl, sym, ap, subst}
use Rattle.std.proofs.lemmas.List.{drop-map, length-map, take-map}
use Rattle.std.proofs.lemmas.Str.Pattern.{ends_text}
use Rattle.std.specs.Cmp.Derive.Mapped.{pointwise-map}
use Rattle.std.specs.List.{ends_with, starts_with}
use Rattle.std.specs.Str.{IsCharBoundary, bytes_eq}
use Rattle.std.specs.Str.Pattern.{FindsTextSuffix, StripsSuffix}
use Rattle.lab_plays.specs.Folders.{begun, below, shared, stem_of}

-- a name that ends so, and one that doesn't
pub stem_before : (name stem : List ℕ) → StripsSuffix (FindsTextSuffix (codes ".toml")) name stem → stem ≡ stem_of name
stem_before name stem found =
    let ends : true ≡ ends_with nat_eq name (codes ".toml") = ends_text true (codes ".toml") name (found.0, found.1, omega (arith, found.3), let P : ℕ → Type 0 = λ n. IsCharBoundary name (length name - n) in subst P (sym found.1.0) found.1.2) in
    let same : stem ≡ take (length name - length (codes ".toml")) name = found.2 ∙ ap (λ (n : ℕ). take (length name - n) name) found.1.0 in
    rw (← ends, same) refl

pub stem_whole : (name : List ℕ) → FindsTextSuffix (codes ".toml") name None → name ≡ stem_of name
stem_whole name missing =
    let ends : false ≡ ends_with nat_eq name (codes ".toml") = ends_text false (codes ".toml") name missing in
    rw (← ends) refl

-- ---- names below a folder

abbrev now : Bor (List ℕ) → List ℕ
now name = name.now

begins_so : (names folder : List (Bor (List ℕ))) → starts_with bytes_eq (map now names) (map now folder) ≡ starts_with (λ a b. bytes_eq a.now b.now) names folder
begins_so names folder = rw (length-map folder now, take-map now (length folder) names) (pointwise-map now bytes_eq folder (take (length folder) names))

-- they begin with those of the folder, or not
pub all_begun : (names folder : List (Bor (List ℕ))) → starts_with (λ a b. bytes_eq a.now b.now) names folder ≡ true → length folder ≡ begun (map now folder) (map now names)
all_begun names folder begins = rw (begins_so names folder ∙ begins) (sym (length-map folder now))

pub none_begun : (names folder : List (Bor (List ℕ))) → starts_with (λ a b. bytes_eq a.now b.now) names folder ≡ false → 0 ≡ begun (map now folder) (map now names)
none_begun names folder begins = rw (begins_so names folder ∙ begins) refl

-- and go on, or not
pub shared_below : (names folder : List (Bor (List ℕ))) (n : ℕ) → nat_lt (length folder) (length names) ≡ true → n ≡ begun (map now folder) (map now names)
    → n ≡ shared (map now folder) (map now names)
shared_below names folder n longer is =
    let so : nat_lt (length (map now folder)) (length (map now names)) ≡ true = rw (length-map folder now, length-map names now) longer in rw (so) is

pub none_shared : (names folder : List (Bor (List ℕ))) → nat_lt (length folder) (length names) ≡ false → 0 ≡ shared (map now folder) (map now names)
none_shared names folder ends = rw (length-map folder now, length-map names now, ends) refl

-- what is left of the names after those
pub left_of : (names folder : List (Bor (List ℕ))) (own : ℕ) → own ≡ shared (map now folder) (map now names)
    → map now (take (length names - own) (drop own names)) ≡ below (map now folder) (map now names)
left_of names folder own is =
    let whole : take (length names - own) (drop own names) ≡ drop own names = take_all (length names - own) (drop own names) (omega (arith, length-drop own names)) in
    ap (λ (l : List (Bor (List ℕ))). map now l) whole ∙ sym (drop-map now own names) ∙ ap (λ (n : ℕ). drop n (map now names)) is
