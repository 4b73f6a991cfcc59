-- The keys of a table, as its map has them.
use Rattle.std.proofs.Common.{◌≡◌, ℕ, List, [], ◌∷◌, Bool, ◌&&◌, ◌||◌, map, String, Global, string_bytes, Bor, refl, ap, ◌∙◌}
use Rattle.std.specs.List.{list_all, list_any}
use Rattle.std.specs.Map.{keys_of}
use Rattle.std.specs.Str.{bytes_eq}
use Rattle.toml.specs.View.{members_view}
use Rattle.toml.specs.declared.value.Value.{Value}
use Rattle.evl_scenario.specs.Tables.{has_only}

list_any-now : (test : List ℕ → Bool) (known : List (Bor (List ℕ))) → list_any test (map (λ k. k.now) known) ≡ list_any (λ k. test k.now) known
list_any-now test [] = refl
list_any-now test (k ∷ known) = ap (λ b. test k.now || b) (list_any-now test known)

pub has_only_entries : (known : List (Bor (List ℕ))) (es : List (String Global × Value))
    → has_only (map (λ k. k.now) known) (members_view es) ≡ list_all (λ key. list_any (λ k. bytes_eq (string_bytes key) k.now) known) (keys_of es)
has_only_entries known [] = refl
has_only_entries known (e ∷ es) =
    ap (λ b. b && has_only (map (λ k. k.now) known) (members_view es)) (list_any-now (bytes_eq (string_bytes e.0)) known)
    ∙ ap (λ b. list_any (λ k. bytes_eq (string_bytes e.0) k.now) known && b) (has_only_entries known es)
