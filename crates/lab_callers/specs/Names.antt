-- Which names hold passes.
use Rattle.std.specs.Prelude.{◌≡◌, ℕ, Bool, List, String, string_bytes, is_some, slice_index_or, position, Some}
use Rattle.std.specs.List.{list_any, remove}
use Rattle.std.specs.Str.{bytes_eq}
use Rattle.std.specs.declared.alloc.Global.{Global}

-- a name is among these
abbrev pub is_named : {P : Type 0} → List ℕ → List (String Global × P) → Bool
is_named name passes = list_any (λ p. bytes_eq (string_bytes p.0) name) passes

-- one of them is of this name
abbrev pub is_of_name : {P : Type 0} → List ℕ → String Global × P → Bool
is_of_name name named = bytes_eq (string_bytes named.0) name

-- a name has a pass among these
abbrev pub has_pass : {P : Type 0} → List ℕ → List (String Global × P) → Bool
has_pass name passes = is_some (position (is_of_name name) passes)

-- the first pass of a name is taken away, and the others stay
pub record TakesPass {P : Type 0} (name : List ℕ) (old : List (String Global × P)) (pass : P) (new : List (String Global × P)) : Type 0 where
  pub place : ℕ
  pub held : String Global
  pub first : position (is_of_name name) old ≡ Some place
  pub there : slice_index_or old place (held, pass) ≡ (held, pass)
  pub others : new ≡ remove old place
