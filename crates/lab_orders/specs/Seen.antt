-- The records that are kept of callers while their answers are gone through.
use Rattle.std.specs.Prelude.{ℕ, List, [], ◌∷◌, ◌++◌, if◌then◌else◌, map}
use Rattle.std.specs.List.{list_any}
use Rattle.std.specs.Str.{bytes_eq}
use Rattle.lab_orders.specs.Answers as answers
use Rattle.lab_orders.specs.declared.counts.Row.{Row}

-- the rows that these are
abbrev pub seen_rows : List Row → List answers.Row
seen_rows rows = map (λ row. (row.told.now, row.count)) rows

-- one of these texts, or one after them
abbrev pub with_new : List (List ℕ) → List ℕ → List (List ℕ)
with_new texts text = if list_any (λ other. bytes_eq other text) texts then texts else texts ++ text ∷ []
