-- The declarations of callbacks that keep their plans.
use Rattle.std.specs.Prelude.{ℕ, List, [], ◌∷◌, bit_or}
use Rattle.evl_pipeline.specs.declared.action.Action.{Action}
use Rattle.evl_pipeline.specs.Plans.{kind_of}
use Rattle.evl_kernel.specs.state.States.{Handler}

-- these kinds, and those of the actions of these rows
abbrev pub kinds_with : ℕ → List (ℕ × Action) → ℕ
kinds_with kinds [] = kinds
kinds_with kinds (row ∷ rest) = kinds_with (bit_or kinds (kind_of row.1)) rest

-- a callback with these rows, which declares the kinds of their actions and no others
abbrev pub of_rows : ℕ → List (ℕ × Action) → Handler
of_rows accepts rows = record { kinds = kinds_with 0 rows; plan = record { accepts = accepts; rows = record { items = rows } } }
