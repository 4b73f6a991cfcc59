-- All that is kept for each line.
use Rattle.std.specs.Prelude.{ℕ, ◌-◌, List, ◌++◌, length, replicate}
use Rattle.evl_pipeline.specs.Limits.{line_count}

pub record ByLine (T : Type 0) : Type 0 where
  pub items : List T

-- what was written, and blanks for the lines after it
abbrev pub filled_up : {T : Type 0} → T → List T → List T
filled_up blank written = written ++ replicate (line_count - length written) blank
