-- How many there are.
use Rattle.std.specs.Prelude.{ℕ}
use Rattle.evl_base.specs.Limits.{line_limit}

-- the lines of a stage, from 0 on
abbrev pub line_count : ℕ
line_count = line_limit

-- the actions of an answer, and the rows of a plan, at most
abbrev pub action_limit : ℕ
action_limit = 4
