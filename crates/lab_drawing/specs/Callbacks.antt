-- The callbacks that the calls of a trace name.
use Rattle.std.specs.Prelude.{ℕ, nat_le, Bool, false, List, [], ◌∷◌, codes, if◌then◌else◌, Option, None}
use Rattle.std.specs.Option.{option_map_or}
use Rattle.lab_traces.specs.declared.traces.Says.{Says}
use Rattle.lab_traces.specs.declared.traces.Says.TheVariants.{Entry}
use Rattle.lab_traces.specs.declared.traces.TraceLine.{TraceLine}
use Rattle.lab_drawing.specs.Named.{number_at}

abbrev pub callback_said : Says → Option ℕ
callback_said (Entry entry) = number_at entry.call.now (codes " callback=")
callback_said _ = None

-- the callback that the call of a line names
abbrev pub callback_named : TraceLine → Option ℕ
callback_named line = callback_said line.says

-- it is none of so many
abbrev pub is_missing : ℕ → TraceLine → Bool
is_missing count line = option_map_or (λ number. nat_le count number) (callback_named line) false

-- rule: A callback is missing if a call of a trace names one at `callback=` that a bank of so many has not: the first
--   such is found.
--   clauses: missing_callback
-- the first one that a call of these lines names and that a bank of so many hasn't
abbrev pub missing_callback : ℕ → List TraceLine → Option ℕ
missing_callback count [] = None
missing_callback count (line ∷ rest) = if is_missing count line then callback_named line else missing_callback count rest
