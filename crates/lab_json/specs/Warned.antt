-- The warnings of a dry run, and what is judged of a step, as lines of JSON: by the lines that say them of a text without a name.
use Rattle.std.specs.Prelude.{ℕ, Bool, List, codes, if◌then◌else◌, Option, None, option_and_then, unwrap_or}
use Rattle.std.specs.Option.{option_map_or}
use Rattle.evl_scenario.specs.Values.{around_space, past_front, text_number}
use Rattle.lab_json.specs.Notices.{Said, notice_json}
use Rattle.lab_json.specs.declared.notices.Noticed.{Noticed}
use Rattle.lab_json.specs.declared.notices.Noticed.TheVariants.{Fault, Unexpected, Warning}
use Rattle.lab_traces.specs.Parts.{before_end}

abbrev pub warning_said : Option ℕ → List ℕ → Said
warning_said step says = record { kind = Warning; line = None; byte = None; step = step; says = says }

-- the number before a colon
abbrev pub step_numbered : List ℕ → Option ℕ
step_numbered text = option_and_then text_number (before_end (codes ":") text)

-- without this front part, if it has it
abbrev pub without : List ℕ → List ℕ → List ℕ
without front text = unwrap_or (past_front front text) text

-- by what comes after `step`: its number, a colon and a blank, and then the warning
abbrev pub warned_said : List ℕ → Said
warned_said text =
    option_map_or (λ parts. warning_said (step_numbered parts.0) (without (codes "warning: ") parts.1)) (around_space text) (warning_said None text)

-- by a whole line: of a step, or of the end
abbrev pub in_the_end : List ℕ → Said
in_the_end line =
    option_map_or warned_said (past_front (codes ": step ") line) (warning_said None (without (codes ": at the end: warning: ") line))

unfoldable pub warned_json : List ℕ → List ℕ → List ℕ
warned_json file line = notice_json file (in_the_end line)

-- ---- a step that is answered otherwise than its text expects, or never so

abbrev pub without_end : List ℕ → List ℕ → List ℕ
without_end end text = unwrap_or (before_end end text) text

-- the number after `step` at the front, before a colon
abbrev pub step_front : List ℕ → Option ℕ
step_front text =
    option_and_then (λ rest. option_and_then (λ parts. step_numbered parts.0) (around_space rest)) (past_front (codes "step ") text)

abbrev pub judged_kind : Bool → Noticed
judged_kind fault = if fault then Fault else Unexpected

abbrev pub judged_at : Bool → Option ℕ → List ℕ → Said
judged_at fault line says = record { kind = judged_kind fault; line = line; byte = None; step = step_front says; says = says }

-- by its line: a colon, the number of the line in the text, a colon and a blank, and what is said
abbrev pub judged_said : Bool → List ℕ → Said
judged_said fault line =
    option_map_or (λ parts. judged_at fault (step_numbered parts.0) (without_end (codes "\n") parts.1)) (around_space (without (codes ":") line))
    (judged_at fault None line)
