-- The lane that the mark of a call names, and its shape.
use Rattle.std.specs.Prelude.{ℕ, Bool, false, ◌&&◌, not, nat_eq, List, [], ◌∷◌, codes, bytes_eq, if◌then◌else◌, Option, Some, None, option_and_then, option_map}
use Rattle.std.specs.List.{starts_with}
use Rattle.std.specs.Option.{option_map_or, option_or}
use Rattle.evl_base.specs.declared.stage.Stage.TheVariants.{Inband, Oob}
use Rattle.lab_traces.specs.Entries.{names_refusal}
use Rattle.lab_drawing.specs.Texts.{around_part, number_in, up_to}
use Rattle.lab_drawing.specs.Words.{first_lane, outcome, word_shown}
use Rattle.lab_drawing.specs.declared.lanes.Lane.{Lane}
use Rattle.lab_drawing.specs.declared.lanes.Lane.TheVariants.{Mutex, Stax, Sem, Flags, Xbuf, Timer, Stage}
use Rattle.lab_drawing.specs.declared.marks.Shape.{Shape}
use Rattle.lab_drawing.specs.declared.marks.Shape.TheVariants.{Answered, Begun, Ended, Refused}

-- the value of a key in the text of a call: what is after the key, up to a space
abbrev pub value_of : List ℕ → List ℕ → Option (List ℕ)
value_of call key = option_map (λ cut. up_to (codes " ") cut.1) (around_part key call)

-- the number at a key
abbrev pub number_at : List ℕ → List ℕ → Option ℕ
number_at call key = option_and_then (number_in 16) (value_of call key)

-- the keys of lanes with a number, in the order in which they are looked for
abbrev pub lane_keys : List (List ℕ × (ℕ → Lane))
lane_keys =
    (codes " mutex=", λ number. Mutex number) ∷ (codes " stax=", λ number. Stax number) ∷ (codes " sem=", λ number. Sem number)
    ∷ (codes " flags=", λ number. Flags number) ∷ (codes " xbuf=", λ number. Xbuf number) ∷ (codes " timer=", λ number. Timer number) ∷ []

abbrev pub stage_lane : List ℕ → Option Lane
stage_lane value =
    if bytes_eq value (codes "oob") then Some (Stage Oob)
    else if bytes_eq value (codes "inband") then Some (Stage Inband)
    else None

-- the stage at the key `stage`
abbrev pub stage_at : List ℕ → Option Lane
stage_at call = option_and_then stage_lane (value_of call (codes " stage="))

-- the lane of the element or the timer that a call names, or else of the stage
abbrev pub lane_named : List ℕ → Option Lane
lane_named call = option_or (first_lane (number_at call) lane_keys) (stage_at call)

-- the lane of what is shown after the answer, or else of what the call names
abbrev pub entry_names : List ℕ → List ℕ → Option Lane
entry_names call answer = option_or (option_map (λ told. told.0) (word_shown answer)) (lane_named call)

-- whether the answer is the name of the pass that the call gets
abbrev pub is_pass : List ℕ → List ℕ → Bool
is_pass call answer = option_map_or (λ name. bytes_eq name answer) (value_of call (codes " as=")) false

-- whether a call is refused: a pass may have a name that begins as that of a refusal
abbrev pub refuses : List ℕ → List ℕ → Bool
refuses call answer = not (is_pass call answer) && names_refusal answer

abbrev pub answered_shape : List ℕ → List ℕ → Shape
answered_shape call answer =
    if refuses call answer then Refused
    else if bytes_eq answer (codes "begun") then Begun
    else if starts_with nat_eq call (codes "finish") then Ended
    else Answered

-- how the mark of a call with this answer looks
abbrev pub entry_shape : List ℕ → List ℕ → Shape
entry_shape call answer = answered_shape call (outcome answer)
