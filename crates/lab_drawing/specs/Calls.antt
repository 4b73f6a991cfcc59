-- The marks of the kernel's calls, by what is called and what is answered.
use Rattle.std.specs.Prelude.{ℕ, Bool, true, false, List, [], ◌∷◌, codes, bytes_eq, if◌then◌else◌, Option, Some, None, Result, Ok, Err}
use Rattle.std.specs.Option.{option_or}
use Rattle.evl_base.specs.declared.call.Call.{Call}
use Rattle.evl_base.specs.declared.call.Call.TheVariants.{Finish}
use Rattle.evl_base.specs.declared.refusal.Refusal.{Refusal}
use Rattle.evl_base.specs.declared.reply.Reply.{Reply}
use Rattle.evl_base.specs.declared.reply.Reply.TheVariants.{Begun}
use Rattle.evl_base.specs.Calls.{told_in}
use Rattle.evl_base.specs.Fields as key
use Rattle.evl_scenario.specs.declared.steps.Step.{Step}
use Rattle.lab_drawing.specs.Marks.{Told}
use Rattle.lab_drawing.specs.Words.{first_lane}
use Rattle.lab_drawing.specs.declared.lanes.Lane.{Lane}
use Rattle.lab_drawing.specs.declared.lanes.Lane.TheVariants.{Thread, Mutex, Sem, Flags, Xbuf, Timer, Stage}
use Rattle.lab_drawing.specs.declared.marks.Shape.{Shape}
use Rattle.lab_drawing.specs.declared.marks.Shape.TheVariants as shape

-- the value of a key among those of a call, where it has such a key
abbrev pub value_told : List ℕ → List key.Keyed → Option key.Told
value_told name [] = None
value_told name (one ∷ rest) = if bytes_eq one.0 name then Some one.1 else value_told name rest

abbrev pub number_told : Option key.Told → Option ℕ
number_told (Some (key.a_half number)) = Some number
number_told _ = None

abbrev pub stage_told : Option key.Told → Option Lane
stage_told (Some (key.a_stage stage)) = Some (Stage stage)
stage_told _ = None

-- the keys of elements and timers
abbrev pub lane_names : List (List ℕ × (ℕ → Lane))
lane_names =
    (codes "mutex", λ number. Mutex number) ∷ (codes "sem", λ number. Sem number) ∷ (codes "flags", λ number. Flags number) ∷ (codes "xbuf", λ number. Xbuf number)
    ∷ (codes "timer", λ number. Timer number) ∷ []

abbrev pub keyed_lane : List key.Keyed → Option Lane
keyed_lane keys = option_or (first_lane (λ name. number_told (value_told name keys)) lane_names) (stage_told (value_told (codes "stage") keys))

-- the lane of the element or the timer that a call is on, or else of its stage
abbrev pub call_lane : Call → Option Lane
call_lane call = keyed_lane (told_in call)

-- a call that ends a wait
abbrev pub ends_wait : Call → Bool
ends_wait (Finish keep) = true
ends_wait _ = false

-- rule: So the mark of a step with fitting values names the element, timer or stage of its keys, and shows a refusal
--   exactly if its answer is one, else a beginning exactly for `Begun`, else an end exactly for a `Finish`.
--   also: Calls.call_lane
--   clauses: marks_of
--   rows: flags_named; nothing_named; shown_named; stage_named
-- how the mark of a call that is answered so looks
abbrev pub call_shape : Call → Result Reply Refusal → Shape
call_shape call (Err refusal) = shape.Refused
call_shape call (Ok Begun) = shape.Begun
call_shape call (Ok reply) = if ends_wait call then shape.Ended else shape.Answered

-- what the mark of a step has, by what its call answered
abbrev pub step_told : List ℕ → Step → Result Reply Refusal → Told
step_told text step answer = record { line = text; lane = Thread step.who.0; names = call_lane step.call; shape = call_shape step.call answer }
