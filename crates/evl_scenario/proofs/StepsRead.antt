-- The table that is written for a step is read back as this step.
use Rattle.std.proofs.Common.{arith, ◌≡◌, ℕ, ◌<◌, ◌^◌, nat_lt, lt-ltb, false, List, [], ◌∷◌, length, codes, Option, Some, None, option_map, option_and_then, inl, inr, refl, ◌∙◌}
use Rattle.std.proofs.lemmas.Bool.{cases_lt, le-ltb}
use Rattle.arrayvec.specs.ArrayVec.{ArrayVec}
use Rattle.hex.specs.Hex.{encode_lower, lower_digits}
use Rattle.hex.proofs.HexLemmas.{decode_of-encode_lower, length-encode_with}
use Rattle.toml.specs.Tables.{at_key, close}
use Rattle.evl_base.specs.Stage.{stage_text}
use Rattle.evl_base.specs.Way.{way_text}
use Rattle.evl_base.specs.declared.call.Call.{Call}
use Rattle.evl_base.specs.declared.call.Call.TheVariants.{Now}
use Rattle.evl_base.specs.declared.numbers.ThreadId.{ThreadId}
use Rattle.evl_base.specs.declared.stage.Stage.{Stage}
use Rattle.evl_base.specs.declared.stage.Stage.TheVariants.{Inband, Oob}
use Rattle.evl_base.specs.declared.way.Way.{Way}
use Rattle.evl_base.specs.declared.way.Way.TheVariants.{In, Out}
use Rattle.evl_base.specs.Calls.{Parts, parts, call_with, fields_of, parts_of, told_by}
use Rattle.evl_base.specs.declared.fields.Kind.{Kind}
use Rattle.evl_base.specs.declared.fields.Kind.TheVariants as kind
use Rattle.evl_base.specs.Fields.{Value, Key, Values, told_as, keyed_values}
use Rattle.evl_scenario.specs.Fields.{value_from}
use Rattle.evl_scenario.specs.Steps.{step_in}
use Rattle.evl_scenario.specs.Transfers.{bytes_of, way_of}
use Rattle.evl_scenario.specs.Values.{number_from, until_from, stage_of, thread_from}
use Rattle.evl_scenario.specs.Widths.{AllFit, Fits, UntilFits, BytesFit, StepFits}
use Rattle.evl_scenario.specs.Writings.{whole_number, wide, until_data, data_of}
use Rattle.evl_scenario.specs.declared.steps.Step.{Step}
use Rattle.evl_scenario.proofs.NodesRead.{step_nodes}
use Rattle.evl_scenario.proofs.TextsRead.{below-read, decimal-other, number-read, policy-read, take-read}

-- ---- values

stage-read : (s : Stage) → stage_of (stage_text s) ≡ Some s
stage-read Inband = refl
stage-read Oob = refl

way-read : (w : Way) → way_of (way_text w) ≡ Some w
way-read In = refl
way-read Out = refl

wide-read : (n : ℕ) → n < 2 ^ 64 → number_from (wide n) ≡ Some n
wide-read n h =
    elim (cases_lt n (2 ^ 63)) [
      | inl small ↦ rw (lt-ltb n (2 ^ 63) small) refl
      | inr large ↦ rw (le-ltb n (2 ^ 63) large) (number-read n h)
    ]

until-read : (u : Option ℕ) → UntilFits u → until_from (until_data u) ≡ Some u
until-read None h = refl
until-read (Some n) h =
    elim (cases_lt n (2 ^ 63)) [
      | inl small ↦ rw (lt-ltb n (2 ^ 63) small) refl
      | inr large ↦ rw (le-ltb n (2 ^ 63) large, decimal-other n (codes "none") h refl, number-read n h) refl
    ]

bytes-read : (b : ArrayVec ℕ) → BytesFit b.items → bytes_of (encode_lower b.items) ≡ Some b
bytes-read b h =
    let size = length-encode_with lower_digits b.items in
    let short : nat_lt 512 (length (encode_lower b.items)) ≡ false = le-ltb 512 (length (encode_lower b.items)) (omega (arith, size, h.1)) in
    rw (short, decode_of-encode_lower b.items h.0) refl

-- a value that fits is read back
value-read : (kind : Kind) (v : Value kind) → Fits (told_as kind v) → value_from kind (data_of (told_as kind v)) ≡ Some v
value-read kind.Byte n h = below-read (2 ^ 8) n h
value-read kind.Half n h = below-read (2 ^ 16) n h
value-read kind.Word n h = below-read (2 ^ 32) n h
value-read kind.Number n h = wide-read n h
value-read kind.Stage s h = stage-read s
value-read kind.Policy p h = policy-read p h
value-read kind.Take t h = take-read t h
value-read kind.Way w h = way-read w
value-read kind.Bytes b h = bytes-read b h
value-read kind.Until u h = until-read u h
value-read kind.Truth b h = refl

-- ---- steps

-- values, read from what is written of them
abbrev read_back : (keys : List Key) → Values keys → Option (Values keys)
read_back [] values = Some tt
read_back (key ∷ keys) values =
    option_and_then (λ v. option_map (λ vs. (v, vs)) (read_back keys values.1)) (value_from key.kind (data_of (told_as key.kind values.0)))

values-read : (keys : List Key) (values : Values keys) → AllFit (keyed_values keys values) → read_back keys values ≡ Some values
values-read [] values h = refl
values-read (key ∷ keys) values h = rw (value-read key.kind values.0 h.0, values-read keys values.1 h.1) refl

-- the step of a word, its values read back
abbrev step_back : Parts → ThreadId → Option Step
step_back (parts word values) who = option_map (λ call. record { who = who; call = call }) (option_map (call_with word) (read_back (fields_of word) values))

-- in a step's table its word, its thread and each of its keys are found; the keys differ
step_found : (who : ThreadId) (call : Call) → step_in (close (step_nodes (record { who = who; call = call }))) ≡ option_and_then (step_back (parts_of call)) (thread_from (whole_number who.0))
unfolding at_key
step_found who Now = refl
step_found who _ = refl

abbrev call_from : Parts → Call
call_from (parts word values) = call_with word values

-- the parts of a call make the call
call_made : (call : Call) → call_from (parts_of call) ≡ call
call_made Now = refl
call_made _ = refl

back-read : (who : ThreadId) (p : Parts) → AllFit (told_by p) → step_back p who ≡ Some (record { who = who; call = call_from p })
back-read who (parts word values) h = rw (values-read (fields_of word) values h) refl

pub step_read : (step : Step) → StepFits step → step_in (close (step_nodes step)) ≡ Some step
step_read step h =
    step_found step.who step.call
    ∙ rw (lt-ltb step.who.0 (2 ^ 16) h.0, back-read step.who (parts_of step.call) h.1, call_made step.call) refl
