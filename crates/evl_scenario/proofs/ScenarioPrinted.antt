-- The text of a scenario is lines of TOML, and what it is read as.
use Rattle.std.proofs.Common.{arith, ℕ, ◌≡◌, ◌<◌, ◌^◌, nat_lt, lt-ltb, Bool, true, false, ◌&&◌, List, [], ◌∷◌, ◌++◌, length, map, codes, pos, Option, Some, None, refl, inl, inr}
use Rattle.std.proofs.lemmas.Bool.{and_parts, cases_lt, le-ltb}
use Rattle.std.specs.Int.{w64}
use Rattle.std.specs.List.{list_all}
use Rattle.std.specs.Prelude.{FitsSigned}
use Rattle.toml_parser.specs.Lexical.{is_bare}
use Rattle.toml.specs.Text.{IsLinesText}
use Rattle.toml.proofs.ReadLines.{AllPrinted}
use Rattle.evl_base.specs.Stage.{stage_text}
use Rattle.evl_base.specs.Way.{way_text}
use Rattle.evl_base.specs.declared.call.Call.{Call}
use Rattle.evl_base.specs.declared.stage.Stage.{Stage}
use Rattle.evl_base.specs.declared.stage.Stage.TheVariants.{Inband, Oob}
use Rattle.evl_base.specs.declared.way.Way.{Way}
use Rattle.evl_base.specs.declared.way.Way.TheVariants.{In, Out}
use Rattle.evl_base.specs.Calls.{Parts, parts, fields_of, name_of, word_in, parts_of, told_by}
use Rattle.evl_base.specs.declared.fields.Kind.{Kind}
use Rattle.evl_base.specs.declared.fields.Kind.TheVariants as kind
use Rattle.evl_base.specs.Fields.{Value, Key, Values, told_as, keyed_values}
use Rattle.evl_scenario.specs.Widths.{AllFit, Fits, UntilFits, CallFits, StepFits, StepsFit}
use Rattle.evl_scenario.specs.Writings.{wide, until_data, data_of, pair_of, call_pairs, step_pairs, pairs_text, tables_text}
use Rattle.evl_base.specs.declared.call.StepWord.{StepWord}
use Rattle.evl_base.specs.declared.call.StepWord.TheVariants.{Pick}
use Rattle.evl_scenario.specs.declared.steps.Step.{Step}
use Rattle.evl_scenario.proofs.LinesPrinted.{IsWritten, ArePairs, pairs_lines, element_line, pairs_printed, printed-append}
use Rattle.evl_scenario.proofs.NodesRead.{step_expressions, steps_expressions}
use Rattle.evl_scenario.proofs.PlainTexts.{IsPlain}
use Rattle.evl_scenario.proofs.TextsRead.{plain-decimal, plain-hex, policy-plain, take-plain}

-- ---- values

pub whole-written : (n : ℕ) → n < 2 ^ 63 → FitsSigned w64 (pos n)
whole-written n h = record { sfits = h }

pub half-written : (n : ℕ) → n < 2 ^ 16 → FitsSigned w64 (pos n)
half-written n h = whole-written n (omega (arith, h))

pub word-written : (n : ℕ) → n < 2 ^ 32 → FitsSigned w64 (pos n)
word-written n h = whole-written n (omega (arith, h))

pub byte-written : (n : ℕ) → n < 2 ^ 8 → FitsSigned w64 (pos n)
byte-written n h = whole-written n (omega (arith, h))

wide-written : (n : ℕ) → n < 2 ^ 64 → IsWritten 2 (wide n)
wide-written n h =
    elim (cases_lt n (2 ^ 63)) [
      | inl small ↦ rw (lt-ltb n (2 ^ 63) small) (whole-written n small)
      | inr large ↦ rw (le-ltb n (2 ^ 63) large) (plain-decimal n h)
    ]

until-written : (u : Option ℕ) → UntilFits u → IsWritten 2 (until_data u)
until-written None h = refl
until-written (Some n) h = wide-written n h

stage-plain : (s : Stage) → IsPlain (stage_text s)
stage-plain Inband = refl
stage-plain Oob = refl

way-plain : (w : Way) → IsPlain (way_text w)
way-plain In = refl
way-plain Out = refl

value-written : (kind : Kind) (v : Value kind) → Fits (told_as kind v) → IsWritten 2 (data_of (told_as kind v))
value-written kind.Byte n h = byte-written n h
value-written kind.Half n h = half-written n h
value-written kind.Word n h = word-written n h
value-written kind.Number n h = wide-written n h
value-written kind.Stage s h = stage-plain s
value-written kind.Policy p h = policy-plain p h
value-written kind.Take t h = take-plain t h
value-written kind.Way w h = way-plain w
value-written kind.Bytes b h = plain-hex b.items h.0
value-written kind.Until u h = until-written u h
value-written kind.Truth b h = tt

-- ---- steps

-- the names of keys are written as they are
abbrev are_bare : List Key → Bool
are_bare keys = list_all (λ key. nat_lt 0 (length key.name) && list_all is_bare key.name) keys

fields_bare : (step : StepWord) → are_bare (fields_of step) ≡ true
fields_bare Pick = refl
fields_bare _ = refl

told_written : (keys : List Key) (values : Values keys) → are_bare keys ≡ true → AllFit (keyed_values keys values) → ArePairs (map pair_of (keyed_values keys values))
told_written [] values bare h = tt
told_written (key ∷ keys) values bare h =
    let (here, more) = and_parts (nat_lt 0 (length key.name) && list_all is_bare key.name) (are_bare keys) bare in
    ((here, value-written key.kind values.0 h.0), told_written keys values.1 more h.1)

parts_written : (p : Parts) → AllFit (told_by p) → ArePairs (map pair_of (told_by p))
parts_written (parts step values) h = told_written (fields_of step) values (fields_bare step) h

call_written : (call : Call) → CallFits call → ArePairs (call_pairs call)
call_written call h = parts_written (parts_of call) h

name_plain : (step : StepWord) → IsPlain (name_of step)
name_plain Pick = refl
name_plain _ = refl

step_written : (step : Step) → StepFits step → ArePairs (step_pairs step)
step_written step h = ((refl, name_plain (word_in (parts_of step.call))), ((refl, half-written step.who.0 h.0), call_written step.call h.1))

-- the tables of steps are lines of TOML
pub steps_lines : (steps : List Step) → StepsFit steps → IsLinesText false true (steps_expressions steps) (tables_text steps)
steps_lines [] h = refl
steps_lines (step ∷ rest) h =
    let rest_text = pairs_text (step_pairs step) ++ tables_text rest in (
      codes "\n[[step]]\n",
      rest_text,
      refl,
      element_line (codes "step") refl,
      pairs_lines true (step_pairs step) (steps_expressions rest) (tables_text rest) (step_written step h.0) (steps_lines rest h.1),
    )

pub steps_printed : (steps : List Step) → StepsFit steps → AllPrinted (steps_expressions steps)
steps_printed [] h = tt
steps_printed (step ∷ rest) h =
    printed-append (step_expressions step) (steps_expressions rest) (omega arith, pairs_printed (step_pairs step) (step_written step h.0)) (steps_printed rest h.1)
