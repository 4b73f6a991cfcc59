-- The step that a table of a scenario means.
use Rattle.std.specs.Prelude.{ℕ, List, [], ◌∷◌, map, if◌then◌else◌, Option, Some, None, option_map, option_and_then, codes}
use Rattle.std.specs.Str.{bytes_eq}
use Rattle.toml.specs.Data.{Data, Members, as_table}
use Rattle.evl_base.specs.declared.call.Call.{Call}
use Rattle.evl_base.specs.declared.call.StepWord.{StepWord}
use Rattle.evl_scenario.specs.declared.steps.Step.{Step}
use Rattle.evl_base.specs.Calls.{words, name_of, fields_of, call_with}
use Rattle.evl_scenario.specs.Fields.{values_of}
use Rattle.evl_scenario.specs.Tables.{value_at, text_at, has_only}
use Rattle.evl_scenario.specs.Values.{thread_from}

-- the word among these whose name a text is
abbrev pub named_among : List StepWord → List ℕ → Option StepWord
named_among [] text = None
named_among (word ∷ rest) text = if bytes_eq text (name_of word) then Some word else named_among rest text

-- the word that a text is, of any step
abbrev pub word_of : List ℕ → Option StepWord
word_of text = named_among words text

-- rule: A step has `do`, `who` and exactly its word's keys, in any order; only `tag`, `until` and `keep` have a
--   default.
--   also: Steps.call_of
--   rows: bad_steps; steps_in_one_array; post_flags; raise; release; room
-- the keys of a step with this word
abbrev pub keys_of : StepWord → List (List ℕ)
keys_of word = codes "do" ∷ codes "who" ∷ map (λ key. key.name) (fields_of word)

-- the call that a word and a table make
abbrev pub call_of : StepWord → Members → Option Call
call_of word table = option_map (call_with word) (values_of (fields_of word) table)

-- the call of these words that a text and a table make
abbrev pub call_among : List StepWord → List ℕ → Members → Option Call
call_among words text table = option_and_then (λ word. call_of word table) (named_among words text)

-- the step with this word
abbrev pub step_with : Members → StepWord → Option Step
step_with table word =
    if has_only (keys_of word) table
    then option_and_then (λ who. option_map (λ call. record { who = who; call = call }) (call_of word table)) (value_at thread_from (codes "who") table)
    else None

abbrev pub step_in : Members → Option Step
step_in table = option_and_then (step_with table) (option_and_then word_of (text_at (codes "do") table))

abbrev pub step_of : Data → Option Step
step_of value = option_and_then step_in (as_table value)
