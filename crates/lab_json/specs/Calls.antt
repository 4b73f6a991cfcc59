-- The list of the calls as JSON.
use Rattle.std.specs.Prelude.{ℕ, true, List, [], ◌∷◌, ◌++◌, codes, flat_map, map}
use Rattle.std.specs.Option.{option_map_or}
use Rattle.evl_base.specs.Calls.{answer_of, fields_of, name_of, words}
use Rattle.evl_base.specs.Fields.{Key as CallKey, Told, a_until, told_as, value_text}
use Rattle.evl_base.specs.Refusal as refusals
use Rattle.evl_base.specs.declared.call.StepWord.{StepWord}
use Rattle.evl_base.specs.declared.fields.Kind.{Kind}
use Rattle.evl_base.specs.declared.fields.Kind.TheVariants as kind
use Rattle.evl_base.specs.declared.refusal.Refusal.{Refusal}
use Rattle.evl_base.specs.declared.refusal.Refusal.TheVariants.{HistoryFull, Unknown, Invalid, Again, Busy, NotOwner, Deadlock, Limit, Range, TooBig, WrongStage}
use Rattle.evl_base.specs.declared.reply.ReplyKind.{ReplyKind}
use Rattle.evl_base.specs.declared.reply.ReplyKind.TheVariants as answer
use Rattle.evl_scenario.specs.Steps.{named_among}
use Rattle.lab_json.specs.Texts.{json_list}
use Rattle.lab_json.specs.declared.calls.Key.{Key}

-- ---- keys

-- a name, a kind, and the value of a key that is left out
abbrev pub KeyParts : Type 0
KeyParts = List ℕ × (Kind × List ℕ)

-- a date that is left out is a text; numbers and truth stand as they are
abbrev pub default_text : Told → List ℕ
default_text (a_until date) = codes "\"" ++ (value_text (a_until date) ++ codes "\"")
default_text value = value_text value

-- of a key that must be there null
abbrev pub default_json : CallKey → List ℕ
default_json key = option_map_or (λ value. default_text (told_as key.kind value)) key.default (codes "null")

abbrev pub key_parts : CallKey → KeyParts
key_parts key = (key.name, (key.kind, default_json key))

abbrev pub key_told : Key → KeyParts
key_told key = (key.name.now, (key.kind, key.default.now))

-- a kind, the greatest number that can stand there, and values that can
abbrev pub kind_json : Kind → List ℕ
kind_json kind.Byte = codes "\"number\", \"most\": 255, \"values\": []"
kind_json kind.Half = codes "\"number\", \"most\": 65535, \"values\": []"
kind_json kind.Word = codes "\"number\", \"most\": 4294967295, \"values\": []"
kind_json kind.Number = codes "\"number\", \"most\": 18446744073709551615, \"values\": []"
kind_json kind.Stage = codes "\"stage\", \"most\": null, \"values\": [\"inband\", \"oob\"]"
kind_json kind.Policy = codes "\"policy\", \"most\": null, \"values\": [\"fifo 10\", \"rr 10 1000\", \"quota 0 10\", \"weak 0\"]"
kind_json kind.Take = codes "\"take\", \"most\": null, \"values\": [\"any\", \"of 1\", \"exact 1\"]"
kind_json kind.Way = codes "\"way\", \"most\": null, \"values\": [\"in\", \"out\"]"
kind_json kind.Bytes = codes "\"bytes\", \"most\": null, \"values\": []"
kind_json kind.Until = codes "\"date\", \"most\": 18446744073709551615, \"values\": [\"none\"]"
kind_json kind.Truth = codes "\"truth\", \"most\": null, \"values\": [true, false]"

abbrev pub key_json : KeyParts → List ℕ
key_json (name, (kind, default)) =
    codes "{\"key\": \"" ++ (name ++ (codes "\", \"default\": " ++ (default ++ (codes ", \"kind\": " ++ (kind_json kind ++ codes "}")))))

-- ---- calls

-- the answers of a kind: N is a number, HEX hexadecimal digits
abbrev pub answers_json : ReplyKind → List ℕ
answers_json answer.Done = codes "\"done\""
answers_json answer.Begun = codes "\"begun\""
answers_json answer.Count = codes "\"count N\""
answers_json answer.Bits = codes "\"bits N\""
answers_json answer.Number = codes "\"number N\""
answers_json answer.Bytes = codes "\"bytes HEX\", \"bytes -\""
answers_json answer.Chosen = codes "\"thread N\", \"thread none\""
answers_json answer.Handed = codes "\"next N\", \"next N more\", \"next none\""
answers_json answer.Outcome = codes "\"done\", \"timed out\", \"bits N\", \"bytes HEX\", \"bytes -\""

-- the word of a call, its keys in their order, and its answers
abbrev pub word_json : StepWord → List ℕ
word_json word = codes "{\"word\": \"" ++ (name_of word ++ codes "\", \"keys\": [")

abbrev pub keys_json : StepWord → List ℕ
keys_json word = json_list true (map key_json (map key_parts (fields_of word)))

abbrev pub ending_json : StepWord → List ℕ
ending_json word = codes "], \"answers\": [" ++ (answers_json (answer_of word) ++ codes "]}\n")

-- the line of a call
abbrev pub call_json : StepWord → List ℕ
call_json word = word_json word ++ (keys_json word ++ ending_json word)

-- ---- refusals

-- those that a trace can have
abbrev pub told_refusals : List Refusal
told_refusals = HistoryFull ∷ Unknown ∷ Invalid ∷ Again ∷ Busy ∷ NotOwner ∷ Deadlock ∷ Limit ∷ Range ∷ TooBig ∷ WrongStage ∷ []

abbrev pub refusal_json : Refusal → List ℕ
refusal_json refusal = codes "\"" ++ (refusals.name_of refusal ++ codes "\"")

abbrev pub refusals_json : List ℕ
refusals_json = codes "{\"refusals\": [" ++ (json_list true (map refusal_json told_refusals) ++ codes "]}\n")

-- ---- all

-- rule: The list of the calls has a line for each, in the list's order: its word, its keys with their defaults and
--   kinds, and the forms of its answers; then the refusals. With a word it gives that call's line, and answers whether
--   there is one.
--   also: Calls.call_json
--   clauses: write_calls; write_call_of: told, none, answers
--   rows: a_call_has_its_keys_and_answers; each_call_has_a_line
-- a line for each call, in the order of the list, and one for how each can be refused
unfoldable pub calls_json : List ℕ
calls_json = flat_map call_json words ++ refusals_json

-- the line of the call with this word, if there is one
abbrev pub call_named : List ℕ → List ℕ
call_named word = option_map_or call_json (named_among words word) []
