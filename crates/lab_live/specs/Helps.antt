-- The form of the calls, and what their keys take.
use Rattle.std.specs.Prelude.{ℕ, ◌||◌, List, [], ◌++◌, codes, flat_map, is_some, map, if◌then◌else◌, Option, Some, None}
use Rattle.std.specs.Str.{bytes_eq}
use Rattle.evl_base.specs.Calls.{fields_of, name_of, words}
use Rattle.evl_base.specs.declared.call.StepWord.{StepWord}
use Rattle.evl_scenario.specs.Lines.{line_feed}
use Rattle.evl_scenario.specs.Steps.{word_of}
use Rattle.lab_faults.specs.Faults.{may_lack}
use Rattle.lab_faults.specs.Steps.{own_keys}
use Rattle.lab_faults.specs.Wants.{wanted_text}

-- ---- forms

-- a value that a key of a line can have
unfoldable pub sample_text : List ℕ → List ℕ
sample_text key =
    if bytes_eq key (codes "line") then codes "5"
    else if bytes_eq key (codes "stage") then codes "oob"
    else if bytes_eq key (codes "delta") || bytes_eq key (codes "date") then codes "100"
    else if bytes_eq key (codes "interval") then codes "10"
    else if bytes_eq key (codes "policy") then codes "fifo 10"
    else if bytes_eq key (codes "thread") || (bytes_eq key (codes "owner") || bytes_eq key (codes "bits")) then codes "1"
    else if bytes_eq key (codes "kind") then codes "of 3"
    else if bytes_eq key (codes "way") then codes "in"
    else if bytes_eq key (codes "bytes") then codes "00ff"
    else if bytes_eq key (codes "len") then codes "4"
    else if bytes_eq key (codes "until") then codes "none"
    else if bytes_eq key (codes "keep") then codes "false"
    else codes "0"

-- a key with that value, in brackets where it may be left out
abbrev pub key_text : List ℕ → List ℕ
key_text key =
    if may_lack key
    then codes " [" ++ (key ++ (codes "=" ++ (sample_text key ++ codes "]")))
    else codes " " ++ (key ++ (codes "=" ++ sample_text key))

-- a call of thread 0 with this word and these keys, on a line
abbrev pub form_text : List ℕ → List (List ℕ) → List ℕ
form_text word keys = codes "T0 " ++ (word ++ (flat_map key_text keys ++ line_feed))

-- of a call of the list, with its keys in the order in which they are written
abbrev pub form_line : StepWord → List ℕ
form_line word = form_text (name_of word) (map (λ key. key.name) (fields_of word))

-- rule: `?` and `help` print the forms of all calls and the notes, `? WORD` the call's form and what is wanted at each
--   of its keys, or that there is no such call. A form is one line, in the order of the list of calls: `T0`, the word,
--   and each key with a value, in brackets if it may be left out.
--   also: Helps.{help_text, word_help}
--   clauses: answer_line: help, sign, word; write_forms; write_call_of
--   rows: each_form_is_read; help_tells_what_keys_take
-- the forms of all calls, in the order of the list
unfoldable pub forms_text : List ℕ
forms_text = flat_map form_line words

-- ---- what keys take

-- what value is wanted at a key
unfoldable pub takes_text : List ℕ → List ℕ
takes_text key = wanted_text key

-- on a line
abbrev pub wants_line : List ℕ → List ℕ
wants_line key = codes "  " ++ (key ++ (codes ": " ++ (takes_text key ++ codes " is wanted\n")))

-- the form of a word with its keys, and what each of them takes; of a word without keys nothing
abbrev pub help_with : List ℕ → Option (List (List ℕ)) → List ℕ
help_with word None = []
help_with word (Some keys) = form_text word keys ++ flat_map wants_line keys

-- of a word that a call has
abbrev pub call_help : List ℕ → List ℕ
call_help word = help_with word (own_keys word)

-- of any word: where no call has it, that it has none
abbrev pub word_help : List ℕ → List ℕ
word_help word = if is_some (word_of word) then call_help word else codes "! 3: there is no such call; ? tells all\n"

-- ---- all

-- what is reported beside the forms
unfoldable pub notes : List ℕ
notes =
    codes "? WORD tells what a call's keys take\n"
    ++ (codes "ps tells threads, who waits for what, owners, pending lines and timers; ps all ranks, counts, bits, bytes and the date too\n"
    ++ (codes "scenario, or save, prints the calls so far as a scenario\n"
    ++ (codes "save FILE writes that scenario to FILE, draw FILE its picture\n"
    ++ (codes "undo takes the last call back\n"
    ++ (codes "a line that begins with # is answered with itself; behind a call # and what follows says nothing\n"
    ++ codes "Ctrl-D ends\n")))))

-- the forms, and that
unfoldable pub help_text : List ℕ
help_text = forms_text ++ notes

-- ---- for private clauses

-- the form of a word with its keys, if a call has it
abbrev pub form_with : List ℕ → Option (List (List ℕ)) → List ℕ
form_with word None = []
form_with word (Some keys) = form_text word keys

abbrev pub form_named : List ℕ → List ℕ
form_named word = form_with word (own_keys word)
