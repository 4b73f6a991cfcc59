-- A trace as lines of JSON.
use Rattle.std.specs.Prelude.{ℕ, ◌==◌, Bool, true, false, not, ◌&&◌, ◌||◌, List, [], ◌∷◌, ◌++◌, length, map, codes, decimal, if◌then◌else◌, Option, Some, None, is_some, unwrap_or}
use Rattle.std.specs.Char.{is_ascii_digit}
use Rattle.std.specs.List.{concat, list_all}
use Rattle.std.specs.Str.{bytes_eq}
use Rattle.evl_base.specs.Stage.{stage_text}
use Rattle.evl_base.specs.declared.play.Play.{Play}
use Rattle.evl_base.specs.declared.play.Play.TheVariants.{Clock, Timer, Deadline, Line}
use Rattle.evl_scenario.specs.Values.{around_space, past_front}
use Rattle.lab_traces.specs.Entries.{EntryParts, names_refusal}
use Rattle.lab_traces.specs.Lines.{Said, board, entry, play}
use Rattle.lab_traces.specs.Parts.{before_end}
use Rattle.lab_reports.specs.Calls.{Pair, call_pairs, call_word}
use Rattle.lab_reports.specs.Quotes.{json_text}

-- ---- groups

-- an entry with its plays, or the plays that no entry is before
pub record Group : Type 0 where
  -- rule: Each call that it takes adds its entry, of this thread and call, and prints exactly that entry's lines with
  --   its plays, by which the history's trace grows; board, limit and callbacks stay. A full history stays, and the
  --   line without an entry is printed. Want of memory leaves it, or adds exactly that entry.
  --   clauses: Session::make: bank, board, full, history, limit, trace
  pub entry : Option EntryParts
  pub plays : List Play

-- the plays before the next entry; the line of a board says nothing
abbrev pub first_plays : List Said → List Play
first_plays [] = []
first_plays (board line ∷ rest) = first_plays rest
first_plays (play p ∷ rest) = p ∷ first_plays rest
first_plays (entry parts ∷ rest) = []

-- each entry with the plays that follow it
abbrev pub entry_groups : List Said → List Group
entry_groups [] = []
entry_groups (board line ∷ rest) = entry_groups rest
entry_groups (play p ∷ rest) = entry_groups rest
entry_groups (entry parts ∷ rest) = record { entry = Some parts; plays = first_plays rest } ∷ entry_groups rest

-- plays that no entry is before, if there are some
abbrev pub group_before : List Play → List Group
group_before [] = []
group_before (p ∷ plays) = record { entry = None; plays = p ∷ plays } ∷ []

abbrev pub groups : List Said → List Group
groups said = group_before (first_plays said) ++ entry_groups said

-- ---- texts

-- what is before each of several texts but the first
abbrev pub comma : Bool → List ℕ
comma is_first = if is_first then [] else codes ", "

-- texts one after the other, with a comma and a space between
abbrev pub json_list : Bool → List (List ℕ) → List ℕ
json_list is_first [] = []
json_list is_first (text ∷ texts) = comma is_first ++ (text ++ json_list false texts)

abbrev pub are_digits : List ℕ → Bool
are_digits value = not (length value == 0) && list_all is_ascii_digit value

-- without a minus at its front
abbrev pub unsigned : List ℕ → List ℕ
unsigned value = unwrap_or (past_front (codes "-") value) value

-- a number, negative or not, true or false
abbrev pub is_bare : List ℕ → Bool
is_bare value = are_digits (unsigned value) || (bytes_eq value (codes "true") || bytes_eq value (codes "false"))

abbrev pub truth_json : Bool → List ℕ
truth_json truth = if truth then codes "true" else codes "false"

-- the digits of bytes, none where the trace has a dash
abbrev pub digits_of : List ℕ → List ℕ
digits_of value = if bytes_eq value (codes "-") then [] else value

-- the value of a key: bytes are a text of digits; else `none` is null, a number, true or false is as it is, and
-- anything else is a text
abbrev pub value_json : List ℕ → List ℕ → List ℕ
value_json key value =
    if bytes_eq key (codes "bytes") then json_text (digits_of value)
    else if bytes_eq value (codes "none") then codes "null"
    else if is_bare value then value
    else json_text value

abbrev pub pair_json : Pair → List ℕ
pair_json pair = json_text pair.0 ++ (codes ": " ++ value_json pair.0 pair.1)

-- a call: its word, and its keys with their values
abbrev pub call_json : List ℕ → List ℕ
call_json call =
    codes "\"call\": " ++ (json_text (call_word call)
    ++ (codes ", \"keys\": {" ++ (json_list true (map pair_json (call_pairs call)) ++ codes "}")))

abbrev pub number_json : Option ℕ → List ℕ
number_json None = codes "null"
number_json (Some number) = decimal number

-- the kind of an answer and the text of its value: of a refusal its name, `none` where it has no value
abbrev pub answer_parts : List ℕ → Pair
answer_parts answer =
    if names_refusal answer then (codes "refused", answer)
    else if bytes_eq answer (codes "timed out") then (answer, codes "none")
    else unwrap_or (around_space answer) (answer, codes "none")

-- who owns a mutex now, if anybody does, and whether others still wait
abbrev pub owner_json : List ℕ → List ℕ
owner_json value =
    codes "{\"thread\": " ++ (value_json (codes "thread") (unwrap_or (before_end (codes " more") value) value)
    ++ (codes ", \"more\": " ++ (truth_json (is_some (before_end (codes " more") value)) ++ codes "}")))

-- the value of an answer of a kind, as that of a key
abbrev pub kind_json : List ℕ → List ℕ → List ℕ
kind_json kind value = if bytes_eq kind (codes "next") then owner_json value else value_json kind value

-- an answer, and whether it is a refusal
abbrev pub answer_json : List ℕ → List ℕ
answer_json answer =
    codes ", \"answer\": {\"kind\": " ++ (json_text (answer_parts answer).0
    ++ (codes ", \"value\": " ++ (kind_json (answer_parts answer).0 (answer_parts answer).1
    ++ (codes "}, \"refused\": " ++ truth_json (names_refusal answer)))))

-- what holds of a group between its file and its plays
abbrev pub entry_json : Option EntryParts → List ℕ
entry_json None = codes ", \"number\": null, \"who\": null, \"call\": null, \"keys\": {}, \"answer\": null, \"refused\": false"
entry_json (Some parts) =
    codes ", \"number\": " ++ (number_json parts.number
    ++ (codes ", \"who\": " ++ (decimal parts.thread
    ++ (codes ", " ++ (call_json parts.call ++ answer_json parts.answer)))))

abbrev pub play_json : Play → List ℕ
play_json Clock = codes "{\"play\": \"clock\"}"
play_json (Timer timer count missed handled) =
    codes "{\"play\": \"timer\", \"timer\": " ++ (decimal timer.0
    ++ (codes ", \"count\": " ++ (decimal count
    ++ (codes ", \"missed\": " ++ (decimal missed
    ++ (codes ", \"handled\": " ++ (truth_json handled ++ codes "}")))))))
play_json (Deadline thread) = codes "{\"play\": \"deadline\", \"thread\": " ++ (decimal thread.0 ++ codes "}")
play_json (Line line stage count handled) =
    codes "{\"play\": \"line\", \"line\": " ++ (decimal line.0
    ++ (codes ", \"stage\": \"" ++ (stage_text stage
    ++ (codes "\", \"count\": " ++ (decimal count
    ++ (codes ", \"handled\": " ++ (truth_json handled ++ codes "}")))))))

-- the beginning of a group's line, up to its plays
abbrev pub head_json : List ℕ → Option EntryParts → List ℕ
head_json file parts = codes "{\"file\": " ++ (json_text file ++ (entry_json parts ++ codes ", \"plays\": ["))

-- a group's line
abbrev pub group_json : List ℕ → Group → List ℕ
group_json file group = head_json file group.entry ++ (json_list true (map play_json group.plays) ++ codes "]}\n")

-- the lines of these groups, one after the other
abbrev pub lines_json : List ℕ → List Group → List ℕ
lines_json file gs = concat (map (group_json file) gs)

-- rule: The JSON of a trace is exactly its text: a line for each entry with the plays after it, before these one for
--   plays without an entry. Numbers, null, texts and escapes are as the trace has them; an answer is its kind and its
--   value. A call has its name and keys with values; any text of a word and pairs has its first eight (no space in a
--   word or key, no `=` in a key or value).
--   clauses: write_json; call_parts
--   rows: each_entry_is_a_line_of_json; plays_before_the_first_entry_have_a_line; answers_have_kinds_and_values;
--   trace_1; trace_2; call_1; call_2; call_3; answer_1; answer_2; answer_3; answer_4; answer_5; answer_6; answer_7
-- what is reported of a trace of this file
abbrev pub trace_json : List ℕ → List Said → List ℕ
trace_json file said = lines_json file (groups said)

-- ---- for private clauses

-- what ends the line that was begun, if there is one; of that is reported whether it has no plays yet
abbrev pub end_json : Option Bool → List ℕ
end_json None = []
end_json (Some is_first) = codes "]}\n"

-- a play after it
abbrev pub next_json : List ℕ → Option Bool → Play → List ℕ
next_json file None p = head_json file None ++ play_json p
next_json file (Some is_first) p = comma is_first ++ play_json p

-- what is still to be reported
abbrev pub left_json : List ℕ → Option Bool → List Said → List ℕ
left_json file None said = trace_json file said
left_json file (Some is_first) said =
    json_list is_first (map play_json (first_plays said)) ++ (codes "]}\n" ++ lines_json file (entry_groups said))
