-- Whether the steps of a scenario are answered as its text expects.
use Rattle.std.specs.Prelude.{◌≡◌, ℕ, ◌-◌, Bool, true, false, not, ◌||◌, List, [], ◌∷◌, ◌++◌, codes, decimal, filter, find, flat_map, map, slice_get, string_bytes, unwrap_or, IsSomeAnd, Option, Some, None, option_map}
use Rattle.std.specs.List.{list_any}
use Rattle.std.specs.Option.{option_map_or}
use Rattle.std.specs.Str.{bytes_eq}
use Rattle.evl_base.specs.Call.{call_word}
use Rattle.evl_base.specs.Calls.{answer_of, parts_of, word_in}
use Rattle.evl_base.specs.Refusal.{name_of}
use Rattle.evl_base.specs.declared.call.Call.{Call}
use Rattle.evl_base.specs.declared.refusal.Refusal.{Refusal}
use Rattle.evl_base.specs.declared.refusal.Refusal.TheVariants.{HistoryFull, Unknown, Invalid, Again, Busy, NotOwner, Deadlock, Limit, Range, TooBig, WrongStage}
use Rattle.evl_base.specs.declared.reply.ReplyKind.{ReplyKind}
use Rattle.evl_base.specs.declared.reply.ReplyKind.TheVariants as kind
use Rattle.evl_scenario.specs.Values.{around_space}
use Rattle.evl_scenario.specs.declared.steps.Step.{Step}
use Rattle.lab_faults.specs.Wants.{hint_text}
use Rattle.lab_traces.specs.Entries.{EntryParts}
use Rattle.lab_traces.specs.Lines.{Said, entry, line_read}
use Rattle.lab_lines.specs.declared.met.Unexpected.{Unexpected}
use Rattle.lab_lines.specs.declared.tables.Expected.{Expected}

-- ---- what a call can be answered

abbrev pub kind_of : Call → ReplyKind
kind_of call = answer_of (word_in (parts_of call))

-- the first words of an answer of a kind
abbrev pub fronts : ReplyKind → List (List ℕ)
fronts kind.Done = codes "done" ∷ []
fronts kind.Begun = codes "begun" ∷ []
fronts kind.Count = codes "count" ∷ []
fronts kind.Bits = codes "bits" ∷ []
fronts kind.Number = codes "number" ∷ []
fronts kind.Bytes = codes "bytes" ∷ []
fronts kind.Chosen = codes "thread" ∷ []
fronts kind.Handed = codes "next" ∷ []
fronts kind.Outcome = codes "done" ∷ codes "timed" ∷ codes "bits" ∷ codes "bytes" ∷ []

-- the refusals that are in a trace
abbrev pub told_refusals : List Refusal
told_refusals = HistoryFull ∷ Unknown ∷ Invalid ∷ Again ∷ Busy ∷ NotOwner ∷ Deadlock ∷ Limit ∷ Range ∷ TooBig ∷ WrongStage ∷ []

abbrev pub is_refusal : List ℕ → Bool
is_refusal text = list_any (λ refusal. bytes_eq (name_of refusal) text) told_refusals

abbrev pub first_word : List ℕ → List ℕ
first_word text = option_map_or (λ parts. parts.0) (around_space text) text

-- an answer begins as one of a kind
abbrev pub begins_as : ReplyKind → List ℕ → Bool
begins_as kind answer = list_any (bytes_eq (first_word answer)) (fronts kind)

-- a call can be answered so: by a refusal, or by an answer that begins as those of its kind
abbrev pub can_be : Call → List ℕ → Bool
can_be call answer = is_refusal answer || begins_as (kind_of call) answer

-- ---- what is expected of a step

-- the step of which something is expected
abbrev pub step_at : List Step → Expected → Option Step
step_at steps e = slice_get steps (e.step - 1)

abbrev pub is_never : Expected → Option Step → Bool
is_never e None = false
is_never e (Some step) = not (can_be step.call (string_bytes e.answer))

-- no call of its kind is ever answered so
abbrev pub is_impossible : List Step → Expected → Bool
is_impossible steps e = is_never e (step_at steps e)

-- what a step is answered: that of the entry with its number, as the lines of a trace have them
abbrev pub entry_in : Option Said → List EntryParts
entry_in (Some (entry e)) = e ∷ []
entry_in _ = []

abbrev pub entries_of : List (List ℕ) → List EntryParts
entries_of all = flat_map (λ line. entry_in (line_read line)) all

abbrev pub answer_at : List EntryParts → Expected → Option (List ℕ)
answer_at entries e = option_map (λ parts. parts.answer) (slice_get entries (e.step - 1))

-- it is answered otherwise
abbrev pub is_unmet : List EntryParts → Expected → Bool
is_unmet entries e = not (option_map_or (λ answer. bytes_eq answer (string_bytes e.answer)) (answer_at entries e) false)

-- ---- what is reported

-- the words that may be meant by an answer that can't be
abbrev pub plain_answers : List (List ℕ)
plain_answers =
    codes "done" ∷ codes "begun" ∷ codes "timed out" ∷ codes "thread none" ∷ codes "next none" ∷ codes "bytes -"
    ∷ codes "Unknown" ∷ codes "Invalid" ∷ codes "Again" ∷ codes "Busy" ∷ codes "NotOwner" ∷ codes "Deadlock" ∷ codes "Limit"
    ∷ codes "Range" ∷ codes "TooBig" ∷ codes "WrongStage" ∷ codes "HistoryFull" ∷ []

-- the word of the call of which something is expected
abbrev pub word_at : List Step → Expected → List ℕ
word_at steps e = option_map_or (λ step. call_word step.call) (step_at steps e) []

-- those that it can be answered
abbrev pub answers_at : List Step → Expected → List (List ℕ)
answers_at steps e = option_map_or (λ step. filter (can_be step.call) plain_answers) (step_at steps e) []

abbrev pub quoted : List ℕ → List ℕ → List ℕ
quoted answer hint = codes "\"" ++ (answer ++ (codes "\"" ++ hint))

abbrev pub never_said : ℕ → List ℕ → List ℕ → List ℕ
never_said step word answer = codes "step " ++ (decimal step ++ (codes ": " ++ (word ++ (codes " is never answered " ++ answer))))

abbrev pub never_words : Expected → List ℕ → List (List ℕ) → List ℕ
never_words e word answers = never_said e.step word (quoted (string_bytes e.answer) (hint_text (string_bytes e.answer) answers))

abbrev pub unmet_words : Expected → List ℕ → List ℕ
unmet_words e answer =
    codes "step " ++ (decimal e.step ++ (codes ": " ++ (string_bytes e.answer ++ (codes " is expected, " ++ (answer ++ codes " is answered")))))

-- what is reported of something that can never be answered
pub record TellsNever (steps : List Step) (e : Expected) (told : Unexpected) : Type 0 where
  pub fault : told.is_fault ≡ true
  pub line : told.line ≡ e.line
  pub words : string_bytes told.words ≡ never_words e (word_at steps e) (answers_at steps e)

-- of a step that is answered otherwise
pub record TellsUnmet (entries : List EntryParts) (e : Expected) (told : Unexpected) : Type 0 where
  pub fault : told.is_fault ≡ false
  pub line : told.line ≡ e.line
  pub words : string_bytes told.words ≡ unmet_words e (unwrap_or (answer_at entries e) (codes "nothing"))

-- The first step of which something impossible is expected is reported; else the first that is answered otherwise.
abbrev pub JudgesMet : List EntryParts → Option Expected → Option Unexpected → Type 0
JudgesMet entries None told = told ≡ None
JudgesMet entries (Some e) told = IsSomeAnd told (TellsUnmet entries e)

abbrev pub JudgesBy : List Step → List EntryParts → List Expected → Option Expected → Option Unexpected → Type 0
JudgesBy steps entries expected None told = JudgesMet entries (find (is_unmet entries) expected) told
JudgesBy steps entries expected (Some e) told = IsSomeAnd told (TellsNever steps e)

-- rule: The reported step is the first one with an expected answer that is no refusal and begins as none of its call's
--   kind; else the first whose entry has another answer; else none.
--   clauses: first_unexpected
--   rows: the_first_unexpected_answer_is_told
abbrev pub Judges : List Step → List EntryParts → List Expected → Option Unexpected → Type 0
Judges steps entries expected told = JudgesBy steps entries expected (find (is_impossible steps) expected) told
