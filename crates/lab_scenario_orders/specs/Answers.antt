-- The answers that calls can have, as they are written.
use Rattle.std.specs.Prelude.{ℕ, Bool, false, ◌&&◌, ◌||◌, nat_eq, nat_le, not, List, [], ◌∷◌, codes, find, is_some, length, string_bytes, Option}
use Rattle.std.specs.Char.{is_ascii_digit}
use Rattle.std.specs.List.{list_all, list_any}
use Rattle.std.specs.Option.{option_map_or}
use Rattle.std.specs.Str.{bytes_eq, chars}
use Rattle.strsim.specs.Edits.{levenshtein_row}
use Rattle.evl_base.specs.Calls.{answer_of, parts_of, word_in}
use Rattle.evl_base.specs.Refusal.{name_of}
use Rattle.evl_base.specs.declared.call.Call.{Call}
use Rattle.evl_base.specs.declared.refusal.Refusal.{Refusal}
use Rattle.evl_base.specs.declared.refusal.Refusal.TheVariants.{Unknown, Invalid, Again, Busy, NotOwner, Deadlock, Limit, Range, TooBig, WrongStage}
use Rattle.evl_base.specs.declared.reply.ReplyKind.{ReplyKind}
use Rattle.evl_base.specs.declared.reply.ReplyKind.TheVariants as kind
use Rattle.evl_scenario.specs.Values.{around_space, past_front, text_number}
use Rattle.evl_scenario.specs.declared.steps.Step.{Step}
use Rattle.lab_scenario_orders.specs.Asks.{caller_text}
use Rattle.lab_scenario_orders.specs.declared.asks.Never.{Never}

-- ---- the texts of one kind

abbrev pub is_number : List ℕ → Bool
is_number text = is_some (text_number text)

-- this front part, and then a number
abbrev pub is_numbered : List ℕ → List ℕ → Bool
is_numbered front text = option_map_or is_number (past_front front text) false

-- a hexadecimal digit, in lower case
abbrev pub is_hex : ℕ → Bool
is_hex byte = is_ascii_digit byte || (nat_le 97 byte && nat_le byte 102)

-- bytes by their digits, or `-` where there are none
abbrev pub is_bytes : List ℕ → Bool
is_bytes text = option_map_or (λ digits. bytes_eq digits (codes "-") || list_all is_hex digits) (past_front (codes "bytes ") text) false

-- a thread's number, and whether more wait
abbrev pub is_more : List ℕ → Bool
is_more text = option_map_or (λ parts. is_number parts.0 && bytes_eq parts.1 (codes "more")) (around_space text) false

abbrev pub is_handed : List ℕ → Bool
is_handed text = option_map_or (λ next. (bytes_eq next (codes "none") || is_number next) || is_more next) (past_front (codes "next ") text) false

-- what ends a wait
abbrev pub is_end_of_wait : List ℕ → Bool
is_end_of_wait text = ((bytes_eq text (codes "done") || bytes_eq text (codes "timed out")) || is_numbered (codes "bits ") text) || is_bytes text

-- an answer of this kind can be written so
abbrev pub is_told_of : ReplyKind → List ℕ → Bool
is_told_of kind.Done text = bytes_eq text (codes "done")
is_told_of kind.Begun text = bytes_eq text (codes "begun")
is_told_of kind.Count text = is_numbered (codes "count ") text || is_numbered (codes "count -") text
is_told_of kind.Bits text = is_numbered (codes "bits ") text
is_told_of kind.Number text = is_numbered (codes "number ") text
is_told_of kind.Bytes text = is_bytes text
is_told_of kind.Chosen text = bytes_eq text (codes "thread none") || is_numbered (codes "thread ") text
is_told_of kind.Handed text = is_handed text
is_told_of kind.Outcome text = is_end_of_wait text

-- ---- the texts that a step can be answered

-- the kernel's refusals that have an entry
abbrev pub kernel_refusals : List Refusal
kernel_refusals = Unknown ∷ Invalid ∷ Again ∷ Busy ∷ NotOwner ∷ Deadlock ∷ Limit ∷ Range ∷ TooBig ∷ WrongStage ∷ []

abbrev pub is_refusal : List ℕ → Bool
is_refusal text = list_any (λ refusal. bytes_eq (name_of refusal) text) kernel_refusals

abbrev pub kind_of : Call → ReplyKind
kind_of call = answer_of (word_in (parts_of call))

-- a call can be answered so: by a refusal, or by its kind of answers
abbrev pub can_be : Call → List ℕ → Bool
can_be call text = is_refusal text || is_told_of (kind_of call) text

-- a step of this caller can
abbrev pub can_have : List ℕ → List ℕ → Step → Bool
can_have who answer step = can_be step.call answer && bytes_eq (caller_text step.who.0) who

abbrev pub is_possible : List Step → List ℕ → List ℕ → Bool
is_possible steps who answer = list_any (can_have who answer) steps

-- rule: The first answer of `never` that no step of its caller can have, as a refusal of the kernel or as an answer of
--   its call's kind, is reported with the first word that one can have, at most two edits away.
--   also: Answers.{near_answer, is_told_of}
--   clauses: first_impossible; near_answer
--   rows: answers_that_no_step_can_have_are_told
-- the first answer of `never` that no step of its caller can have
abbrev pub first_impossible : List Step → List Never → Option Never
first_impossible steps never = find (λ one. not (is_possible steps (string_bytes one.who) (string_bytes one.answer))) never

-- ---- what may be meant

-- the answers that have no number, and the refusals
abbrev pub plain_answers : List (List ℕ)
plain_answers =
    codes "done" ∷ codes "begun" ∷ codes "timed out" ∷ codes "thread none" ∷ codes "next none" ∷ codes "bytes -"
    ∷ codes "Unknown" ∷ codes "Invalid" ∷ codes "Again" ∷ codes "Busy" ∷ codes "NotOwner" ∷ codes "Deadlock" ∷ codes "Limit"
    ∷ codes "Range" ∷ codes "TooBig" ∷ codes "WrongStage" ∷ []

-- how many edits lead from one text to another
abbrev pub edits : List ℕ → List ℕ → ℕ
edits text word = levenshtein_row nat_eq (chars text) (chars word) (length (chars word))

-- a word is at most two edits away, and some step of the caller can have it
abbrev pub is_meant : List Step → Never → List ℕ → Bool
is_meant steps never word = nat_le (edits (string_bytes never.answer) word) 2 && is_possible steps (string_bytes never.who) word

abbrev pub near_answer : List Step → Never → Option (List ℕ)
near_answer steps never = find (is_meant steps never) plain_answers
