-- The line of an entry, without the line feed at its end, and its parts.
use Rattle.std.specs.Prelude.{ℕ, ◌<◌, ◌^◌, nat_le, Bool, ◌&&◌, List, ◌++◌, codes, decimal, slice_index, if◌then◌else◌, Option, Some, None, option_map, option_and_then, Result}
use Rattle.std.specs.Str.{bytes_eq}
use Rattle.evl_base.specs.Call.{call_text}
use Rattle.evl_base.specs.Reply.{outcome_text}
use Rattle.evl_base.specs.declared.refusal.Refusal.{Refusal}
use Rattle.evl_base.specs.declared.reply.Reply.{Reply}
use Rattle.evl_scenario.specs.declared.steps.Step.{Step}
use Rattle.evl_scenario.specs.Lines.{number_text}
use Rattle.evl_scenario.specs.Values.{around_space, number_below, past_front, text_number}
use Rattle.lab_traces.specs.Parts.{around, before_end, Lacks}

-- the number of an entry, or none where the history was full; the thread that called; the texts of its call and its answer
pub record EntryParts : Type 0 where
  pub number : Option ℕ
  pub thread : ℕ
  pub call : List ℕ
  pub answer : List ℕ

abbrev pub entry_text : EntryParts → List ℕ
entry_text parts =
    number_text parts.number ++ (codes " T" ++ (decimal parts.thread ++ (codes " " ++ (parts.call ++ (codes " -> " ++ parts.answer)))))

abbrev pub NumberFits : Option ℕ → Type 0
NumberFits None = Unit {0}
NumberFits (Some n) = n < 2 ^ 64

-- numbers that fit their fields, and a text of a call that no arrow is in
pub record PartsFit (parts : EntryParts) : Type 0 where
  pub number : NumberFits parts.number
  pub thread : parts.thread < 2 ^ 16
  pub call : Lacks 62 parts.call

-- the parts of the line of a step
abbrev pub step_parts : Option ℕ → Step → Result Reply Refusal → EntryParts
step_parts number step answer = record { number = number; thread = step.who.0; call = call_text step.call; answer = outcome_text answer }

-- a number, or a dash
abbrev pub number_read : List ℕ → Option (Option ℕ)
number_read text = if bytes_eq text (codes "-") then Some None else option_map Some (text_number text)

-- the thread after a T
abbrev pub thread_read : List ℕ → Option ℕ
thread_read text = option_and_then (λ digits. number_below (2 ^ 16) (text_number digits)) (past_front (codes "T") text)

-- a call and its answer, around an arrow
abbrev pub around_arrow : List ℕ → Option (List ℕ × List ℕ)
around_arrow text =
    option_and_then (λ (front, back).
    option_and_then (λ call.
    option_map (λ answer. (call, answer)) (past_front (codes " ") back)) (before_end (codes " -") front)) (around 62 text)

abbrev pub called_read : Option ℕ → List ℕ × List ℕ → Option EntryParts
called_read number (who, rest) =
    option_and_then (λ thread.
    option_map (λ (call, answer). record { number = number; thread = thread; call = call; answer = answer }) (around_arrow rest)) (thread_read who)

abbrev pub numbered_read : List ℕ × List ℕ → Option EntryParts
numbered_read (front, back) = option_and_then (λ number. option_and_then (called_read number) (around_space back)) (number_read front)

-- the parts of a line that is the line of an entry
abbrev pub entry_read : List ℕ → Option EntryParts
entry_read text = option_and_then numbered_read (around_space text)

-- the answer begins with a capital letter
abbrev pub names_refusal : List ℕ → Bool
names_refusal answer = nat_le 65 (slice_index answer 0) && nat_le (slice_index answer 0) 90
