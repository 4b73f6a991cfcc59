-- The part of a line after the answer of a step.
use Rattle.std.specs.Prelude.{ℕ, Bool, List, [], ◌++◌, codes, count_by, decimal, nat_eq, nat_lt, Option, Some, None, option_map, if◌then◌else◌}
use Rattle.evl_base.specs.Refusal.{name_of}
use Rattle.evl_base.specs.declared.numbers.MutexId.{MutexId}
use Rattle.evl_base.specs.declared.numbers.ThreadId.{ThreadId}
use Rattle.evl_base.specs.declared.refusal.Refusal.{Refusal}
use Rattle.evl_base.specs.declared.stage.Stage.{Stage}
use Rattle.evl_base.specs.declared.stage.Stage.TheVariants.{Inband, Oob}
use Rattle.lab_callers.specs.Holdings.{Holdings, is_of_stax, stax_holder}
use Rattle.lab_callers.specs.declared.views.Shows.{Shows}
use Rattle.lab_callers.specs.declared.views.Shows.TheVariants as shows
use Rattle.lab_callers.specs.declared.views.View.{View}
use Rattle.lab_callers_text.specs.Acts.{act_text}
use Rattle.lab_callers_text.specs.declared.acts.CallersStep.{CallersStep}
use Rattle.evl_kernel.specs.histories.Histories.{History}
use Rattle.evl_machine.specs.declared.in_word.InWord.{InWord}
use Rattle.evl_scenario.specs.Lines.{line_feed}
use Rattle.evl_scenario.specs.Traces.{lines_behind}

-- the number of a step, who makes it, and what is done
abbrev pub step_text : ℕ → CallersStep → List ℕ
step_text number step = decimal number ++ (codes " T" ++ (decimal step.who.0 ++ (codes " " ++ act_text step.act)))

abbrev pub stage_words : Stage → List ℕ
stage_words Inband = codes "in-band"
stage_words Oob = codes "out-of-band"

abbrev pub holders_text : ℕ → List ℕ
holders_text n = if nat_eq n 1 then codes ", 1 holder" else codes ", " ++ (decimal n ++ codes " holders")

-- how a stax is that so many hold at a stage
abbrev pub stax_text : ℕ → Stage → ℕ → List ℕ
stax_text stax stage n = codes " | stax " ++ (decimal stax ++ (codes ": " ++ (if nat_eq n 0 then codes "free" else stage_words stage ++ holders_text n)))

abbrev pub owner_text : Option ThreadId → List ℕ
owner_text None = codes "free"
owner_text (Some owner) = codes "T" ++ decimal owner.0

abbrev pub claim_text : Bool → List ℕ
claim_text claimed = if claimed then codes ", claimed" else []

-- what is in a mutex's word
abbrev pub word_text : ℕ → Option InWord → List ℕ
word_text mutex None = []
word_text mutex (Some word) = codes " | mutex " ++ (decimal mutex ++ (codes ": " ++ (owner_text word.owner ++ claim_text word.is_claimed)))

-- who has the core
abbrev pub core_text : Option ℕ → List ℕ
core_text None = codes " | core: free"
core_text (Some who) = codes " | core: taken by T" ++ decimal who

-- whose word is looked at
abbrev pub mutex_asked : Shows → Option MutexId
mutex_asked (shows.Mutex mutex) = Some mutex
mutex_asked other = None

-- whose stage: that of the first caller that holds the stax
abbrev pub thread_asked : Holdings → Shows → Option ThreadId
thread_asked had (shows.Stax stax) = option_map (λ seat. record { 0 = seat }) (stax_holder had stax.0)
thread_asked had other = None

-- The text after an answer: how the core, the mutex's word or the stax is, which is counted from the passes that names hold. A stax
-- that the board hasn't shows nothing
abbrev pub shown_text : ℕ → Holdings → Option ℕ → View → Shows → List ℕ
shown_text staxes had holder view shows.Nothing = []
shown_text staxes had holder view (shows.Stax stax) = if nat_lt stax.0 staxes then stax_text stax.0 view.stage (count_by (is_of_stax stax.0) had.staxes) else []
shown_text staxes had holder view (shows.Mutex mutex) = word_text mutex.0 view.word
shown_text staxes had holder view shows.Core = core_text holder

-- what is reported in the end: of a closed machine with the lines of its kernel's history, and of one that isn't closed
abbrev pub closed_text : History → List ℕ
closed_text h = codes "close -> done" ++ (line_feed ++ lines_behind 0 h.entries h.plays)

abbrev pub open_text : Refusal → List ℕ
open_text refusal = codes "close -> " ++ (name_of refusal ++ line_feed)
