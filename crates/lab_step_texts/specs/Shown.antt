-- The word that a turn changes, as a caller's line shows it.
use Rattle.std.specs.Prelude.{ℕ, ◌-◌, ◌==◌, List, if◌then◌else◌, Option, Some, None, option_map, slice_get}
use Rattle.evl_words.specs.GateWord.{count_in, mark_in, stage_in}
use Rattle.evl_words.specs.MutexBits.{number_in}
use Rattle.lab_drawing.specs.Shown as word
use Rattle.lab_drawing.specs.Shown.{Word, line_showing}
use Rattle.lab_step_orders.specs.Words.{Shared}
use Rattle.lab_step_orders.specs.declared.steps.CoreChange.{CoreChange}
use Rattle.lab_step_orders.specs.declared.steps.CoreChange.TheVariants.{Same, Takes, Ends, Gives}
use Rattle.lab_step_orders.specs.declared.steps.Taken.{Taken}
use Rattle.lab_step_orders.specs.declared.steps.WordStep.{WordStep}
use Rattle.lab_step_orders.specs.declared.steps.WordStep.TheVariants.{AtGate, AtMutex}

-- a stax with this word: who is in it, and how many; a mutex: its owner, and the claim mark; and who has the core
abbrev pub stax_word : ℕ → ℕ → Word
stax_word i bits = if count_in bits == 0 then word.free_stax i else word.held_stax i (stage_in bits) (count_in bits)

abbrev pub owner_in : ℕ → Option ℕ
owner_in number = if number == 0 then None else Some (number - 1)

abbrev pub mutex_word : ℕ → ℕ → Word
mutex_word i bits = word.mutex i (owner_in (number_in bits)) (mark_in bits)

abbrev pub core_word : Option Taken → Word
core_word taken = word.core (option_map (λ one. one.who) taken)

-- the word at which a step is, where the words stand so
abbrev pub step_shown : List Shared → List Shared → Option WordStep → Option Word
step_shown gates mutexes None = None
step_shown gates mutexes (Some (AtGate stax step)) = option_map (λ g. stax_word stax.0 g.word) (slice_get gates stax.0)
step_shown gates mutexes (Some (AtMutex mutex step)) = option_map (λ m. mutex_word mutex.0 m.word) (slice_get mutexes mutex.0)

-- or the core, if a turn takes or gives it
abbrev pub turn_shown : List Shared → List Shared → Option Taken → CoreChange → Option WordStep → Option Word
turn_shown gates mutexes taken Takes step = Some (core_word taken)
turn_shown gates mutexes taken Gives step = Some (core_word taken)
turn_shown gates mutexes taken Ends step = step_shown gates mutexes step
turn_shown gates mutexes taken Same step = step_shown gates mutexes step

-- after a line's front part is what is shown, if anything is
abbrev pub line_with : List ℕ → Option Word → List ℕ
line_with front None = front
line_with front (Some shown) = line_showing front shown
