-- The states of callers' lanes after each of their lines: the words as the lines show them, and the threads as the kernel had them.
use Rattle.std.specs.Prelude.{◌≡◌, ℕ, zero, suc, Bool, true, false, List, [], ◌∷◌, ◌++◌, filter, map, slice_get, Option, Some, None}
use Rattle.evl_kernel.specs.state.States.{Handler}
use Rattle.evl_scenario.specs.Scenarios.{scenario_of}
use Rattle.lab_drawing.specs.Lanes.{AreLanesOf}
use Rattle.lab_drawing.specs.Standings.{Told, all_told, told_at}
use Rattle.lab_drawing.specs.declared.lanes.Lane.{Lane}
use Rattle.lab_drawing.specs.declared.lanes.Lane.TheVariants.{Thread}
use Rattle.lab_drawing.specs.declared.marks.Mark.{Mark}
use Rattle.lab_drawing.specs.declared.moments.Moment.{Moment}
use Rattle.lab_moments.specs.Moments.{Shown, shown_of}

-- the lanes of threads
abbrev pub is_thread : Lane → Bool
is_thread (Thread number) = true
is_thread _ = false

abbrev pub threads_in : List Lane → List Lane
threads_in lanes = filter is_thread lanes

-- what is shown once so many calls were entered; before the first one nothing
abbrev pub shown_after : List Shown → ℕ → Option Shown
shown_after shown zero = None
shown_after shown (suc before) = slice_get shown before

-- the words that a line shows, and beside them the threads, at the kernel's date
abbrev pub joined : Told → Option Shown → Told
joined words None = words
joined words (Some threads) = record { date = threads.0; standings = words.standings ++ threads.1 }

-- the words of each line, with the threads after as many calls as had been entered by then
abbrev pub all_joined : List Shown → List Told → List ℕ → List Told
all_joined shown (words ∷ rest) (entered ∷ others) = joined words (shown_after shown entered) ∷ all_joined shown rest others
all_joined shown _ _ = []

-- rule: After each step the words are as the lines say, and with them the threads of the picture as that scenario's
--   kernel had them after as many calls as were entered then, at its date; before the first call no thread. The legend
--   has the strips of threads too.
--   also: Drawings.shows_for
--   clauses: drawn_of
-- the moments after the lines of callers, by the scenario of the calls that were entered, over these callbacks, and how many had been entered by each line
abbrev pub AreJoined : List Handler → List ℕ → List ℕ → List Mark → List Moment → Type 0
AreJoined bank scenario entered marks moments =
    (lanes : List Lane) × AreLanesOf marks lanes × (map told_at moments ≡ all_joined (shown_of (threads_in lanes) bank (scenario_of None scenario)) (all_told marks) entered)
