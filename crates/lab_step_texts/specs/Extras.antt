-- The extras of steps' texts beside texts of callers: calls that take the core by a turn of its own, and a wrong step.
use Rattle.std.specs.Prelude.{ℕ, ◌+◌, ◌-◌, ◌==◌, Bool, true, false, ◌&&◌, ◌||◌, not, List, [], ◌∷◌, ◌++◌, Option, Some, None, codes, if◌then◌else◌, is_none, is_some, length, slice_index_or, slice_set}
use Rattle.std.specs.List.{list_any}
use Rattle.std.specs.Option.{option_map_or, option_or}
use Rattle.std.specs.Str.{bytes_eq}
use Rattle.std.specs.Str.Lines.{lines}
use Rattle.lab_callers_text.specs.declared.acts.CallersStep.{CallersStep}
use Rattle.lab_kinds.specs.Plains.{is_own, is_set_to, is_what_if, is_what_if_head}
use Rattle.lab_scenario_orders.specs.Splits.{bare, is_step, is_table, joined_lines}
use Rattle.lab_step_orders.specs.declared.steps.CoreUse.{CoreUse}
use Rattle.lab_step_orders.specs.declared.steps.CoreUse.TheVariants.{Whole, Lasts, Tries}
use Rattle.lab_step_orders.specs.declared.steps.WhatIf.{WhatIf}
use Rattle.lab_step_orders.specs.declared.steps.WhatIf.TheVariants.{OfferDropsMark, ClaimSetsNoMark, UnlockSkipsKernel, LeaveKeepsMark}

-- ---- `lasts` of a step

abbrev pub way_set : List ℕ → Option CoreUse
way_set line =
    if is_set_to (codes "lasts") (codes "true") line then Some Lasts else if is_set_to (codes "lasts") (codes "false") line then Some Tries else None

-- how each step comes by the core, those after a line and those before it
abbrev pub ways_on : List CoreUse → List ℕ → List CoreUse
ways_on ways line = if is_step line then ways ++ Whole ∷ [] else option_map_or (λ way. slice_set ways (length ways - 1) way) (way_set line) ways

abbrev pub ways_from : List CoreUse → List (List ℕ) → List CoreUse
ways_from ways [] = ways
ways_from ways (line ∷ rest) = ways_from (ways_on ways line) rest

-- a step goes on after a line, and has no `lasts` so far; another line sets it elsewhere, or once more
abbrev pub is_open : Bool → List ℕ → Bool
is_open was line = if is_table line then is_step line else was && not (is_some (way_set line))

abbrev pub is_stray : Bool → List ℕ → Bool
is_stray going line = is_some (way_set line) && not going

-- the number of the first such line, counted from n
abbrev pub stray_from : ℕ → Bool → List (List ℕ) → Option ℕ
stray_from n going [] = None
stray_from n going (line ∷ rest) = if is_stray going line then Some n else stray_from (n + 1) (is_open going line) rest

-- those of one caller's steps, where these steps are numbered from n
abbrev pub own_ways : ℕ → List CoreUse → ℕ → List CallersStep → List CoreUse
own_ways k ways n [] = []
own_ways k ways n (step ∷ rest) = if step.who.0 == k then slice_index_or ways n Whole ∷ own_ways k ways (n + 1) rest else own_ways k ways (n + 1) rest

-- ---- the table `[what_if]`

abbrev pub wrong_set : List ℕ → Option WhatIf
wrong_set line =
    if is_set_to (codes "offer_drops_mark") (codes "true") line then Some OfferDropsMark
    else if is_set_to (codes "claim_sets_no_mark") (codes "true") line then Some ClaimSetsNoMark
    else if is_set_to (codes "unlock_skips_kernel") (codes "true") line then Some UnlockSkipsKernel
    else if is_set_to (codes "leave_keeps_mark") (codes "true") line then Some LeaveKeepsMark
    else None

-- the last wrong step that these lines ask for, after one that was asked for
abbrev pub wrong_on : Option WhatIf → Bool → List ℕ → Option WhatIf
wrong_on what is line = if is then option_or (wrong_set line) what else what

abbrev pub wrong_from : Option WhatIf → Bool → List (List ℕ) → Option WhatIf
wrong_from what was [] = what
wrong_from what was (line ∷ rest) = wrong_from (wrong_on what (is_what_if was line) line) (is_what_if was line) rest

-- a line of such a table that asks for none, or for a second one
abbrev pub is_empty : List ℕ → Bool
is_empty line = bytes_eq (bare line) []

abbrev pub is_strange : Option WhatIf → Bool → List ℕ → Bool
is_strange what is line = is && not (is_what_if_head line || (is_empty line || (is_some (wrong_set line) && is_none what)))

-- the number of the first such line, counted from n
abbrev pub strange_from : ℕ → Option WhatIf → Bool → List (List ℕ) → Option ℕ
strange_from n what was [] = None
strange_from n what was (line ∷ rest) =
    if is_strange what (is_what_if was line) line then Some n
    else strange_from (n + 1) (wrong_on what (is_what_if was line) line) (is_what_if was line) rest

-- ---- the text of callers

-- the lines that it has, too; each other one is blank
abbrev pub plain_line : Bool → List ℕ → List ℕ
plain_line is line = if is_own is line then [] else line

abbrev pub plain_lines : Bool → List (List ℕ) → List (List ℕ)
plain_lines was [] = []
plain_lines was (line ∷ rest) = plain_line (is_what_if was line) line ∷ plain_lines (is_what_if was line) rest

abbrev pub plain_part : List ℕ → List ℕ
plain_part text = joined_lines (plain_lines false (lines text))

abbrev pub ways_part : List ℕ → List CoreUse
ways_part text = ways_from [] (lines text)

abbrev pub wrong_part : List ℕ → Option WhatIf
wrong_part text = wrong_from None false (lines text)

-- the first line that asks for no wrong step, and the first one that sets `lasts` and may not
abbrev pub strange_line : List ℕ → Option ℕ
strange_line text = strange_from 1 None false (lines text)

abbrev pub stray_line : List ℕ → Option ℕ
stray_line text = stray_from 1 false (lines text)
