-- Worked rows, computed from the definitions. Each callback is here the plan that it answers.
use Rattle.std.proofs.Common.{◌≡◌, ℕ, true, false, [], ◌∷◌, Some, None, refl}
use Rattle.evl_base.specs.declared.refusal.Refusal.TheVariants.{Unknown, Invalid, Busy}
use Rattle.evl_base.specs.declared.stage.Stage.TheVariants.{Inband, Oob}
use Rattle.evl_pipeline.specs.declared.action.Action.TheVariants.{PostSem}
use Rattle.evl_pipeline.specs.declared.plan.Plan.{Plan}
use Rattle.evl_pipeline.specs.Counts.{count_at}
use Rattle.evl_pipeline.specs.Lines.{Installed, Pipeline, arrived, free_refusal, freed, installed_at, next_line, opening, played, posted, request_refusal, requested, stalled, unstalled}
use Rattle.evl_pipeline.specs.Plans.{answer_of}

abbrev quiet : Plan
quiet = record { accepts = 1; rows = record { items = [] } }

-- the quiet callback after so many calls
abbrev called : ℕ → Installed Plan
called n = record { callback = quiet; tag = 0; count = n }

-- an in-band stall holds its own line back and no out-of-band one
abbrev stalled_inband-begun : Pipeline Plan
stalled_inband-begun = arrived (stalled (requested (requested opening 5 Oob quiet 0) 3 Inband quiet 0) Inband) 5

stalled_inband-first : next_line stalled_inband-begun false true ≡ Some (Oob, 5)
unfolding opening
stalled_inband-first = refl

abbrev stalled_inband-held : Pipeline Plan
stalled_inband-held = arrived (played stalled_inband-begun Oob 5 (called 0) true) 3

stalled_inband-none : next_line stalled_inband-held false true ≡ None
unfolding opening
stalled_inband-none = refl

stalled_inband-last : next_line (unstalled stalled_inband-held Inband) false true ≡ Some (Inband, 3)
unfolding opening
stalled_inband-last = refl

-- three arrivals are one event
abbrev merged_arrivals-begun : Pipeline Plan
merged_arrivals-begun = unstalled (arrived (arrived (arrived (stalled (requested opening 7 Oob quiet 0) Oob) 7) 7) 7) Oob

merged_arrivals-first : next_line merged_arrivals-begun false true ≡ Some (Oob, 7)
unfolding opening
merged_arrivals-first = refl

merged_arrivals-none : next_line (played merged_arrivals-begun Oob 7 (called 0) true) false true ≡ None
unfolding opening
merged_arrivals-none = refl

merged_arrivals-once : installed_at (played merged_arrivals-begun Oob 7 (called 0) true) Oob 7 ≡ Some (called 1)
unfolding opening
merged_arrivals-once = refl

-- the lowest line goes first
abbrev lowest_line_first-begun : Pipeline Plan
lowest_line_first-begun = arrived (arrived (arrived (requested (requested (requested opening 9 Oob quiet 0) 2 Oob quiet 0) 1023 Oob quiet 0) 9) 1023) 2

lowest_line_first-first : next_line lowest_line_first-begun true false ≡ Some (Oob, 2)
unfolding opening
lowest_line_first-first = refl

lowest_line_first-second : next_line (played lowest_line_first-begun Oob 2 (called 0) true) true false ≡ Some (Oob, 9)
unfolding opening
lowest_line_first-second = refl

lowest_line_first-last : next_line (played (played lowest_line_first-begun Oob 2 (called 0) true) Oob 9 (called 0) true) true false ≡ Some (Oob, 1023)
unfolding opening
lowest_line_first-last = refl

-- what is refused, what is spurious, and what a free drops
abbrev refusals-begun : Pipeline Plan
refusals-begun = requested opening 6 Oob quiet 0

refusals-busy : request_refusal refusals-begun 6 Oob 0 ≡ Some Busy
unfolding opening
refusals-busy = refl

refusals-kinds : request_refusal refusals-begun 6 Oob 8 ≡ Some Invalid
unfolding opening
refusals-kinds = refl

refusals-gone : free_refusal refusals-begun 5 Oob ≡ Some Unknown
unfolding opening
refusals-gone = refl

refusals-clock : free_refusal refusals-begun 0 Inband ≡ Some Invalid
unfolding opening
refusals-clock = refl

refusals-spurious : count_at (posted refusals-begun Inband 6).spurious 6 ≡ 1
unfolding opening
refusals-spurious = refl

refusals-dropped : next_line (unstalled (freed (arrived (stalled refusals-begun Oob) 6) 6 Oob) Oob) false true ≡ None
unfolding opening
refusals-dropped = refl

-- line 0 is the clock's
clock_line : next_line (arrived (opening {C = Plan}) 0) false true ≡ Some (Oob, 0)
unfolding opening
clock_line = refl

-- a callback that handles each second event, and posts at each third
abbrev each_second : Plan
each_second = record { accepts = 2; rows = record { items = (3, PostSem (record { 0 = 0 })) ∷ [] } }

at_2 : answer_of each_second 2 ≡ record { handled = true; actions = record { items = [] } }
at_2 = refl

at_3 : answer_of each_second 3 ≡ record { handled = false; actions = record { items = PostSem (record { 0 = 0 }) ∷ [] } }
at_3 = refl
