-- The callbacks of the program.
use Rattle.std.specs.Prelude.{ℕ, List, [], ◌∷◌}
use Rattle.evl_pipeline.specs.declared.action.Action.{Action}
use Rattle.evl_pipeline.specs.declared.action.Action.TheVariants.{PostSem, PostFlags, Propagate, PostOob, StopTimer}
use Rattle.evl_pipeline.specs.declared.plan.Plan.{Plan}
use Rattle.evl_kernel.specs.state.States.{Handler}

-- handles each event and asks for nothing
abbrev pub plan_of_none : Plan
plan_of_none = record { accepts = 1; rows = record { items = [] } }

-- handles the counts that `accepts` divides, and asks for an action at those that `every` divides
abbrev pub plan_of : ℕ → ℕ → Action → Plan
plan_of accepts every action = record { accepts = accepts; rows = record { items = (every, action) ∷ [] } }

abbrev pub quiet_handler : Handler
quiet_handler = record { kinds = 0; plan = plan_of_none }

-- raises semaphore 0 at every event, or at every second
abbrev pub posting : ℕ → Handler
posting every = record { kinds = 1; plan = plan_of 1 every (PostSem (record { 0 = 0 })) }

-- hands each event on to the in-band stage
abbrev pub propagating : Handler
propagating = record { kinds = 4; plan = plan_of 1 1 Propagate }

-- posts line 4 on the out-of-band stage
abbrev pub posting_line : Handler
posting_line = record { kinds = 8; plan = plan_of 1 1 (PostOob (record { 0 = 4 })) }

-- ors bit 0 into flag group 0
abbrev pub flagging : Handler
flagging = record { kinds = 2; plan = plan_of 1 1 (PostFlags (record { 0 = 0 }) 1) }

-- handles every second event, and stops timer 0
abbrev pub stopping : Handler
stopping = record { kinds = 16; plan = plan_of 2 1 (StopTimer (record { 0 = 0 })) }

-- rule: The program's bank is callbacks 0 to 7 with their kinds and plans.
--   clauses: play_program; with_program_bank
-- callbacks 0 to 7
abbrev pub program_bank : List Handler
program_bank = quiet_handler ∷ posting 1 ∷ posting 2 ∷ propagating ∷ posting_line ∷ flagging ∷ stopping ∷ quiet_handler ∷ []
