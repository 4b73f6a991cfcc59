-- All records of the kernel at one moment.
use Rattle.std.specs.Prelude.{ℕ, Bool, true, List, [], ◌^◌, map, Option, slice_get, slice_set}
use Rattle.std.specs.Option.{option_map_or}
use Rattle.evl_pipeline.specs.declared.plan.Plan.{Plan}
use Rattle.evl_pipeline.specs.Lines.{Pipeline}
use Rattle.evl_clock.specs.Clocks.{Clock}
use Rattle.evl_sched.specs.Threads.{Sched}
use Rattle.evl_sync.specs.Semaphores.{Semaphore}
use Rattle.evl_sync.specs.FlagGroups.{FlagGroup}
use Rattle.evl_xbuf.specs.Xbufs.{Xbuf}
use Rattle.evl_mutex.specs.Mutexes.{Mutex}
use Rattle.evl_kernel.specs.declared.waits.Wait.{Wait}

-- what a callback declares, and what it answers
pub record Handler : Type 0 where
  pub kinds : ℕ
  pub plan : Plan

-- a callback of the bank, and whether it is in its bank place
pub record Banked : Type 0 where
  pub handler : Handler
  pub home : Bool

-- the record of each element, by kind and number
pub record Elements : Type 0 where
  pub sems : List Semaphore
  pub flags : List FlagGroup
  pub xbufs : List Xbuf
  pub mutexes : List Mutex

pub record State : Type 0 where
  -- how many threads the board has
  pub threads : ℕ
  pub elements : Elements
  -- the callbacks, by number
  pub bank : List Banked
  -- the lines and the timers; what is there is named by its number in the bank
  pub lines : Pipeline ℕ
  pub clock : Clock ℕ
  -- the threads of the core: their policies and stages, who is ready, and the quota groups
  pub sched : Sched
  -- the unfinished wait of each thread
  pub waits : List (Option Wait)

-- the date, in nanoseconds
abbrev pub date : State → ℕ
date s = s.clock.now

abbrev pub with_lines : State → Pipeline ℕ → State
with_lines s lines = record s { lines = lines }

abbrev pub with_clock : State → Clock ℕ → State
with_clock s clock = record s { clock = clock }

abbrev pub with_sched : State → Sched → State
with_sched s sched = record s { sched = sched }

abbrev pub with_waits : State → List (Option Wait) → State
with_waits s waits = record s { waits = waits }

-- the callback of this number is in its bank place, or out of it
abbrev pub with_banked : State → Bool → ℕ → Banked → State
with_banked s home number b = record s { bank = slice_set s.bank number (record b { home = home }) }

-- the callback of this number is back in its bank place
abbrev pub come_home : State → ℕ → State
come_home s number = option_map_or (with_banked s true number) (slice_get s.bank number) s

abbrev pub handlers : State → List Handler
handlers s = map (λ b. b.handler) s.bank

-- in the place of a callback that there isn't: it handles nothing
abbrev pub no_plan : Plan
no_plan = record { accepts = 2 ^ 64; rows = record { items = [] } }

abbrev pub plan_at : State → ℕ → Plan
plan_at s number = option_map_or (λ b. b.handler.plan) (slice_get s.bank number) no_plan
