-- How far a task set is played, and the calls that are made on the way.
use Rattle.std.specs.Prelude.{ℕ, ◌+◌, ◌-◌, ◌^◌, min, Bool, List, [], ◌∷◌, ◌++◌, Option, Some, None, Result, slice_index_or, slice_set}
use Rattle.evl_base.specs.declared.call.Call.{Call}
use Rattle.evl_base.specs.declared.numbers.XbufId.{XbufId}
use Rattle.evl_base.specs.declared.numbers.ThreadId.{ThreadId}
use Rattle.evl_base.specs.declared.refusal.Refusal.{Refusal}
use Rattle.evl_base.specs.declared.reply.Reply.{Reply}
use Rattle.evl_kernel.specs.state.States.{State, date}
use Rattle.evl_sched.specs.Threads.{is_oob, stage_of}
use Rattle.evl_scenario.specs.declared.steps.Step.{Step}
use Rattle.evl_shell.specs.Runs.{Moment, Turn, turn}
use Rattle.lab_schedules.specs.declared.places.Place.{Place}
use Rattle.lab_schedules.specs.declared.events.Event.{Event}
use Rattle.lab_schedules.specs.declared.events.Stretch.{Stretch}
use Rattle.lab_schedules.specs.declared.events.What.{What}
use Rattle.lab_schedules.specs.declared.words.Word.{Word}
use Rattle.lab_schedules.specs.Places.{nowhere}

pub record Played : Type 0 where
  -- the limit of the history, and how far it is
  pub limit : ℕ
  pub moment : Moment
  -- who has each mutex
  pub words : List Word
  -- where each task is
  pub places : List Place
  -- how many interrupts have come
  pub gone : ℕ
  pub events : List Event
  pub runs : List Stretch
  -- the cross-buffer into which nobody writes
  pub idle : XbufId
  pub has_groups : Bool

-- the hardware's thread
abbrev pub hardware : ThreadId
hardware = record { 0 = 0 }

-- the thread of a task
abbrev pub thread_of : ℕ → ThreadId
thread_of task = record { 0 = min (task + 1) (2 ^ 16 - 1) }

abbrev pub state : Played → State
state p = p.moment.state

abbrev pub now : Played → ℕ
now p = date p.moment.state

-- ---- calls

-- what a call does to the kernel and its history
abbrev pub call_turn : Played → ThreadId → Call → Turn
call_turn p who call = turn p.limit p.moment (record { who = who; call = call })

abbrev pub answer : Played → ThreadId → Call → Result Reply Refusal
answer p who call = (call_turn p who call).answer

abbrev pub called : Played → ThreadId → Call → Played
called p who call = record p { moment = (call_turn p who call).after }

-- the thread is out-of-band
abbrev pub is_oob_thread : Played → ThreadId → Bool
is_oob_thread p thread = is_oob (stage_of (state p).sched thread.0)

-- ---- places and events

abbrev pub place_at : Played → ℕ → Place
place_at p task = slice_index_or p.places task nowhere

abbrev pub with_place : Played → ℕ → Place → Played
with_place p task place = record p { places = slice_set p.places task place }

abbrev pub event : Played → ℕ → What → Event
event p task what = record { date = now p; task = task; job = (place_at p task).job; what = what }

abbrev pub told : Played → ℕ → What → Played
told p task what = record p { events = p.events ++ event p task what ∷ [] }
