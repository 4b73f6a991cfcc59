-- One timer: what it misses, when it fires next, and what it is after a fire.
use Rattle.std.specs.Prelude.{ℕ, ◌≡◌, ◌+◌, ◌-◌, ◌*◌, ◌/◌, ◌^◌, ◌==◌, nat_lt, min, Bool, Option, Some, None, if◌then◌else◌}
use Rattle.evl_base.specs.declared.stage.Stage.TheVariants.{Oob}
use Rattle.evl_pipeline.specs.declared.answer.Answer.{Answer}
use Rattle.evl_pipeline.specs.declared.fire.Fire.{Fire}
use Rattle.evl_pipeline.specs.declared.plan.Plan.{Plan}
use Rattle.evl_pipeline.specs.Counts.{one_more}
use Rattle.evl_pipeline.specs.Plans.{IsSound, answer_of, declares}
use Rattle.evl_clock.specs.declared.timer.Timer.{Timer}
use Rattle.evl_clock.specs.declared.timer_state.TimerState.{TimerState}
use Rattle.evl_clock.specs.declared.timer_state.TimerState.TheVariants.{Idle, Running, Ended}

-- rule: A timer's kinds are POST_SEM, POST_FLAGS and STOP_TIMER; any other bit is `Invalid`.
--   rows: kinds
-- the kinds that a timer's callback may declare: it neither hands its event on in-band nor posts an out-of-band line
abbrev pub timer_kinds : ℕ
timer_kinds = 1 + 2 + 16

-- all kinds that it declares are among these
abbrev pub is_timer_allowed : ℕ → Bool
is_timer_allowed kinds = declares timer_kinds kinds

-- rule: A fire misses `(now - date) / interval` periods; the next date is the first after now. With interval 0 the
--   timer becomes idle; past 2^64 - 1 it has ended.
--   also: Timers.{next_date, state_after}
--   clauses: TimerState::{date, missed, after_fire}
--   rows: periodic_timer; end_of_time; past_the_end; next_date_past_the_end; timer_misses_periods
-- how many whole periods lie between its date and now
abbrev pub missed_of : ℕ → ℕ → ℕ → ℕ
missed_of now date interval = if interval == 0 then 0 else (now - date) / interval

-- the first date after now that is a whole number of periods after its date
abbrev pub next_date : ℕ → ℕ → ℕ → ℕ
next_date now date interval = date + interval * (missed_of now date interval + 1)

-- with an interval a timer goes on, as long as there is a next date
abbrev pub going_on : ℕ → ℕ → ℕ → TimerState
going_on now date interval = if nat_lt (next_date now date interval) (2 ^ 64) then Running (next_date now date interval) interval else Ended

abbrev pub state_after : ℕ → TimerState → TimerState
state_after now (Running date interval) = if interval == 0 then Idle else going_on now date interval
state_after now Idle = Idle
state_after now Ended = Ended

-- what a fire misses
abbrev pub missed_periods : ℕ → TimerState → ℕ
missed_periods now (Running date interval) = missed_of now date interval
missed_periods now Idle = 0
missed_periods now Ended = 0

-- the date at which a timer fires
abbrev pub date_of : TimerState → Option ℕ
date_of (Running date interval) = Some date
date_of Idle = None
date_of Ended = None

-- rule: Overruns and counts stop at 2^64 - 1. A start clears the overruns and keeps the count; a stop keeps both.
--   also: Timers.{started, stopped}
--   clauses: Clock::{start, stop}
--   rows: overruns_stay
-- the overruns stay at 2^64 - 1 once there
abbrev pub overrun : ℕ → ℕ → ℕ
overrun overruns more = min (overruns + more) 18446744073709551615

module _ {C : Type 0} where
  -- rule: A new timer is idle with count 0, also at a number used before.
  --   also: Clocks.with_new_timer
  --   clauses: Clock::new_timer: ok
  -- a timer that was never started
  abbrev pub made : C → ℕ → Timer C
  made callback tag = record { callback = callback; tag = tag; count = 0; overruns = 0; state = Idle }

  abbrev pub started : Timer C → ℕ → ℕ → Timer C
  started t date interval = record t { overruns = 0; state = Running date interval }

  -- the overruns are kept
  abbrev pub stopped : Timer C → Timer C
  stopped t = record t { state = Idle }

  -- rule: An unhandled fire counts, misses and moves the date as any other.
  --   rows: stops_itself
  -- a timer after its fire
  abbrev pub after_fire : ℕ → Timer C → Timer C
  after_fire now t = record t {
    count = one_more t.count;
    overruns = overrun t.overruns (missed_periods now t.state);
    state = state_after now t.state;
  }

  -- rule: The stored callback is called with exactly line 0, stage oob, the timer's tag, its count and the date now.
  --   also: Timers.HasFired
  --   clauses: Clock::next_due
  --   rows: periodic_timer
  -- the next call of a timer's callback
  abbrev pub fire_of : Timer C → ℕ → Fire
  fire_of t now = record { line = record { 0 = 0 }; stage = Oob; tag = t.tag; count = one_more t.count; moment = now }

  -- a timer fires: its callback is called with just this fire, and answers its plan
  pub record HasFired (declared : C → ℕ) (plan : C → Plan) (gives : C → Fire → Answer → Type 0) (now : ℕ) (old : Timer C) (fire : Fire) (misses : ℕ) (answer : Answer) : Type 0 where
    pub fire_is : fire ≡ fire_of old now
    pub called : gives old.callback fire answer
    pub answered : answer ≡ answer_of (plan old.callback) (one_more old.count)
    pub misses_is : misses ≡ missed_periods now old.state
    pub sound : IsSound (declared old.callback) (plan old.callback)
