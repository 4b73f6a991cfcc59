-- The clock: the date, the timers by their numbers, and the deadlines of waits by their threads.
use Rattle.std.specs.Prelude.{ℕ, ◌≡◌, ◌≤◌, ◌+◌, ◌^◌, min, nat_le, not, List, length, position, replicate, Option, Some, None, is_some, is_none, option_map, slice_index_or, slice_set, if◌then◌else◌}
use Rattle.evl_base.specs.declared.refusal.Refusal.{Refusal}
use Rattle.evl_base.specs.declared.refusal.Refusal.TheVariants.{Unknown, Invalid, Limit, Range}
use Rattle.evl_clock.specs.declared.timer.Timer.{Timer}
use Rattle.evl_clock.specs.Limits.{thread_count, timer_count}
use Rattle.evl_clock.specs.Timers.{made, started, stopped, is_timer_allowed}

pub record Clock (C : Type 0) : Type 0 where
  pub now : ℕ
  pub timers : List (Option (Timer C))
  pub deadlines : List (Option ℕ)

module _ {C : Type 0} where
  -- rule: The date begins at 0, with no timers and no deadlines.
  --   clauses: Clock::{new, for_threads, now}
  --   rows: clock_1
  -- no time has passed, there are no timers and no deadlines; so many threads may have one, or the most that may
  unfoldable pub opening : ℕ → Clock C
  opening threads = record { now = 0; timers = replicate timer_count None; deadlines = replicate (min threads thread_count) None }

  -- a place for each timer, and for each thread that may have a deadline
  pub record IsSoundClock (c : Clock C) : Type 0 where
    pub timers : length c.timers ≡ timer_count
    pub deadlines : length c.deadlines ≤ thread_count

  abbrev pub timer_at : Clock C → ℕ → Option (Timer C)
  timer_at c n = slice_index_or c.timers n None

  abbrev pub with_timer : Clock C → ℕ → Option (Timer C) → Clock C
  with_timer c n t = record c { timers = slice_set c.timers n t }

  abbrev pub deadline_at : Clock C → ℕ → Option ℕ
  deadline_at c thread = slice_index_or c.deadlines thread None

  abbrev pub with_deadline : Clock C → ℕ → Option ℕ → Clock C
  with_deadline c thread until = record c { deadlines = slice_set c.deadlines thread until }

  -- rule: A new timer gets the least free number; the 65th is `Limit`, with its callback. Refusals are exact, in order,
  --   and change nothing.
  --   also: Clocks.{new_timer_refusal, start, stop}
  --   clauses: Clock::{new_timer, drop_timer, overruns, state, set_deadline, clear_deadline}
  --   rows: clock_4; sixty_five_timers; timer_refusals; next_place; no_timer
  -- the least free number
  abbrev pub free_place : Clock C → Option ℕ
  free_place c = position is_none c.timers

  -- refusals: Clock::new_timer
  --   order: Invalid (kinds), Limit; with the callback
  -- The first that applies: a kind is declared that isn't allowed for timers; there is no free place.
  abbrev pub new_timer_refusal : Clock C → ℕ → Option Refusal
  new_timer_refusal c kinds =
      if not (is_timer_allowed kinds) then Some Invalid
      else (if is_some (free_place c) then None else Some Limit)

  abbrev pub with_new_timer : Clock C → ℕ → C → ℕ → Clock C
  with_new_timer c n callback tag = with_timer c n (Some (made callback tag))

  -- refusals: Clock::drop_timer, start, stop, overruns
  --   order: Unknown
  -- there is no such timer
  abbrev pub timer_refusal : Clock C → ℕ → Option Refusal
  timer_refusal c n = if is_some (timer_at c n) then None else Some Unknown

  abbrev pub changed : (Timer C → Timer C) → Clock C → ℕ → Clock C
  changed f c n = with_timer c n (option_map f (timer_at c n))

  abbrev pub start : Clock C → ℕ → ℕ → ℕ → Clock C
  start c n date interval = changed (λ t. started t date interval) c n

  -- rule: A due timer that is stopped or dropped is no longer due.
  --   also: Clocks.dropped
  --   rows: clock_2; clock_3; dropped_while_due; a_stopped_timer_is_idle
  abbrev pub stop : Clock C → ℕ → Clock C
  stop = changed stopped

  -- the timer is gone
  abbrev pub dropped : Clock C → ℕ → Clock C
  dropped c n = with_timer c n None

  -- refusals: Clock::advance
  --   order: Range
  -- the date would be past 2^64 - 1
  abbrev pub advance_refusal : Clock C → ℕ → Option Refusal
  advance_refusal c delta = if nat_le (2 ^ 64) (c.now + delta) then Some Range else None

  abbrev pub advanced : Clock C → ℕ → Clock C
  advanced c delta = record c { now = c.now + delta }
