-- How many places there are.
use Rattle.std.specs.Prelude.{ℕ}
use Rattle.evl_base.specs.Limits.{thread_limit}

-- rule: There are 64 timers, and one deadline for each of at most 256 threads; a new one replaces it.
--   also: Limits.thread_count; Clocks.with_deadline
--   clauses: Clock::set_deadline; Clock::clear_deadline: state
--   rows: a_clock_has_deadlines_for_its_threads
-- the places for timers, from 0 on
abbrev pub timer_count : ℕ
timer_count = 64

-- the threads whose waits may have a deadline, from 0 on, at most
abbrev pub thread_count : ℕ
thread_count = thread_limit
