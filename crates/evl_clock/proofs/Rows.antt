-- Worked rows, computed from the definitions. Each callback is here the plan that it answers.
use Rattle.std.proofs.Common.{◌≡◌, ℕ, [], Some, None, replicate, option_map, refl}
use Rattle.evl_base.specs.declared.refusal.Refusal.TheVariants.{Unknown, Invalid, Limit, Range}
use Rattle.evl_pipeline.specs.declared.plan.Plan.{Plan}
use Rattle.evl_clock.specs.declared.timer_state.TimerState.TheVariants.{Idle, Running, Ended}
use Rattle.evl_clock.specs.Clocks.{Clock, advance_refusal, advanced, dropped, free_place, new_timer_refusal, opening, start, stop, timer_at, timer_refusal, with_deadline, with_new_timer}
use Rattle.evl_clock.specs.ClockSteps.{fired}
use Rattle.evl_clock.specs.Dues.{deadline, due_count, next_due, timer}
use Rattle.evl_clock.specs.Limits.{timer_count}
use Rattle.evl_clock.specs.declared.timer.Timer.{Timer}
use Rattle.evl_clock.specs.Timers.{after_fire, made, missed_periods, overrun, state_after, stopped}

abbrev quiet : Plan
quiet = record { accepts = 1; rows = record { items = [] } }

-- a clock with one timer
abbrev one_timer : Clock Plan
one_timer = with_new_timer (opening 64) 0 quiet 0

abbrev running : ℕ → ℕ → Timer Plan
running date interval = record (made quiet 0) { state = Running date interval }

-- date 100, interval 10, at 135: three periods are missed, and the next date is 140
abbrev periodic : Clock Plan
periodic = advanced (start one_timer 0 100 10) 135

periodic_timer-next : next_due periodic ≡ Some (timer 0)
unfolding opening next_due
periodic_timer-next = refl

periodic_timer-missed : missed_periods 135 (Running 100 10) ≡ 3
periodic_timer-missed = refl

periodic_timer-after : timer_at (fired periodic 0 (running 100 10)) 0 ≡ Some (record (running 140 10) { count = 1; overruns = 3 })
unfolding opening
periodic_timer-after = refl

periodic_timer-rest : next_due (advanced (fired periodic 0 (running 100 10)) 4) ≡ None
unfolding opening next_due
periodic_timer-rest = refl

periodic_timer-again : next_due (advanced (fired periodic 0 (running 100 10)) 5) ≡ Some (timer 0)
unfolding opening next_due
periodic_timer-again = refl

-- the next date would be past the end of time
end_of_time-ended : state_after 18446744073709551615 (Running 18446744073709551611 10) ≡ Ended
end_of_time-ended = refl

end_of_time-range : advance_refusal (advanced one_timer 18446744073709551615) 1 ≡ Some Range
unfolding opening
end_of_time-range = refl

-- a next date of exactly 2^64 - 1 still runs
end_of_time-runs : state_after 18446744073709551610 (Running 18446744073709551605 10) ≡ Running 18446744073709551615 10
end_of_time-runs = refl

-- an interval that leads past the end, from any date on: the timer has fired for the last time
past_the_end-longest : state_after 1 (Running 1 18446744073709551615) ≡ Ended
past_the_end-longest = refl

past_the_end-ended : next_due (advanced (fired (start one_timer 0 0 18446744073709551615) 0 (running 0 18446744073709551615)) 18446744073709551614) ≡ None
unfolding opening next_due
past_the_end-ended = refl

-- it runs on where its next date is the last one
past_the_end-last : state_after 0 (Running 0 18446744073709551615) ≡ Running 18446744073709551615 18446744073709551615
past_the_end-last = refl

-- overruns at 2^64 - 1 stay there
overruns_stay-one_more : (after_fire 20 (record (running 10 10) { overruns = 18446744073709551615 })).overruns ≡ 18446744073709551615
overruns_stay-one_more = refl

overruns_stay-just : overrun 18446744073709551614 1 ≡ 18446744073709551615
overruns_stay-just = refl

-- each nanosecond of all time is missed
overruns_stay-all : (after_fire 18446744073709551615 (running 0 1)).overruns ≡ 18446744073709551615
overruns_stay-all = refl

-- a start clears them, and a stop keeps them
overruns_stay-stopped : (stopped (record (running 10 10) { overruns = 3 })).overruns ≡ 3
overruns_stay-stopped = refl

-- on one date the timer goes first, and else the lower date
timer_before_deadline-same : next_due (advanced (with_deadline (start one_timer 0 50 0) 1 (Some 50)) 50) ≡ Some (timer 0)
unfolding opening next_due
timer_before_deadline-same = refl

timer_before_deadline-sooner : next_due (advanced (with_deadline (start one_timer 0 50 0) 1 (Some 49)) 50) ≡ Some (deadline 1)
unfolding opening next_due
timer_before_deadline-sooner = refl

-- of two deadlines of one date that of the lower thread goes first
timer_before_deadline-threads : next_due (advanced (with_deadline (with_deadline one_timer 63 (Some 50)) 1 (Some 50)) 50) ≡ Some (deadline 1)
unfolding opening next_due
timer_before_deadline-threads = refl

-- date 0 and interval 0 at date 0: it is due at once, and idle afterwards
clock_1-next : next_due (start one_timer 0 0 0) ≡ Some (timer 0)
unfolding opening next_due
clock_1-next = refl

clock_1-after : timer_at (fired (start one_timer 0 0 0) 0 (running 0 0)) 0 ≡ Some (record (made quiet 0) { count = 1 })
unfolding opening
clock_1-after = refl

-- stopped while it is due: nothing is due any more
clock_2-next : next_due (stop (start one_timer 0 0 0) 0) ≡ None
unfolding opening next_due
clock_2-next = refl

-- stopped while it runs for date 100: idle, and not due at 100
clock_3-running : option_map (λ t. t.state) (timer_at (start one_timer 0 100 0) 0) ≡ Some (Running 100 0)
unfolding opening
clock_3-running = refl

clock_3-stopped : option_map (λ t. t.state) (timer_at (stop (start one_timer 0 100 0) 0) 0) ≡ Some Idle
unfolding opening
clock_3-stopped = refl

clock_3-next : next_due (advanced (stop (start one_timer 0 100 0) 0) 100) ≡ None
unfolding opening next_due
clock_3-next = refl

-- 64 timers: the next is one too many, also where its kinds are allowed; kinds go first
abbrev full : Clock Plan
full = record { now = 0; timers = replicate timer_count (Some (made quiet 0)); deadlines = [] }

clock_4-full : new_timer_refusal full 19 ≡ Some Limit
clock_4-full = refl

clock_4-kinds_first : new_timer_refusal full 4 ≡ Some Invalid
clock_4-kinds_first = refl

-- the least place that is free takes the next one
clock_4-free : free_place (dropped (dropped full 40) 30) ≡ Some 30
clock_4-free = refl

-- dropped while it is due: nothing is due, and there is no such timer
dropped_while_due-next : next_due (dropped (start one_timer 0 0 10) 0) ≡ None
unfolding opening next_due
dropped_while_due-next = refl

dropped_while_due-gone : timer_refusal (dropped (start one_timer 0 0 10) 0) 0 ≡ Some Unknown
unfolding opening
dropped_while_due-gone = refl

-- what is due at its own date, and at another's, is counted
two_due : due_count (advanced (with_deadline (start one_timer 0 50 0) 63 (Some 49)) 50) ≡ 2
unfolding opening due_count
two_due = refl

-- each kind by itself, and a bit that names no kind
kinds-post_sem : new_timer_refusal one_timer 1 ≡ None
unfolding opening
kinds-post_sem = refl

kinds-propagate : new_timer_refusal one_timer 4 ≡ Some Invalid
kinds-propagate = refl

kinds-post_oob : new_timer_refusal one_timer 8 ≡ Some Invalid
kinds-post_oob = refl

kinds-none_such : new_timer_refusal one_timer 32 ≡ Some Invalid
kinds-none_such = refl

kinds-allowed : new_timer_refusal one_timer 19 ≡ None
unfolding opening
kinds-allowed = refl

no_timer : timer_refusal one_timer 1 ≡ Some Unknown
unfolding opening
no_timer = refl

next_place : free_place one_timer ≡ Some 1
unfolding opening
next_place = refl
