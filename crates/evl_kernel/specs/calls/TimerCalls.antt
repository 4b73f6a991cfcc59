-- The calls on the date and the timers.
use Rattle.std.specs.Prelude.{ℕ, nat_le, Bool, not, false, [], ◌∷◌, Option, Some, None, Err, slice_get, if◌then◌else◌}
use Rattle.evl_base.specs.declared.refusal.Refusal.TheVariants.{Invalid, Busy, Limit}
use Rattle.evl_base.specs.declared.stage.Stage.TheVariants.{Oob}
use Rattle.evl_pipeline.specs.Lines as lines
use Rattle.evl_clock.specs.Timers.{is_timer_allowed}
use Rattle.evl_clock.specs.Clocks as clocks
use Rattle.evl_clock.specs.Dues.{is_due}
use Rattle.evl_kernel.specs.state.States.{State, Banked, with_lines, with_clock, with_banked, come_home}
use Rattle.evl_kernel.specs.calls.Effects.{Effect, done, tells, unless, known, refused_by}
use Rattle.evl_kernel.specs.calls.ThreadCalls.{paid_between}

-- an event of line 0, the clock's
abbrev pub posted_clock : State → State
posted_clock s = with_lines s (lines.posted s.lines Oob 0)

abbrev pub posted_if : Bool → State → State
posted_if due s = if due then posted_clock s else s

-- the date moves, and line 0 is posted where something is due then
abbrev pub alarmed : State → State
alarmed s = posted_if (is_due s.clock) s

-- the date moves
abbrev pub at_date : State → ℕ → State
at_date s delta = with_clock s (clocks.advanced s.clock delta)

-- who is picked before the date moves is charged, and a new second refills the quota groups
abbrev pub paid : State → ℕ → State
paid s delta = paid_between s s.clock.now delta (clocks.advanced s.clock delta).now

-- rule: A tick charges the thread picked before it, moves the date, refills the quota groups at a new second, then
--   posts line 0.
--   also: TimerCalls.paid; ThreadCalls.paid_between
--   rows: round_robin; slices; nobody_is_charged
abbrev pub tick : State → ℕ → Effect
tick s delta = refused_by (clocks.advance_refusal s.clock delta) (done (alarmed (at_date (paid s delta) delta)))

abbrev pub now : State → Effect
now s = tells s.clock.now s

-- the callback leaves its bank place for the timer of the least free number
abbrev pub place_timer : State → ℕ → ℕ → Banked → Option ℕ → Effect
place_timer s number tag b None = Err Limit
place_timer s number tag b (Some n) = tells n (with_banked (with_clock s (clocks.with_new_timer s.clock n number tag)) false number b)

-- refusals: NewTimer, StartTimer, StopTimer, DropTimer, Overruns, Tick
--   also: TimerCalls.{start_timer, stop_timer, drop_timer, overruns, tick}
abbrev pub new_timer : State → ℕ → ℕ → Effect
new_timer s number tag = known (slice_get s.bank number) (λ b.
    unless ((not (is_timer_allowed b.handler.kinds), Invalid) ∷ (not b.home, Busy) ∷ []) (place_timer s number tag b (clocks.free_place s.clock)))

-- rule: A started timer posts line 0 exactly if its date is not after now, a tick if anything is due then. Line 0 stays
--   pending if a due timer is stopped or dropped.
--   also: TimerCalls.{alarmed, stop_timer, drop_timer}
--   rows: clock_2; dropped_while_pending
-- a timer runs; a date that is not after now posts line 0 at once
abbrev pub with_running : State → ℕ → ℕ → ℕ → State
with_running s n date interval = posted_if (nat_le date s.clock.now) (with_clock s (clocks.start s.clock n date interval))

abbrev pub start_timer : State → ℕ → ℕ → ℕ → Effect
start_timer s n date interval = refused_by (clocks.timer_refusal s.clock n) (done (with_running s n date interval))

-- line 0 stays pending
abbrev pub stop_timer : State → ℕ → Effect
stop_timer s n = refused_by (clocks.timer_refusal s.clock n) (done (with_clock s (clocks.stop s.clock n)))

-- its callback is back in its bank place
abbrev pub drop_timer : State → ℕ → Effect
drop_timer s n = known (clocks.timer_at s.clock n) (λ t. done (come_home (with_clock s (clocks.dropped s.clock n)) t.callback))

abbrev pub overruns : State → ℕ → Effect
overruns s n = known (clocks.timer_at s.clock n) (λ t. tells t.overruns s)
