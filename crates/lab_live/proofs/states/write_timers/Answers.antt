use Rattle.std.proofs.Common.{string_bytes}
use Rattle.lab_live.specs.States.{timer_line}
use Rattle.lab_live.proofs.StateLaws.{lines_more, lines_none}
use Rattle.lab_live.proofs.states.write_timers.Goals as goal

pub loop-timer-init : goal.loop-timer-init
loop-timer-init g c = let h = c.args.kernel.now.history in lines_none (timer_line h.state) (string_bytes c.args.told.now)

pub loop-timer-preserved : goal.loop-timer-preserved
loop-timer-preserved g c =
    let h = c.args.kernel.now.history in
    lines_more (timer_line h.state) c.loop-timer.timer (string_bytes c.args.told.now) (string_bytes c.loop-timer.told) (string_bytes c.write_timer.new.told) c.loop-timer.invariant
    c.in_ok-write_timer.ensures
