use Rattle.std.proofs.Common.{◌∙◌, arith}
use Rattle.std.specs.Option.{option_map}
use Rattle.std.proofs.lemmas.List.{length-map}
use Rattle.evl_kernel.specs.state.Records.{number_of, state_of}
use Rattle.evl_kernel.specs.state.Renamed.{named_timer}
use Rattle.evl_kernel.proofs.state.CallbackLaws.{answers-kept, keeps-both, keeps-none}
use Rattle.evl_kernel.proofs.state.HomeLaws.{comes_nowhere, comes_then, drops_timer, have_places, timers_below, timers_none}
use Rattle.evl_kernel.proofs.records.Records.drop_timers.Goals as goal

pub loop-timer-init : goal.loop-timer-init
loop-timer-init g c = record {
  comes = comes_nowhere (state_of c.args.self.now);
  dropped = λ timer below. absurd (omega (arith, below));
  size = rw (← c.self.view_is) (length-map c.self.inside.clock.timers (option_map (named_timer number_of)) ∙ c.self.invariant.clock_sound.timers);
  lines = λ stage line none. none;
  stands = keeps-none c.args.self.now;
}

pub drop_timer-requires : goal.drop_timer-requires
drop_timer-requires g c = record { by_plan = answers-kept g.C.Handler.declared g.C.Handler.plan c.args.self.now c.loop-timer.self c.loop-timer.invariant.stands c.requires.by_plan }

pub loop-timer-preserved : goal.loop-timer-preserved
loop-timer-preserved g c =
    let s = c.args.self.now in let t = c.loop-timer.self in let u = c.drop_timer.new.self in let is = c.loop-timer.invariant in let timer = c.loop-timer.timer in
    let answers = answers-kept g.C.Handler.declared g.C.Handler.plan s t is.stands c.requires.by_plan in
    let one = drops_timer (state_of t) (have_places g.C.Handler.declared g.C.Handler.plan t answers) timer c.drop_timer.result (state_of u) c.drop_timer.ensures.served in
    record {
      comes = comes_then (state_of s) (state_of t) (state_of u) is.comes one.comes;
      dropped = timers_below (state_of t) (state_of u) timer one is.dropped;
      size = one.size ∙ is.size;
      lines = λ stage line none. one.lines stage line (is.lines stage line none);
      stands = keeps-both s t u is.stands c.drop_timer.ensures.stands;
    }

pub returns : goal.returns
returns g c =
    let is = c.loop-timer.invariant in
    record {
      comes = is.comes;
      dropped = λ timer. timers_none (state_of c.loop-timer.self) c.loop-timer.timer timer is.dropped (omega (arith, is.size, c.loop-timer-test.false));
      lines = is.lines;
      stands = is.stands;
    }
