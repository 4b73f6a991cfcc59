use Rattle.evl_kernel.specs.state.Records.{state_of}
use Rattle.evl_kernel.proofs.state.CallbackLaws.{answers-kept, keeps-both}
use Rattle.evl_kernel.proofs.state.HomeLaws.{both_stages, comes_then}
use Rattle.evl_kernel.proofs.records.Records.bring_home.Goals as goal

pub free_lines-requires-2 : goal.free_lines-requires-2
free_lines-requires-2 g c = record { by_plan = answers-kept g.C.Handler.declared g.C.Handler.plan c.args.self.now c.free_lines.new.self c.free_lines.ensures.stands c.requires.by_plan }

pub drop_timers-requires : goal.drop_timers-requires
drop_timers-requires g c = record {
  by_plan = answers-kept g.C.Handler.declared g.C.Handler.plan c.args.self.now c.free_lines-2.new.self
      (keeps-both c.args.self.now c.free_lines.new.self c.free_lines-2.new.self c.free_lines.ensures.stands c.free_lines-2.ensures.stands) c.requires.by_plan;
}

pub returns : goal.returns
returns g c =
    let s = c.args.self.now in let t = c.free_lines.new.self in let u = c.free_lines-2.new.self in let v = c.drop_timers.new.self in
    record {
      comes = comes_then (state_of s) (state_of t) (state_of v) c.free_lines.ensures.comes (comes_then (state_of t) (state_of u) (state_of v) c.free_lines-2.ensures.comes c.drop_timers.ensures.comes);
      lines = λ stage line. c.drop_timers.ensures.lines stage line (both_stages (state_of t) (state_of u) c.free_lines.ensures.freed c.free_lines-2.ensures.others c.free_lines-2.ensures.freed stage line);
      timers = c.drop_timers.ensures.dropped;
      stands = keeps-both s t v c.free_lines.ensures.stands (keeps-both t u v c.free_lines-2.ensures.stands c.drop_timers.ensures.stands);
    }
