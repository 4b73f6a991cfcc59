use Rattle.std.proofs.Common.{◌≡◌, ◌+◌, ◌≤◌, false, ◌∷◌, [], ◌++◌, List, sym, ◌∙◌, subst, arith}
use Rattle.evl_base.specs.declared.play.Play.{Play}
use Rattle.evl_kernel.specs.state.RecordsInside.{records_view}
use Rattle.evl_kernel.specs.state.Limits.{play_limit}
use Rattle.evl_kernel.specs.state.Records.{state_of, whereabouts}
use Rattle.evl_kernel.specs.settling.Settled.{settling, left_after}
use Rattle.evl_kernel.proofs.state.CallbackLaws.{keeps-none, keeps-both, answers-kept}
use Rattle.evl_kernel.proofs.settling.SettlingLaws.{PlaysOn, called_before, plays_on-none, plays_on-more, left_at_first, stalled_settles}
use Rattle.evl_kernel.proofs.records.Records.play_pending.Goals as goal

pub returns-then-is_stalled-clause-settled : goal.returns-then-is_stalled-clause-settled
returns-then-is_stalled-clause-settled g c =
    rw (← c.self.view_is) (stalled_settles g.C.Handler.gives (whereabouts (records_view c.self.inside)) g.C.Handler.declared g.C.Handler.plan (records_view c.self.inside) c.args.plays.now.items (sym c.is_stalled.ensures.stalled ∙ c.if-is_stalled.true))

pub loop-play-init : goal.loop-play-init
loop-play-init g c =
    let first : left_after (state_of c.args.self.now) 0 ≤ play_limit = rw (← c.self.view_is) (left_at_first (records_view c.self.inside) c.is_stalled.ensures.sound c.self.invariant.clock_sound) in
    record {
      path = plays_on-none g.C.Handler.gives (whereabouts c.args.self.now) (settling c.args.self.now 0 false) c.args.plays.now.items;
      room = omega (arith, first, c.requires.room);
      few = omega (arith, first);
      capacity = omega arith;
      inband = omega arith;
      stands = keeps-none c.args.self.now;
    }

pub play_next-requires-clause-by_plan : goal.play_next-requires-clause-by_plan
play_next-requires-clause-by_plan g c =
    answers-kept g.C.Handler.declared g.C.Handler.plan c.args.self.now c.loop-play.self c.loop-play.invariant.stands c.requires.by_plan

pub loop-play-preserved : goal.loop-play-preserved
loop-play-preserved g c =
    let pushed : c.push.new.self.items ≡ c.loop-play.plays.items ++ c.in-Some.play ∷ [] = rw c.unwrap.ensures at c.push.ensures.items in
    let near = rw (sym c.counted_inband-inband.ensures) at c.in-Some.ensures.nearer in
    record {
      path = subst (λ (ps : List Play). PlaysOn g.C.Handler.gives (whereabouts c.args.self.now) (settling c.args.self.now 0 false) c.args.plays.now.items (settling c.play_next.new.self (c.loop-play.inband + c.counted_inband-inband.result) c.is_of_clock-of_clock.result) ps) (sym pushed)
          (plays_on-more g.C.Handler.gives (whereabouts c.args.self.now) (settling c.args.self.now 0 false) c.args.plays.now.items (settling c.loop-play.self c.loop-play.inband c.loop-play.of_clock) c.loop-play.plays.items c.in-Some.play _
          c.loop-play.invariant.path (rw (sym c.counted_inband-inband.ensures, sym c.is_of_clock-of_clock.ensures) at c.in-Some.ensures.played)
          (called_before g.C.Handler.gives (whereabouts c.loop-play.self) (whereabouts c.args.self.now) c.loop-play.invariant.stands.brings (state_of c.loop-play.self) c.in-Some.play c.in-Some.ensures.called));
      room = omega (arith, near);
      few = omega (arith, near);
      capacity = omega arith;
      inband = rw c.counted_inband-inband.ensures c.in-Some.ensures.few;
      stands = keeps-both c.args.self.now c.loop-play.self c.play_next.new.self c.loop-play.invariant.stands c.play_next.ensures.stands;
    }
