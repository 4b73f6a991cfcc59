use Rattle.std.proofs.Common.{arith}
use Rattle.std.proofs.lemmas.Option.{slice_get_within}
use Rattle.evl_kernel.proofs.state.TimerLaws.{was_in, dropped_state, dropped_keeps, dropped_allowed, dropped_timers_allowed, dropped_sound}
use Rattle.evl_kernel.specs.state.RecordsInside.{records_view}
use Rattle.evl_kernel.proofs.records.Records.drop_timer.Goals as goal

pub put_back-requires : goal.put_back-requires
put_back-requires g c =
    let out = was_in g.C.Handler.declared g.C.Handler.plan (records_view c.self.inside)
    c.args.timer.0 c.in_ok-numbered.numbered (rw (← c.self.view_is) at c.requires.by_plan) c.in_ok-numbered.ensures.ok.1 in
    omega (arith, slice_get_within c.self.inside.bank.items c.in_ok-numbered.numbered.number out.place out.there)

pub invariant_of-self-2 : goal.invariant_of-self-2
invariant_of-self-2 g c =
    let r = records_view c.self.inside in
    let out = was_in g.C.Handler.declared g.C.Handler.plan r
    c.args.timer.0 c.in_ok-numbered.numbered (rw (← c.self.view_is) at c.requires.by_plan) c.in_ok-numbered.ensures.ok.1 in
    record {
      allowed = rw (c.put_back.ensures.put out.place out.there) (dropped_allowed r c.args.timer.0 c.in_ok-numbered.numbered out c.self.invariant.allowed);
      timers_allowed = rw (c.put_back.ensures.put out.place out.there, c.in_ok-numbered.ensures.state) (dropped_timers_allowed r c.args.timer.0 c.in_ok-numbered.numbered out c.self.invariant.timers_allowed);
      clock_sound = rw c.in_ok-numbered.ensures.state (dropped_sound r c.args.timer.0 c.self.invariant.clock_sound);
      ranks = c.self.invariant.ranks;
      waits = c.self.invariant.waits;
    }

pub returns-clause-served : goal.returns-clause-served
returns-clause-served g c =
    let r = records_view c.self.inside in
    let out = was_in g.C.Handler.declared g.C.Handler.plan r
    c.args.timer.0 c.in_ok-numbered.numbered (rw (← c.self.view_is) at c.requires.by_plan) c.in_ok-numbered.ensures.ok.1 in
    rw (← c.self.view_is, c.put_back.ensures.put out.place out.there, c.in_ok-numbered.ensures.state) (dropped_state r c.args.timer.0 c.in_ok-numbered.numbered out)

pub returns-clause-stands : goal.returns-clause-stands
returns-clause-stands g c =
    let r = records_view c.self.inside in
    let out = was_in g.C.Handler.declared g.C.Handler.plan r
    c.args.timer.0 c.in_ok-numbered.numbered (rw (← c.self.view_is) at c.requires.by_plan) c.in_ok-numbered.ensures.ok.1 in
    rw (← c.self.view_is, c.put_back.ensures.put out.place out.there, c.in_ok-numbered.ensures.state) (dropped_keeps r c.args.timer.0 c.in_ok-numbered.numbered out)
