use Rattle.std.proofs.Common.{arith, refl}
use Rattle.std.proofs.lemmas.Option.{slice_get_within}
use Rattle.evl_kernel.proofs.state.BankLaws.{was_out, back, back_state, back_keeps, back_allowed}
use Rattle.evl_kernel.proofs.state.TimerLaws.{timers_allowed-kept}
use Rattle.evl_kernel.specs.state.RecordsInside.{records_view}
use Rattle.evl_kernel.proofs.records.Records.free.Goals as goal

pub put_back-requires : goal.put_back-requires
put_back-requires g c =
    let out = was_out g.C.Handler.declared g.C.Handler.plan (records_view c.self.inside)
    c.args.stage c.args.line.0 c.in_ok-numbered.numbered (rw (← c.self.view_is) at c.requires.by_plan) c.in_ok-numbered.ensures.ok.1 in
    omega (arith, slice_get_within c.self.inside.bank.items c.in_ok-numbered.numbered.number out.place out.there)

pub invariant_of-self-2 : goal.invariant_of-self-2
invariant_of-self-2 g c =
    let r = records_view c.self.inside in
    let out = was_out g.C.Handler.declared g.C.Handler.plan r
    c.args.stage c.args.line.0 c.in_ok-numbered.numbered (rw (← c.self.view_is) at c.requires.by_plan) c.in_ok-numbered.ensures.ok.1 in
    record {
      allowed = rw (c.put_back.ensures.put out.place out.there, c.in_ok-numbered.ensures.state)
          (back_allowed r c.args.line.0 c.args.stage c.in_ok-numbered.numbered out c.self.invariant.allowed);
      timers_allowed = rw (c.put_back.ensures.put out.place out.there)
          (timers_allowed-kept r (back r c.args.line.0 c.args.stage c.in_ok-numbered.numbered out.place) (λ n at h. (at, h, refl))
          (back_keeps r c.args.line.0 c.args.stage c.in_ok-numbered.numbered out).handlers_are c.self.invariant.timers_allowed);
      clock_sound = c.self.invariant.clock_sound;
      ranks = c.self.invariant.ranks;
      waits = c.self.invariant.waits;
    }

pub returns-clause-served : goal.returns-clause-served
returns-clause-served g c =
    let r = records_view c.self.inside in
    let out = was_out g.C.Handler.declared g.C.Handler.plan r
    c.args.stage c.args.line.0 c.in_ok-numbered.numbered (rw (← c.self.view_is) at c.requires.by_plan) c.in_ok-numbered.ensures.ok.1 in
    rw (← c.self.view_is, c.put_back.ensures.put out.place out.there, c.in_ok-numbered.ensures.state)
    (back_state r c.args.line.0 c.args.stage c.in_ok-numbered.numbered out c.in_ok-numbered.ensures.ok.0)

pub returns-clause-stands : goal.returns-clause-stands
returns-clause-stands g c =
    let r = records_view c.self.inside in
    let out = was_out g.C.Handler.declared g.C.Handler.plan r
    c.args.stage c.args.line.0 c.in_ok-numbered.numbered (rw (← c.self.view_is) at c.requires.by_plan) c.in_ok-numbered.ensures.ok.1 in
    rw (← c.self.view_is, c.put_back.ensures.put out.place out.there, c.in_ok-numbered.ensures.state)
    (back_keeps r c.args.line.0 c.args.stage c.in_ok-numbered.numbered out)
