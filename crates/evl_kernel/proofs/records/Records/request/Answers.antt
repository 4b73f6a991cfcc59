use Rattle.std.proofs.Common.{◌≡◌, Some, None, sym, ◌∙◌, refl, arith}
use Rattle.std.proofs.lemmas.Option.{slice_get_within}
use Rattle.evl_pipeline.specs.Lines.{request_refusal}
use Rattle.evl_kernel.proofs.state.TimerLaws.{timers_allowed-kept}
use Rattle.evl_kernel.specs.state.RecordsInside.{records_view}
use Rattle.evl_kernel.proofs.state.BankLaws.{asked, declared_is, after_request, request_refused, request_busy, requested_state, requested_keeps, requested_allowed}
use Rattle.evl_kernel.proofs.records.Records.request.Goals as goal

never : {A : Type 0} {o : _} {x : A} → o ≡ None → o ≡ Some x → ⊥
never none some = cc

pub returns-in-Some-request_refusal-clause-served : goal.returns-in-Some-request_refusal-clause-served
returns-in-Some-request_refusal-clause-served g c =
    let r = records_view c.self.inside in
    let asked_of = asked c.self.inside.bank.items c.args.callback c.in-Some.kinds (sym c.kinds_in.ensures ∙ c.in-Some.is) in
    let place = asked_of.0 in
    let there = asked_of.1 in
    let refused : request_refusal r.lines c.args.line.0 c.args.stage place.kinds.0 ≡ Some c.in-Some-request_refusal.refusal =
    rw asked_of.2 (sym c.request_refusal.ensures.refusal ∙ c.in-Some-request_refusal.is) in
    rw (← c.self.view_is) (request_refused r c.args.line.0 c.args.stage c.args.callback c.args.tag place c.in-Some-request_refusal.refusal there refused, refl)

pub take_out-requires : goal.take_out-requires
take_out-requires g c =
    let r = records_view c.self.inside in
    let asked_of = asked c.self.inside.bank.items c.args.callback c.in-Some.kinds (sym c.kinds_in.ensures ∙ c.in-Some.is) in
    let place = asked_of.0 in
    let there = asked_of.1 in
    omega (arith, slice_get_within c.self.inside.bank.items c.args.callback place there)

pub returns-in_default-take_out-clause-served : goal.returns-in_default-take_out-clause-served
returns-in_default-take_out-clause-served g c =
    let r = records_view c.self.inside in
    let asked_of = asked c.self.inside.bank.items c.args.callback c.in-Some.kinds (sym c.kinds_in.ensures ∙ c.in-Some.is) in
    let place = asked_of.0 in
    let there = asked_of.1 in
    let none : request_refusal r.lines c.args.line.0 c.args.stage place.kinds.0 ≡ None = rw asked_of.2 (sym c.request_refusal.ensures.refusal ∙ c.in_default-request_refusal.is) in
    let out : place.callback ≡ None = sym (c.in_default-take_out.ensures.taken place there).0 in
    rw (← c.self.view_is, c.in_default-take_out.ensures.none) (request_busy r c.args.line.0 c.args.stage c.args.callback c.args.tag place there none out, refl)

pub invariant_of-self-in-Ok : goal.invariant_of-self-in-Ok
invariant_of-self-in-Ok g c =
    let r = records_view c.self.inside in
    let asked_of = asked c.self.inside.bank.items c.args.callback c.in-Some.kinds (sym c.kinds_in.ensures ∙ c.in-Some.is) in
    let place = asked_of.0 in
    let there = asked_of.1 in
    let by_plan = rw (← c.self.view_is) at c.requires.by_plan in
    let none : request_refusal r.lines c.args.line.0 c.args.stage place.kinds.0 ≡ None = rw asked_of.2 (sym c.request_refusal.ensures.refusal ∙ c.in_default-request_refusal.is) in
    let has : place.callback ≡ Some c.in-Some-take_out.taken = sym (c.in-Some-take_out.ensures.taken place there).0 in
    record {
      allowed = rw ((c.in-Some-take_out.ensures.taken place there).1, c.in-Ok.ensures.ok.1)
          (requested_allowed r c.args.line.0 c.args.stage c.args.callback c.args.tag c.in-Some-take_out.taken place there none c.self.invariant.allowed);
      timers_allowed = rw ((c.in-Some-take_out.ensures.taken place there).1)
          (timers_allowed-kept r (after_request r c.args.line.0 c.args.stage c.args.callback c.args.tag c.in-Some-take_out.taken place) (λ n at h. (at, h, refl))
          (requested_keeps r c.args.line.0 c.args.stage c.args.callback c.args.tag c.in-Some-take_out.taken place there has).handlers_are c.self.invariant.timers_allowed);
      clock_sound = c.self.invariant.clock_sound;
      ranks = c.self.invariant.ranks;
      waits = c.self.invariant.waits;
    }

pub returns-in-Ok-clause-served : goal.returns-in-Ok-clause-served
returns-in-Ok-clause-served g c =
    let r = records_view c.self.inside in
    let asked_of = asked c.self.inside.bank.items c.args.callback c.in-Some.kinds (sym c.kinds_in.ensures ∙ c.in-Some.is) in
    let place = asked_of.0 in
    let there = asked_of.1 in
    let by_plan = rw (← c.self.view_is) at c.requires.by_plan in
    let none : request_refusal r.lines c.args.line.0 c.args.stage place.kinds.0 ≡ None = rw asked_of.2 (sym c.request_refusal.ensures.refusal ∙ c.in_default-request_refusal.is) in
    let has : place.callback ≡ Some c.in-Some-take_out.taken = sym (c.in-Some-take_out.ensures.taken place there).0 in
    rw (← c.self.view_is, (c.in-Some-take_out.ensures.taken place there).1, c.in-Ok.ensures.ok.1)
    (requested_state r c.args.line.0 c.args.stage c.args.callback c.args.tag c.in-Some-take_out.taken place there none has)

pub returns-in-Ok-clause-stands : goal.returns-in-Ok-clause-stands
returns-in-Ok-clause-stands g c =
    let r = records_view c.self.inside in
    let asked_of = asked c.self.inside.bank.items c.args.callback c.in-Some.kinds (sym c.kinds_in.ensures ∙ c.in-Some.is) in
    let place = asked_of.0 in
    let there = asked_of.1 in
    let by_plan = rw (← c.self.view_is) at c.requires.by_plan in
    let none : request_refusal r.lines c.args.line.0 c.args.stage place.kinds.0 ≡ None = rw asked_of.2 (sym c.request_refusal.ensures.refusal ∙ c.in_default-request_refusal.is) in
    let has : place.callback ≡ Some c.in-Some-take_out.taken = sym (c.in-Some-take_out.ensures.taken place there).0 in
    rw (← c.self.view_is, (c.in-Some-take_out.ensures.taken place there).1, c.in-Ok.ensures.ok.1)
    (requested_keeps r c.args.line.0 c.args.stage c.args.callback c.args.tag c.in-Some-take_out.taken place there has)

pub put_back-requires : goal.put_back-requires
put_back-requires g c =
    let r = records_view c.self.inside in
    let asked_of = asked c.self.inside.bank.items c.args.callback c.in-Some.kinds (sym c.kinds_in.ensures ∙ c.in-Some.is) in
    let place = asked_of.0 in
    let there = asked_of.1 in
    let by_plan = rw (← c.self.view_is) at c.requires.by_plan in
    let none : request_refusal r.lines c.args.line.0 c.args.stage place.kinds.0 ≡ None = rw asked_of.2 (sym c.request_refusal.ensures.refusal ∙ c.in_default-request_refusal.is) in
    let has : place.callback ≡ Some c.in-Some-take_out.taken = sym (c.in-Some-take_out.ensures.taken place there).0 in
    let some = c.in-Err.ensures.refused in
    absurd (never none (rw (declared_is g.C.Handler.declared g.C.Handler.plan _ c.args.callback place c.in-Some-take_out.taken by_plan there has) at some))

pub invariant_of-self-in-Err : goal.invariant_of-self-in-Err
invariant_of-self-in-Err g c =
    let r = records_view c.self.inside in
    let asked_of = asked c.self.inside.bank.items c.args.callback c.in-Some.kinds (sym c.kinds_in.ensures ∙ c.in-Some.is) in
    let place = asked_of.0 in
    let there = asked_of.1 in
    let by_plan = rw (← c.self.view_is) at c.requires.by_plan in
    let none : request_refusal r.lines c.args.line.0 c.args.stage place.kinds.0 ≡ None = rw asked_of.2 (sym c.request_refusal.ensures.refusal ∙ c.in_default-request_refusal.is) in
    let has : place.callback ≡ Some c.in-Some-take_out.taken = sym (c.in-Some-take_out.ensures.taken place there).0 in
    let some = c.in-Err.ensures.refused in
    absurd (never none (rw (declared_is g.C.Handler.declared g.C.Handler.plan _ c.args.callback place c.in-Some-take_out.taken by_plan there has) at some))

pub returns-in-Err-clause-served : goal.returns-in-Err-clause-served
returns-in-Err-clause-served g c =
    let r = records_view c.self.inside in
    let asked_of = asked c.self.inside.bank.items c.args.callback c.in-Some.kinds (sym c.kinds_in.ensures ∙ c.in-Some.is) in
    let place = asked_of.0 in
    let there = asked_of.1 in
    let by_plan = rw (← c.self.view_is) at c.requires.by_plan in
    let none : request_refusal r.lines c.args.line.0 c.args.stage place.kinds.0 ≡ None = rw asked_of.2 (sym c.request_refusal.ensures.refusal ∙ c.in_default-request_refusal.is) in
    let has : place.callback ≡ Some c.in-Some-take_out.taken = sym (c.in-Some-take_out.ensures.taken place there).0 in
    let some = c.in-Err.ensures.refused in
    absurd (never none (rw (declared_is g.C.Handler.declared g.C.Handler.plan _ c.args.callback place c.in-Some-take_out.taken by_plan there has) at some))

pub returns-in-Err-clause-stands : goal.returns-in-Err-clause-stands
returns-in-Err-clause-stands g c =
    let r = records_view c.self.inside in
    let asked_of = asked c.self.inside.bank.items c.args.callback c.in-Some.kinds (sym c.kinds_in.ensures ∙ c.in-Some.is) in
    let place = asked_of.0 in
    let there = asked_of.1 in
    let by_plan = rw (← c.self.view_is) at c.requires.by_plan in
    let none : request_refusal r.lines c.args.line.0 c.args.stage place.kinds.0 ≡ None = rw asked_of.2 (sym c.request_refusal.ensures.refusal ∙ c.in_default-request_refusal.is) in
    let has : place.callback ≡ Some c.in-Some-take_out.taken = sym (c.in-Some-take_out.ensures.taken place there).0 in
    let some = c.in-Err.ensures.refused in
    absurd (never none (rw (declared_is g.C.Handler.declared g.C.Handler.plan _ c.args.callback place c.in-Some-take_out.taken by_plan there has) at some))
