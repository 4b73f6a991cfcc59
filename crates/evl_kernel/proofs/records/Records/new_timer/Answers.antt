use Rattle.std.proofs.Common.{◌≡◌, true, Some, None, List, length, sym, ap, ◌∙◌, refl, arith}
use Rattle.std.proofs.lemmas.List.{length-set}
use Rattle.std.proofs.lemmas.Option.{slice_get_within}
use Rattle.evl_clock.specs.Timers.{is_timer_allowed}
use Rattle.evl_kernel.specs.declared.bank.BankPlace.{BankPlace}
use Rattle.evl_kernel.specs.declared.bank.Numbered.{Numbered}
use Rattle.evl_kernel.specs.state.RecordsInside.{records_view}
use Rattle.evl_kernel.proofs.state.BankLaws.{asked, declared_is}
use Rattle.evl_kernel.proofs.state.CallbackLaws.{keeps-none}
use Rattle.evl_kernel.proofs.state.TimerLaws.{new_busy, new_state, new_keeps, new_allowed, new_timers_allowed, new_limit, sound-with_timer, taken_there, restored, is_full}
use Rattle.evl_kernel.proofs.records.Records.new_timer.Goals as goal

pub returns-in_default-take_out-clause-served : goal.returns-in_default-take_out-clause-served
returns-in_default-take_out-clause-served g c =
    let r = records_view c.self.inside in
    let asked_of = asked c.self.inside.bank.items c.args.callback c.in-Some.kinds (sym c.kinds_in.ensures ∙ c.in-Some.is) in
    let place = asked_of.0 in
    let there = asked_of.1 in
    let allowed : is_timer_allowed place.kinds.0 ≡ true = rw asked_of.2 (sym c.is_timer_allowed.ensures.allowed ∙ c.if-not-is_timer_allowed.false) in
    let out : place.callback ≡ None = sym (c.in_default-take_out.ensures.taken place there).0 in
    rw (← c.self.view_is, c.in_default-take_out.ensures.none) (new_busy r c.args.callback c.args.tag place there allowed out, refl)

pub invariant_of-self-in-Ok : goal.invariant_of-self-in-Ok
invariant_of-self-in-Ok g c =
    let r = records_view c.self.inside in
    let asked_of = asked c.self.inside.bank.items c.args.callback c.in-Some.kinds (sym c.kinds_in.ensures ∙ c.in-Some.is) in
    let place = asked_of.0 in
    let there = asked_of.1 in
    let allowed : is_timer_allowed place.kinds.0 ≡ true = rw asked_of.2 (sym c.is_timer_allowed.ensures.allowed ∙ c.if-not-is_timer_allowed.false) in
    let has : place.callback ≡ Some c.in-Some-take_out.taken = sym (c.in-Some-take_out.ensures.taken place there).0 in
    let out = (c.in-Some-take_out.ensures.taken place there).1 in
    record {
      allowed = rw out (new_allowed r c.in-Ok.timer.0 c.args.callback c.args.tag c.in-Some-take_out.taken place there c.self.invariant.allowed);
      timers_allowed = rw (out, c.in-Ok.ensures.ok.2) (new_timers_allowed r c.in-Ok.timer.0 c.args.callback c.args.tag c.in-Some-take_out.taken place there allowed c.self.invariant.timers_allowed);
      clock_sound = rw c.in-Ok.ensures.ok.2 (sound-with_timer c.self.inside.clock c.in-Ok.timer.0 _ c.self.invariant.clock_sound);
      ranks = c.self.invariant.ranks;
      waits = c.self.invariant.waits;
    }

pub put_back-requires : goal.put_back-requires
put_back-requires g c =
    let r = records_view c.self.inside in
    let asked_of = asked c.self.inside.bank.items c.args.callback c.in-Some.kinds (sym c.kinds_in.ensures ∙ c.in-Some.is) in
    let place = asked_of.0 in
    let there = asked_of.1 in
    let allowed : is_timer_allowed place.kinds.0 ≡ true = rw asked_of.2 (sym c.is_timer_allowed.ensures.allowed ∙ c.if-not-is_timer_allowed.false) in
    let has : place.callback ≡ Some c.in-Some-take_out.taken = sym (c.in-Some-take_out.ensures.taken place there).0 in
    let out = (c.in-Some-take_out.ensures.taken place there).1 in
    omega (arith, slice_get_within c.self.inside.bank.items c.args.callback place there, ap (λ (b : List (BankPlace g.row.C.Denot)). length b) out, length-set c.self.inside.bank.items c.args.callback (record place { callback = None }))

pub invariant_of-self-in-Err : goal.invariant_of-self-in-Err
invariant_of-self-in-Err g c =
    let r = records_view c.self.inside in
    let asked_of = asked c.self.inside.bank.items c.args.callback c.in-Some.kinds (sym c.kinds_in.ensures ∙ c.in-Some.is) in
    let place = asked_of.0 in
    let there = asked_of.1 in
    let allowed : is_timer_allowed place.kinds.0 ≡ true = rw asked_of.2 (sym c.is_timer_allowed.ensures.allowed ∙ c.if-not-is_timer_allowed.false) in
    let has : place.callback ≡ Some c.in-Some-take_out.taken = sym (c.in-Some-take_out.ensures.taken place there).0 in
    let out = (c.in-Some-take_out.ensures.taken place there).1 in
    let back = c.put_back.ensures.put (record place { callback = None }) (taken_there c.self.inside.bank.items c.take_out.new.bank.items c.args.callback place there out)
    ∙ restored c.self.inside.bank.items c.take_out.new.bank.items c.args.callback place c.in-Some-take_out.taken c.in-Err.numbered.callback there has (ap (λ (m : Numbered g.row.C.Denot). m.callback) c.in-Err.ensures.returned) out in
    rw (back, c.in-Err.ensures.unchanged) c.self.invariant

pub returns-in-Ok-clause-served : goal.returns-in-Ok-clause-served
returns-in-Ok-clause-served g c =
    let r = records_view c.self.inside in
    let asked_of = asked c.self.inside.bank.items c.args.callback c.in-Some.kinds (sym c.kinds_in.ensures ∙ c.in-Some.is) in
    let place = asked_of.0 in
    let there = asked_of.1 in
    let allowed : is_timer_allowed place.kinds.0 ≡ true = rw asked_of.2 (sym c.is_timer_allowed.ensures.allowed ∙ c.if-not-is_timer_allowed.false) in
    let has : place.callback ≡ Some c.in-Some-take_out.taken = sym (c.in-Some-take_out.ensures.taken place there).0 in
    let out = (c.in-Some-take_out.ensures.taken place there).1 in
    rw (← c.self.view_is, out, c.in-Ok.ensures.ok.2, c.from.ensures)
    (new_state r c.in-Ok.timer.0 c.args.callback c.args.tag c.in-Some-take_out.taken place there allowed has c.in-Ok.ensures.ok.1)

pub returns-in-Ok-clause-stands : goal.returns-in-Ok-clause-stands
returns-in-Ok-clause-stands g c =
    let r = records_view c.self.inside in
    let asked_of = asked c.self.inside.bank.items c.args.callback c.in-Some.kinds (sym c.kinds_in.ensures ∙ c.in-Some.is) in
    let place = asked_of.0 in
    let there = asked_of.1 in
    let allowed : is_timer_allowed place.kinds.0 ≡ true = rw asked_of.2 (sym c.is_timer_allowed.ensures.allowed ∙ c.if-not-is_timer_allowed.false) in
    let has : place.callback ≡ Some c.in-Some-take_out.taken = sym (c.in-Some-take_out.ensures.taken place there).0 in
    let out = (c.in-Some-take_out.ensures.taken place there).1 in
    rw (← c.self.view_is, out, c.in-Ok.ensures.ok.2) (new_keeps r c.in-Ok.timer.0 c.args.callback c.args.tag c.in-Some-take_out.taken place there has)

pub returns-in-Err-clause-served : goal.returns-in-Err-clause-served
returns-in-Err-clause-served g c =
    let r = records_view c.self.inside in
    let asked_of = asked c.self.inside.bank.items c.args.callback c.in-Some.kinds (sym c.kinds_in.ensures ∙ c.in-Some.is) in
    let place = asked_of.0 in
    let there = asked_of.1 in
    let allowed : is_timer_allowed place.kinds.0 ≡ true = rw asked_of.2 (sym c.is_timer_allowed.ensures.allowed ∙ c.if-not-is_timer_allowed.false) in
    let has : place.callback ≡ Some c.in-Some-take_out.taken = sym (c.in-Some-take_out.ensures.taken place there).0 in
    let out = (c.in-Some-take_out.ensures.taken place there).1 in
    let back = c.put_back.ensures.put (record place { callback = None }) (taken_there c.self.inside.bank.items c.take_out.new.bank.items c.args.callback place there out)
    ∙ restored c.self.inside.bank.items c.take_out.new.bank.items c.args.callback place c.in-Some-take_out.taken c.in-Err.numbered.callback there has (ap (λ (m : Numbered g.row.C.Denot). m.callback) c.in-Err.ensures.returned) out in
    let by_plan = rw (← c.self.view_is) at c.requires.by_plan in
    let declared = declared_is g.C.Handler.declared g.C.Handler.plan _ c.args.callback place c.in-Some-take_out.taken by_plan there has in
    let full = is_full c.self.inside.clock (g.C.Handler.declared c.in-Some-take_out.taken) c.in-Err.refusal (ap is_timer_allowed declared ∙ allowed) c.in-Err.ensures.refused in
    rw (← c.self.view_is, back, c.in-Err.ensures.unchanged, full.0) (new_limit r c.args.callback c.args.tag c.in-Some-take_out.taken place there allowed has full.1, refl)

pub returns-in-Err-clause-stands : goal.returns-in-Err-clause-stands
returns-in-Err-clause-stands g c =
    let r = records_view c.self.inside in
    let asked_of = asked c.self.inside.bank.items c.args.callback c.in-Some.kinds (sym c.kinds_in.ensures ∙ c.in-Some.is) in
    let place = asked_of.0 in
    let there = asked_of.1 in
    let allowed : is_timer_allowed place.kinds.0 ≡ true = rw asked_of.2 (sym c.is_timer_allowed.ensures.allowed ∙ c.if-not-is_timer_allowed.false) in
    let has : place.callback ≡ Some c.in-Some-take_out.taken = sym (c.in-Some-take_out.ensures.taken place there).0 in
    let out = (c.in-Some-take_out.ensures.taken place there).1 in
    let back = c.put_back.ensures.put (record place { callback = None }) (taken_there c.self.inside.bank.items c.take_out.new.bank.items c.args.callback place there out)
    ∙ restored c.self.inside.bank.items c.take_out.new.bank.items c.args.callback place c.in-Some-take_out.taken c.in-Err.numbered.callback there has (ap (λ (m : Numbered g.row.C.Denot). m.callback) c.in-Err.ensures.returned) out in
    rw (← c.self.view_is, back, c.in-Err.ensures.unchanged) (keeps-none r)
