use Rattle.std.proofs.Common.{Ok, Err, refl, sym}
use Rattle.evl_c.proofs.HostCallLemmas.{asks_as}
use Rattle.evl_c.proofs.asks.evlsim_c_caller_ask.Goals as goal

pub returns-in-Ok-clause-asked : goal.returns-in-Ok-clause-asked
returns-in-Ok-clause-asked c = λ done there.
    asks_as 0 c.args.question.now _ _ c.in-Some.there.value c.deref_mut.result.now c.look-told.new.self (Ok c.in-Ok.told) c.in-Ok.told (sym c.in-Some.ensures.taken) c.deref_mut.ensures.value c.put.ensures
    c.in-Ok.ensures.looked (refl, refl)

pub returns-in-Err-clause-asked : goal.returns-in-Err-clause-asked
returns-in-Err-clause-asked c = λ done there.
    asks_as 11 c.args.question.now _ _ c.in-Some.there.value c.deref_mut.result.now c.look-told.new.self (Err c.in-Err.field-0) c.args.reading.now (sym c.in-Some.ensures.taken) c.deref_mut.ensures.value
    c.put.ensures c.in-Err.ensures.looked refl
