use Rattle.std.proofs.Common.{Err, inr, refl, sym, subst}
use Rattle.evl_plans.specs.Traces.{Refuses}
use Rattle.evl_scenario.specs.declared.faults.Fault.{Fault}
use Rattle.evl_c.proofs.TextLaws.{refuses_unread}
use Rattle.evl_c.proofs.plays.trace_given.Goals as goal

pub returns-in-Err-clause-refused : goal.returns-in-Err-clause-refused
returns-in-Err-clause-refused c =
    let unread = c.in-Err.ensures.unread in
    (Err c.in-Err.fault, inr (c.in-Err.fault, unread, refl), subst (λ (e : Fault). Refuses (Err e) e) (sym unread.2) (refuses_unread unread.0))
