use Rattle.std.proofs.Common.{ℕ, IfOk, subst}
use Rattle.lab_orders.specs.Firsts.{AreFirsts}
use Rattle.lab_scenario_orders.specs.Callers.{Seen, machine}
use Rattle.lab_scenario_orders.specs.Moments.{seen_at}
use Rattle.lab_scenario_orders.specs.Watches.{is_noted_at}
use Rattle.lab_scenario_orders.proofs.OutcomeLaws.{cannot_tell}
use Rattle.lab_scenario_orders.proofs.outcomes.ends_of.Goals as goal

pub returns-clause-firsts : goal.returns-clause-firsts
returns-clause-firsts g c =
    let watches = c.args.watches.now in
    subst (λ (s : Seen). IfOk c.explore.result (λ found. AreFirsts (machine c.args.callers.now) s (λ (n : ℕ) (seen : Seen). is_noted_at watches n seen.state) found.steps 0 found.firsts.items))
    c.in-Ok.ensures.start c.explore.ensures.firsts

pub returns-clause-uncounted : goal.returns-clause-uncounted
returns-clause-uncounted g c =
    let callers = c.args.callers.now in
    let bank = g.B.BankMaker.bank c.args.bank.now in
    cannot_tell c.explore.result callers bank _ (seen_at callers bank c.in-Ok.start) c.in-Ok.ensures.start c.explore.ensures.uncounted
