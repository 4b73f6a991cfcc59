use Rattle.std.proofs.Common.{List, ℕ, length, ap, sym, subst}
use Rattle.lab_scenario_orders.specs.Firsts.{LeadsTo}
use Rattle.lab_scenario_orders.specs.Moments.{seen_at}
use Rattle.lab_scenario_orders.specs.Told.{told_text}
use Rattle.lab_scenario_orders.proofs.FirstLaws.{still_lead}
use Rattle.lab_scenario_orders.proofs.RisingLaws.{still_risen}
use Rattle.lab_scenario_orders.proofs.outcomes.put_end.Goals as goal

pub returns-in-Ok-add_tally-clause-lead : goal.returns-in-Ok-add_tally-clause-lead
returns-in-Ok-add_tally-clause-lead g c = λ s old one.
    let callers = c.args.callers.now in
    let told = told_text callers (seen_at callers (g.B.BankMaker.bank c.args.bank.now) c.args.end.at) in
    let tally = c.in-Ok.tally in
    still_lead callers s c.args.all.now.items tally c.add_tally.new.tallies.items c.in-Ok-add_tally.ensures.firsts old
    (subst (λ (text : List ℕ). LeadsTo callers s text tally.order.items) (sym c.in-Ok.ensures.told)
    (subst (λ (order : List ℕ). LeadsTo callers s told order) (sym c.in-Ok.ensures.order) one))

pub returns-in-Ok-add_tally-clause-rise : goal.returns-in-Ok-add_tally-clause-rise
returns-in-Ok-add_tally-clause-rise g c = λ k old le.
    still_risen c.args.all.now.items c.in-Ok.tally c.add_tally.new.tallies.items k (length c.args.end.order.items) c.in-Ok-add_tally.ensures.firsts
    (ap (λ (order : List ℕ). length order) c.in-Ok.ensures.order) le old
