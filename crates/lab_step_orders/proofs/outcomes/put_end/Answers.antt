use Rattle.std.proofs.Common.{List, ℕ, length, ap, sym, subst}
use Rattle.lab_step_orders.specs.Moments.{seen_of}
use Rattle.lab_step_orders.specs.Outcomes.{LeadsTo, told_text}
use Rattle.lab_step_orders.proofs.FirstLaws.{still_lead}
use Rattle.lab_step_orders.proofs.RisingLaws.{still_risen}
use Rattle.lab_step_orders.proofs.outcomes.put_end.Goals as goal

pub returns-in-Ok-add_tally-clause-lead : goal.returns-in-Ok-add_tally-clause-lead
returns-in-Ok-add_tally-clause-lead c = λ s old one.
    let crew = c.args.crew.now in
    let told = told_text crew (seen_of crew c.args.end.at) in
    let tally = c.in-Ok.tally in
    still_lead crew s c.args.all.now.items tally c.add_tally.new.tallies.items c.in-Ok-add_tally.ensures.firsts old
    (subst (λ (text : List ℕ). LeadsTo crew s text tally.order.items) (sym c.in-Ok.ensures.told)
    (subst (λ (order : List ℕ). LeadsTo crew s told order) (sym c.in-Ok.ensures.order) one))

pub returns-in-Ok-add_tally-clause-rise : goal.returns-in-Ok-add_tally-clause-rise
returns-in-Ok-add_tally-clause-rise c = λ k old le.
    still_risen c.args.all.now.items c.in-Ok.tally c.add_tally.new.tallies.items k (length c.args.end.order.items) c.in-Ok-add_tally.ensures.firsts
    (ap (λ (order : List ℕ). length order) c.in-Ok.ensures.order) le old
