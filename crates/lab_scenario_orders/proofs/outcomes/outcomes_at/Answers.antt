use Rattle.lab_scenario_orders.specs.Callers.{Seen, first_seen}
use Rattle.lab_scenario_orders.specs.Moments.{seen_at}
use Rattle.lab_scenario_orders.specs.Told.{told_text}
use Rattle.lab_scenario_orders.proofs.FirstLaws.{end_leads, led_on, over_on, weight_on}
use Rattle.lab_scenario_orders.proofs.RisingLaws.{risen_on}
use Rattle.lab_scenario_orders.proofs.outcomes.outcomes_at.Goals as goal

pub loop-end-preserved : goal.loop-end-preserved
loop-end-preserved g c =
    let callers = c.args.callers.now in
    let bank = g.B.BankMaker.bank c.args.bank.now in
    let start = first_seen callers bank in
    let state = seen_at callers bank in
    let rest = c.loop-end.end-iterator.rest.items in
    let others = c.next.new.self.rest.items in
    let end = c.in-Some.end in
    let split = c.in-Some.ensures.steps.0 in
    record {
      distinct = c.in-Ok.ensures.distinct;
      sums = λ f. weight_on callers start state rest others end split (λ (seen : Seen). f (told_text callers seen)) _ _ _ (c.in-Ok.ensures.sums f) (c.loop-end.invariant.sums f);
      led = led_on callers start state rest others end split c.loop-end.invariant.led;
      over = over_on callers start state rest others end split c.loop-end.invariant.over;
      behind = risen_on c.loop-end.all.items rest others end split c.loop-end.invariant.behind c.put_end.new.all.items c.in-Ok.ensures.rise;
      lead = c.in-Ok.ensures.lead start c.loop-end.invariant.lead (end_leads callers start state rest others end split c.loop-end.invariant.led c.loop-end.invariant.over);
    }
