use Rattle.lab_step_orders.specs.Moments.{seen_of}
use Rattle.lab_step_orders.specs.Outcomes.{told_text}
use Rattle.lab_step_orders.specs.Seen.{Seen, first_seen}
use Rattle.lab_step_orders.proofs.FirstLaws.{end_leads, led_on, over_on, weight_on}
use Rattle.lab_step_orders.proofs.RisingLaws.{risen_on}
use Rattle.lab_step_orders.proofs.outcomes.outcomes_at.Goals as goal

pub loop-end-preserved : goal.loop-end-preserved
loop-end-preserved c =
    let crew = c.args.crew.now in
    let start = first_seen crew in
    let rest = c.loop-end.end-iterator.rest.items in
    let others = c.next.new.self.rest.items in
    let end = c.in-Some.end in
    let split = c.in-Some.ensures.steps.0 in
    record {
      distinct = c.in-Ok.ensures.distinct;
      sums = λ f. weight_on crew start (seen_of crew) rest others end split (λ (s : Seen). f (told_text crew s)) _ _ _ (c.in-Ok.ensures.sums f) (c.loop-end.invariant.sums f);
      led = led_on crew start (seen_of crew) rest others end split c.loop-end.invariant.led;
      over = over_on crew start (seen_of crew) rest others end split c.loop-end.invariant.over;
      behind = risen_on c.loop-end.all.items rest others end split c.loop-end.invariant.behind c.put_end.new.all.items c.in-Ok.ensures.rise;
      lead = c.in-Ok.ensures.lead start c.loop-end.invariant.lead (end_leads crew start (seen_of crew) rest others end split c.loop-end.invariant.led c.loop-end.invariant.over);
    }
