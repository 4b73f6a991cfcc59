use Rattle.evl_scenario.proofs.WritingLemmas.{rest_kept, fit_kept}
use Rattle.evl_scenario.proofs.writing.write_entries.Goals as goal

pub loop-entry-preserved : goal.loop-entry-preserved
loop-entry-preserved g c = record {
  rest = rest_kept c.args.entries.now c.loop-entry.entry-index c.entry-item.result c.loop-entry-test.true c.entry-item.is _ _ _ c.in-Ok.ensures.text c.loop-entry.invariant.rest;
  fit = fit_kept c.args.entries.now c.loop-entry.entry-index c.entry-item.result c.loop-entry-test.true c.entry-item.is c.write_step.ensures.fits c.loop-entry.invariant.fit;
}
