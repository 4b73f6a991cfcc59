use Rattle.lab_faults.proofs.KeyLaws.{counts_on, headings_on, keys_on, told_at_place}
use Rattle.lab_faults.proofs.keys.gathered.Goals as goal

pub loop-index-preserved : goal.loop-index-preserved
loop-index-preserved c =
    let one = told_at_place _ _ _ _ c.loop-index-test.true _ _ _ _ c.kind_at-next.ensures c.entry.ensures c.behind-standing.ensures in
    record {
      headings = headings_on _ _ _ one _ _ _ c.in_ok-last.ensures.headings c.loop-index.invariant.headings;
      keys = keys_on _ _ _ one _ _ _ _ _ c.in_ok-last.ensures.keys c.loop-index.invariant.keys;
      counts = rw c.behind-standing.ensures (counts_on _ _ _ _ _ c.loop-index.invariant.counts);
    }
