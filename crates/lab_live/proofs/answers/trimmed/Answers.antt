use Rattle.lab_live.proofs.LineLaws.{kept_on, within_on}
use Rattle.lab_live.proofs.answers.trimmed.Goals as goal

pub loop-at-preserved : goal.loop-at-preserved
loop-at-preserved c =
    let before = c.loop-at.invariant in
    let line = c.args.line.now in
    record {
      within = within_on line c.loop-at.at c.loop-at.end c.loop-at-test.true before.kept _ c.end_behind-end.ensures before.within;
      kept = kept_on line c.loop-at.at c.loop-at.end c.loop-at-test.true before.kept _ c.end_behind-end.ensures;
    }
