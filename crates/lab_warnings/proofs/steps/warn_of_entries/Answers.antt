use Rattle.std.proofs.Common.{string_bytes}
use Rattle.lab_warnings.specs.Warnings.{entry_lines}
use Rattle.lab_warnings.proofs.LineLaws.{rows_on}
use Rattle.lab_warnings.proofs.steps.warn_of_entries.Goals as goal

pub loop-entry-preserved : goal.loop-entry-preserved
loop-entry-preserved c =
    rows_on (entry_lines c.args.name.now c.args.counts c.args.number c.args.before c.args.kernel.now.history.state) c.args.entries.now c.loop-entry.entry-index c.entry-item.result
    (string_bytes c.loop-entry.told) (string_bytes c.warn_of_entry.new.told) _ c.loop-entry-test.true c.entry-item.is c.loop-entry.invariant c.in_ok-warn_of_entry.ensures
