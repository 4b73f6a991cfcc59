use Rattle.evl_history.proofs.RowLaws.{is_short_else}
use Rattle.evl_history.proofs.reading.entry_of.Goals as goal

pub returns-in_default-clause-entry : goal.returns-in_default-clause-entry
returns-in_default-clause-entry c = c.short_entry.ensures.entry (is_short_else c.args.row c.in_default.not-Wide c.in_default.not-WideBytes c.in_default.not-Write c.in_default.not-ReadBytes c.in_default.not-BeginWrite c.in_default.not-FinishBytes) c.args.wide.now c.args.bytes.now
