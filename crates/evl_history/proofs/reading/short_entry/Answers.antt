use Rattle.evl_history.proofs.RowLaws.{is_late_else}
use Rattle.evl_history.proofs.reading.short_entry.Goals as goal

pub returns-in_default : goal.returns-in_default
returns-in_default c = record { entry = λ short wide bytes. c.wait_entry.ensures.entry (is_late_else c.args.row short c.in_default.not-Free c.in_default.not-Arrive c.in_default.not-Post c.in_default.not-Stall c.in_default.not-Unstall c.in_default.not-Tick c.in_default.not-StopTimer c.in_default.not-Detach c.in_default.not-SetStage c.in_default.not-Pick c.in_default.not-RankOf c.in_default.not-TryGet c.in_default.not-Put c.in_default.not-TryTake c.in_default.not-PostFlags c.in_default.not-Read c.in_default.not-Release c.in_default.not-Raise c.in_default.not-Finish) wide bytes }
