use Rattle.std.proofs.Common.{sym, ◌∙◌}
use Rattle.evl_kernel.specs.state.RecordsInside.{records_view}
use Rattle.evl_kernel.proofs.settling.ClockLaws.{earliest-renamed}
use Rattle.evl_kernel.proofs.records.Records.earliest_date.Goals as goal

pub returns : goal.returns
returns g c = rw (← c.self.view_is) (record { date = c.earliest_date.ensures.date ∙ sym (earliest-renamed _ (records_view c.self.inside).clock) })
