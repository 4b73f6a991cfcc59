use Rattle.std.proofs.Common.{refl}
use Rattle.evl_kernel.specs.state.RecordsInside.{records_view}
use Rattle.evl_kernel.proofs.state.TimerLaws.{overruns_told, overruns_unknown}
use Rattle.evl_kernel.proofs.records.Records.overruns.Goals as goal

pub returns-in-Ok-clause-served : goal.returns-in-Ok-clause-served
returns-in-Ok-clause-served g c = rw (← c.self.view_is) (overruns_told (records_view c.self.inside) c.args.timer.0 c.in-Ok.count c.in-Ok.ensures.ok)

pub returns-in-Err-clause-served : goal.returns-in-Err-clause-served
returns-in-Err-clause-served g c = rw (← c.self.view_is) (overruns_unknown (records_view c.self.inside) c.args.timer.0 _ c.in-Err.ensures.refused, refl)
