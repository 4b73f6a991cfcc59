use Rattle.evl_kernel.specs.state.RecordsInside.{records_view}
use Rattle.evl_kernel.proofs.state.SchedLaws.{told_pick}
use Rattle.evl_kernel.proofs.records.Records.pick.Goals as goal

pub returns-clause-served : goal.returns-clause-served
returns-clause-served g c = rw (← c.self.view_is) (told_pick (records_view c.self.inside) c.self.invariant c.pick.result c.pick.ensures.picked)
