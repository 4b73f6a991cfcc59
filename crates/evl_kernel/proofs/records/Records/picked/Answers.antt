use Rattle.evl_kernel.specs.state.RecordsInside.{records_view}
use Rattle.evl_kernel.proofs.state.ReaderLaws.{pick_reads}
use Rattle.evl_kernel.proofs.records.Records.picked.Goals as goal

pub returns : goal.returns
returns g c = record { picked = rw (← c.self.view_is) (pick_reads (records_view c.self.inside) c.self.invariant c.pick.result c.pick.ensures.picked) }
