use Rattle.evl_kernel.specs.state.RecordsInside.{records_view}
use Rattle.evl_kernel.proofs.state.ReaderLaws.{no_rank_reads, rank_reads}
use Rattle.evl_kernel.proofs.records.Records.rank.Goals as goal

pub returns-in-Err : goal.returns-in-Err
returns-in-Err g c = record { rank = rw (← c.self.view_is) (no_rank_reads (records_view c.self.inside) c.self.invariant c.args.thread.0 _ c.in-Err.ensures.refused) }

pub returns-in-Ok : goal.returns-in-Ok
returns-in-Ok g c = record {
  rank = rw (← c.self.view_is) (rank_reads (records_view c.self.inside) c.self.invariant c.args.thread.0 c.in-Ok.rank c.in-Ok.ensures.ok.0 c.in-Ok.ensures.ok.1);
}
