-- The fields of the records as contracts see them.
use Rattle.evl_kernel.specs.state.Records.{RecordsView, IsSound}
use Rattle.evl_kernel.specs.declared.records.Records.TheInside.{Inside}

abbrev pub records_view : {C A : Type 0} → Inside C A → RecordsView C
records_view r = record { threads = r.threads; elements = r.elements; bank = r.bank.items; lines = r.pipeline; clock = r.clock; sched = r.sched; waits = r.waits.items }

abbrev pub RecordsAreSound : {C A : Type 0} → Inside C A → Type 0
RecordsAreSound r = IsSound (records_view r)
