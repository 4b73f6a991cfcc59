use Rattle.std.proofs.Common.{◌≡◌, arith}
use Rattle.evl_history.proofs.HistoryLaws.{entry_there, row_there}
use Rattle.evl_history.proofs.history.History.get.Goals as goal

pub entry_of-requires : goal.entry_of-requires
entry_of-requires g c = record {
  within = row_there c.self.inside.wide.items c.self.inside.bytes.items c.self.inside.rows.items c.args.place _ c.index-row.ensures (omega (arith, c.if-place-len.false, c.len.ensures)) _ _ c.as_slice.ensures.value c.as_slice-2.ensures.value c.self.invariant.within;
}

pub returns-clause-entry : goal.returns-clause-entry
returns-clause-entry g c =
    rw (← c.self.view_is)
    (entry_there c.self.inside.wide.items c.self.inside.bytes.items c.self.inside.rows.items c.args.place _ c.index-row.ensures (omega (arith, c.if-place-len.false, c.len.ensures)) _ _ c.as_slice.ensures.value c.as_slice-2.ensures.value _ c.in_ok-entry.ensures.entry)
