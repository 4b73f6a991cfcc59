use Rattle.std.proofs.Common.{◌≡◌, arith}
use Rattle.evl_history.proofs.HistoryLaws.{all_from, row_there}
use Rattle.evl_history.proofs.history.History.entries_from.Goals as goal

pub entry_of-requires : goal.entry_of-requires
entry_of-requires g c = record {
  within = row_there c.self.inside.wide.items c.self.inside.bytes.items c.self.inside.rows.items c.loop-place.place _ c.index-row.ensures (omega (arith, c.loop-place-test.true, c.len-place-end.ensures)) _ _ c.as_slice.ensures.value c.as_slice-in-loop-place.ensures.value c.self.invariant.within;
}

pub returns-clause-entries : goal.returns-clause-entries
returns-clause-entries g c =
    rw (← c.self.view_is)
    (all_from c.self.inside.wide.items c.self.inside.bytes.items c.self.inside.rows.items c.args.start c.loop-place.place c.loop-place.read.items (omega (arith, c.loop-place-test.false, c.len-place-end.ensures)) c.loop-place.invariant)
