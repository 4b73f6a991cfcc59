use Rattle.std.proofs.Common.{◌≡◌, ◌≤◌, ◌+◌, ◌-◌, length, vec_capacity}
use Rattle.evl_pipeline.specs.ByLine.{filled_up}
use Rattle.evl_pipeline.specs.Limits.{line_count}
use Rattle.evl_pipeline.proofs.by_line.reach.Given as goal

abbrev pub invariant-loop-written : goal.invariant-loop-written
invariant-loop-written g l = record {
  same : filled_up g.T.Blank.blank l.written.items ≡ filled_up g.T.Blank.blank l.initial.written.items;
  few : length l.written.items ≤ line_count;
  room : line_count ≤ vec_capacity l.written;
}

abbrev pub decreases-loop-written : goal.decreases-loop-written
decreases-loop-written g l = line_count - length l.written.items
