use Rattle.std.proofs.Common.{◌+◌, ◌≤◌, false, vec_len, vec_capacity}
use Rattle.evl_kernel.specs.state.Limits.{inband_limit, play_limit}
use Rattle.evl_kernel.specs.settling.Settled.{settling, left_after}
use Rattle.evl_kernel.specs.state.Records.{KeepsCallbacks, state_of, whereabouts}
use Rattle.evl_kernel.proofs.settling.SettlingLaws.{PlaysOn}
use Rattle.evl_kernel.proofs.records.Records.play_pending.Given as goal

abbrev pub invariant-loop-play : goal.invariant-loop-play
invariant-loop-play g l = record {
  path : PlaysOn g.C.Handler.gives (whereabouts l.fn.self) (settling l.fn.self 0 false) l.fn.plays.items (settling l.self l.inband l.of_clock) l.plays.items;
  room : vec_len l.plays + left_after (state_of l.self) l.inband ≤ vec_capacity l.plays;
  few : vec_len l.plays + left_after (state_of l.self) l.inband ≤ vec_len l.fn.plays + play_limit;
  capacity : vec_capacity l.fn.plays ≤ vec_capacity l.plays;
  inband : l.inband ≤ inband_limit;
  stands : KeepsCallbacks l.fn.self l.self;
}

abbrev pub decreases-loop-play : goal.decreases-loop-play
decreases-loop-play g l = left_after (state_of l.self) l.inband
