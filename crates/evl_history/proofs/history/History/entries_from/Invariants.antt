use Rattle.std.proofs.Common.{◌≡◌, drop, map, take}
use Rattle.evl_history.specs.Rows.{decode}
use Rattle.evl_history.proofs.history.History.entries_from.Given as goal

abbrev pub invariant-loop-place : goal.invariant-loop-place
invariant-loop-place g l = l.read.items ≡ map (decode l.self-inside.wide.items l.self-inside.bytes.items) (drop l.start (take l.place l.self-inside.rows.items))
