use Rattle.std.proofs.Common.{◌≤◌, length, max, ◌-◌}
use Rattle.evl_base.proofs.transfer.Spares.keep.Given as goal

-- no box goes, and none is made past `n`
abbrev pub invariant-loop-self : goal.invariant-loop-self
invariant-loop-self g l = (length l.initial.self-inside.boxes.items ≤ length l.self-inside.boxes.items) × (length l.self-inside.boxes.items ≤ max (length l.initial.self-inside.boxes.items) l.n)

abbrev pub decreases-loop-self : goal.decreases-loop-self
decreases-loop-self g l = l.n - length l.self-inside.boxes.items
