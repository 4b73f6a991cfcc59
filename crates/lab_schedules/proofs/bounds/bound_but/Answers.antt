use Rattle.std.proofs.Common.{◌≡◌, ◌+◌, ◌-◌, arith}
use Rattle.lab_schedules.proofs.BoundLaws.{late-within}
use Rattle.lab_schedules.proofs.bounds.bound_but.Goals as goal

pub overflow_sub-result : goal.overflow_sub-result
overflow_sub-result c = late-within c.args.late c.args.own c.in-Within.time c.args.loads.now c.requires (rw c.saturating_add.ensures at c.in-Within.ensures)

pub returns-in-Within : goal.returns-in-Within
returns-in-Within c =
    let found = rw c.saturating_add.ensures at c.in-Within.ensures in
    let back : c.in-Within.time - c.args.late + c.args.late ≡ c.in-Within.time =
    omega (arith, late-within c.args.late c.args.own c.in-Within.time c.args.loads.now c.requires found) in
    rw back found
