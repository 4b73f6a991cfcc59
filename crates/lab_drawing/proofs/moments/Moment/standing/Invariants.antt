use Rattle.std.proofs.Common.{◌≡◌, drop, find}
use Rattle.lab_drawing.specs.Lanes.{is_lane}
use Rattle.lab_drawing.specs.Strips.{standing_of}
use Rattle.lab_drawing.proofs.moments.Moment.standing.Given as goal

abbrev pub invariant-loop-standing : goal.invariant-loop-standing
invariant-loop-standing l = find (λ standing. is_lane l.lane standing.lane) (drop l.standing-index l.standing-items) ≡ standing_of l.lane l.fn.self
