use Rattle.std.proofs.Common.{◌≡◌}
use Rattle.lab_orders.specs.Levels.{IsApart}
use Rattle.lab_orders.proofs.Indexing.{IsPast}
use Rattle.lab_orders.proofs.levels.place_of.Given as goal

abbrev pub invariant-loop-step : goal.invariant-loop-step
invariant-loop-step g l =
    let state = g.W.World.state l.world in
    let digest = g.W.World.digest_at l.world in
    g.W.World.complete l.world → l.digest ≡ digest (state l.reached.at) → IsApart state digest l.level → IsPast state digest l.level (state l.reached.at) l.next l._step
