use Rattle.std.proofs.Common.{◌≡◌, length}
use Rattle.lab_orders.specs.Firsts.{AreFirsts}
use Rattle.lab_orders.specs.Fronts.{AreApart, GoesApart, IsFront, IsGone}
use Rattle.lab_orders.proofs.exploring.explore.Given as goal

abbrev pub invariant-loop-step : goal.invariant-loop-step
invariant-loop-step g l =
    record {
      front : IsFront (g.W.World.machine l.world) (g.W.World.state l.world) (g.W.World.fits l.world) (g.W.World.state l.world l.fn.start) l.front.steps l.front.level.nodes.items l.front.ends.items;
      steps : l.front.steps ≡ l._step;
      firsts : AreFirsts (g.W.World.machine l.world) (g.W.World.state l.world l.fn.start) (g.W.World.holds l.world) l.front.steps 0 l.firsts.items;
      each : length l.firsts.items ≡ g.W.World.asked l.world;
      gone : IsGone (g.W.World.machine l.world) (g.W.World.state l.world) (g.W.World.state l.world l.fn.start) l.most l.front.steps l.front.moments;
      level : g.W.World.complete l.world → AreApart (g.W.World.state l.world) l.front.level.nodes.items;
      apart : g.W.World.complete l.world → GoesApart (g.W.World.machine l.world) (g.W.World.state l.world) (g.W.World.state l.world l.fn.start) l.most l.front.steps l.front.moments;
    }
