use Rattle.std.proofs.Common.{◌≡◌, ◌+◌, ℕ, length}
use Rattle.lab_orders.specs.Firsts.{AreFirsts}
use Rattle.lab_orders.specs.Fronts.{IsFront}
use Rattle.lab_orders.proofs.firsts.noticed.Given as goal

abbrev pub invariant-loop-first : goal.invariant-loop-first
invariant-loop-first g l =
    let m = g.W.World.machine l.world in
    let state = g.W.World.state l.world in
    let holds = g.W.World.holds l.world in
    record {
      count : length l.all.items + length l.first-iterator.rest.items ≡ length l.fn.firsts.items;
      told : (s : _) (k : ℕ) (ends : _) → IsFront m state (g.W.World.fits l.world) s k l.nodes ends → AreFirsts m s holds k 0 l.fn.firsts.items
          → AreFirsts m s holds (k + 1) 0 l.all.items × AreFirsts m s holds k (length l.all.items) l.first-iterator.rest.items;
    }
