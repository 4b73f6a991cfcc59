-- The ready threads one after another.
use Rattle.std.specs.Prelude.{ℕ, ◌≡◌, ◌≤◌, ◌<◌, ◌+◌, List, ◌++◌, ◌∷◌, [], Option, Some, None}
use Rattle.evl_sched.specs.declared.order.walk.Turn.{Turn}
use Rattle.evl_sched.specs.Orders.{in_order}

-- after those whose stamps are below `low` this thread comes next in the order, with this stamp
pub record ComesNext (stamps : List (Option ℕ)) (limit low : ℕ) (turn : Turn) : Type 0 where
  pub from : low ≤ turn.stamp
  pub early : turn.stamp < limit
  pub here : in_order stamps (turn.stamp + 1) ≡ in_order stamps low ++ turn.thread ∷ []
  pub behind : List ℕ
  pub whole : in_order stamps limit ≡ in_order stamps low ++ turn.thread ∷ behind

-- the next thread in the order, or none where there is no other
abbrev pub IsNext : List (Option ℕ) → ℕ → ℕ → Option Turn → Type 0
IsNext stamps limit low None = in_order stamps low ≡ in_order stamps limit
IsNext stamps limit low (Some turn) = ComesNext stamps limit low turn
