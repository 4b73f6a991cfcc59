-- The board on which all callers act.
use Rattle.std.specs.Prelude.{ℕ, List, [], ◌∷◌}
use Rattle.evl_base.specs.declared.board.Board.{Board}
use Rattle.evl_base.specs.declared.mutex_kind.MutexKind.{MutexKind}
use Rattle.evl_base.specs.declared.mutex_kind.MutexKind.TheVariants.{Normal, Recursive, Ceiling}

abbrev pub kinds : List MutexKind
kinds = Normal ∷ Recursive ∷ Ceiling 50 ∷ Normal ∷ []

-- two semaphores, flag groups, cross-buffers and stage exclusion locks, mutexes of each kind, and a quota group
abbrev pub shared_board : ℕ → Board
shared_board threads = record {
  threads = threads;
  sems = record { items = 0 ∷ 2 ∷ [] };
  flags = record { items = 0 ∷ 6 ∷ [] };
  xbufs = record { items = (16, 16) ∷ (5, 64) ∷ [] };
  mutexes = record { items = kinds };
  groups = record { items = 40 ∷ [] };
  staxes = record { items = 2 ∷ 1 ∷ [] };
}
