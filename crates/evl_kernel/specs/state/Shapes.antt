-- All that no call changes: how many threads, quota groups and elements there are, and of which sizes and kinds.
use Rattle.std.specs.Prelude.{ℕ, ◌≡◌, length, map, min}
use Rattle.evl_base.specs.Limits.{thread_limit}
use Rattle.evl_base.specs.declared.board.Board.{Board}
use Rattle.evl_xbuf.specs.Xbufs.{Xbuf}
use Rattle.evl_kernel.specs.state.States.{State, Elements}

-- the sizes of both rings
abbrev pub sizes_of : Xbuf → ℕ × ℕ
sizes_of x = (x.inbound.size, x.outbound.size)

-- the elements are those of the board
pub record HaveShape (board : Board) (e : Elements) : Type 0 where
  pub sems : length e.sems ≡ length board.sems.items
  pub flags : length e.flags ≡ length board.flags.items
  pub xbufs : map sizes_of e.xbufs ≡ board.xbufs.items
  pub mutexes : map (λ m. m.kind) e.mutexes ≡ board.mutexes.items

-- and so are the threads and the quota groups
pub record HasShape (board : Board) (s : State) : Type 0 where
  pub threads : s.threads ≡ board.threads
  pub elements : HaveShape board s.elements
  pub seats : length s.sched.seats ≡ board.threads
  pub groups : map (λ g. g.percent) s.sched.groups ≡ board.groups.items
  pub deadlines : length s.clock.deadlines ≡ min board.threads thread_limit
