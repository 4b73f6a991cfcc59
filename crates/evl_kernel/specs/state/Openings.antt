-- The records of a new kernel.
use Rattle.std.specs.Prelude.{ℕ, Bool, true, ◌&&◌, nat_le, List, map, replicate, None}
use Rattle.evl_base.specs.Limits.{is_within}
use Rattle.evl_base.specs.Board.{board_fits}
use Rattle.evl_base.specs.declared.board.Board.{Board}
use Rattle.evl_pipeline.specs.Lines as lines
use Rattle.evl_clock.specs.Clocks as clocks
use Rattle.evl_sched.specs.Threads as threads
use Rattle.evl_sync.specs.Semaphores as semaphores
use Rattle.evl_sync.specs.FlagGroups as flags
use Rattle.evl_xbuf.specs.Xbufs as xbufs
use Rattle.evl_mutex.specs.Mutexes as mutexes
use Rattle.evl_kernel.specs.state.Limits.{callback_limit, history_limit}
use Rattle.evl_kernel.specs.state.States.{State, Elements, Handler, Banked}

abbrev pub at_home : Handler → Banked
at_home h = record { handler = h; home = true }

-- the elements of a board
abbrev pub all_opened : Board → Elements
all_opened board = record { sems = map semaphores.opened_semaphore board.sems.items; flags = map flags.opened_group board.flags.items; xbufs = map (λ sizes. xbufs.opened_xbuf sizes.0 sizes.1) board.xbufs.items; mutexes = map mutexes.opened_mutex board.mutexes.items }

-- rule: At the opening every callback is in its bank place, the date is 0, no thread is attached, each element is as
--   the board says.
--   also: Openings.all_opened
--   clauses: Kernel::new: opened
-- every callback is in its bank place, no line has anything, there are no timers, no thread is attached, and nobody waits
abbrev pub opening : Board → List Handler → State
opening board bank = record {
  threads = board.threads;
  elements = all_opened board;
  bank = map at_home bank;
  lines = lines.opening;
  clock = clocks.opening board.threads;
  sched = threads.opening board.threads board.groups.items;
  waits = replicate board.threads None;
}

-- rule: A bank has at most 64 callbacks, a limit is 1 to 1,000,000.
--   clauses: Kernel::{new, over}
--   rows: a_bank_has_a_range; limits_that_are_handed_in
-- the board, the bank and the limit of the history are within their limits
abbrev pub can_open : Board → ℕ → ℕ → Bool
can_open board callbacks limit = board_fits board && nat_le callbacks callback_limit && is_within 1 history_limit limit
