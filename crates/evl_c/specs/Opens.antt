-- A kernel that C made.
use Rattle.std.specs.Prelude.{◌≡◌, ℕ, Bool, ◌&&◌, List, []}
use Rattle.evl_base.specs.declared.board.Board.{Board}
use Rattle.evl_kernel.specs.histories.Histories.{opened_kernel}
use Rattle.evl_kernel.specs.state.KernelViews.{KernelView}
use Rattle.evl_kernel.specs.state.Openings.{can_open}
use Rattle.evl_kernel.specs.state.States.{Handler}
use Rattle.evl_plans.specs.declared.planned.Planned.{Planned}
use Rattle.evl_c.specs.Boards.{board_of, is_board}
use Rattle.evl_c.specs.declared.boards.BoardForm.{BoardForm}

-- whether a form is a board, and a kernel may have it, so many callbacks and this limit
abbrev pub can_be_opened : BoardForm → ℕ → ℕ → Bool
can_be_opened form count limit = is_board form && can_open (board_of form) count limit

-- a kernel that was just made, of these
pub record IsFresh (board : Board) (bank : List Handler) (limit : ℕ) (k : KernelView Planned) : Type 0 where
  pub board_is : k.history.board ≡ board
  pub bank_is : k.history.bank ≡ bank
  pub state : k.history.state ≡ opened_kernel k.history
  pub entries : k.history.entries ≡ []
  pub plays : k.history.plays ≡ []
  pub limit_is : k.limit ≡ limit
