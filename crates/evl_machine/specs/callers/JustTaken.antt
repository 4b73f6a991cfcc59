-- The knowledge of a thread's actor when it has just taken the kernel.
use Rattle.std.specs.Prelude.{◌≡◌, ◌<◌, true}
use Rattle.evl_base.specs.Board.{board_fits}
use Rattle.evl_kernel.specs.histories.Histories.{IsLegal}
use Rattle.evl_kernel.specs.state.KernelViews.{KernelView}
use Rattle.evl_core.specs.accounts.Accounts.{threads_of}
use Rattle.evl_machine.specs.callers.Actors.{SeatedActor, Suits, acting}
use Rattle.evl_core.specs.rule.Known.{ComesFrom, first_of}
use Rattle.evl_core.specs.words.Noted.{HasTaken}

-- it has this kernel, of its machine, whose history is legal, and knows its thread's stage and wait there; its thread is on the board, which is within its limits
pub record HasJustTaken {C : Type 0} (a : SeatedActor C) (k : KernelView C) : Type 0 where
  pub taken : HasTaken a.thread.0 k.history a.me.0
  pub comes : ComesFrom (first_of a.me.0) k
  pub member : a.thread.0 < threads_of k.history
  pub legal : IsLegal k.history
  pub fits : board_fits k.history.board ≡ true
  pub suits : Suits (acting a) k.history
