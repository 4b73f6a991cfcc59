-- A thread's actor as a contract reads it, at rest and while it has the kernel.
use Rattle.std.specs.Prelude.{◌≡◌, true}
use Rattle.evl_base.specs.Board.{board_fits}
use Rattle.evl_kernel.specs.state.KernelViews.{KernelView}
use Rattle.evl_machine.specs.callers.Actors.{SeatedActor, Suits, acting}
use Rattle.evl_core.specs.accounts.Seats.{IsCaller, IsHeld, account_of}
use Rattle.evl_machine.specs.callers.Handles.{CallerState, MachineState, caller_of, machine_of}
use Rattle.evl_core.specs.rule.Known.{ComesFrom, first_of, lock_in, seen}
use Rattle.evl_core.specs.words.Noted.{IsSettled}

module _ {C : Type 0} where
  -- the machine to which its seats belong
  abbrev pub machine_by : SeatedActor C → MachineState C
  machine_by a = machine_of a.table (first_of a.me.0) a.staxes (acting a).mutexes

  -- its caller, where it is at rest
  abbrev pub caller_by : SeatedActor C → CallerState C
  caller_by a = caller_of (machine_by a) (account_of (seen a.me)) (lock_in a.me.0) a.staxes (acting a).mutexes

  -- it is at rest, and knows its thread's stage and wait
  abbrev pub IsResting : SeatedActor C → Type 0
  IsResting a = IsCaller (seen a.me) a.thread × Suits (acting a) (account_of (seen a.me)).seen

  -- it has a kernel of this machine, whose board is within its limits, and knows its thread's stage and wait there; and what holds of each mutex's word is tied to what the kernel records
  abbrev pub HasInHand : MachineState C → SeatedActor C → KernelView C → Type 0
  HasInHand machine a k = (machine ≡ machine_by a) × IsHeld (seen a.me) a.thread k × ComesFrom (first_of a.me.0) k × Suits (acting a) k.history × IsSettled a.me.0 k.history.state × (board_fits k.history.board ≡ true)
