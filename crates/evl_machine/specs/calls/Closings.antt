-- All that closing a machine gives.
use Rattle.std.specs.Prelude.{◌≡◌, ◌⊎◌, ℕ, ◌≤◌, ◌<◌, List, [], ◌∷◌, ◌++◌, length, All}
use Rattle.evl_base.specs.declared.refusal.Refusal.{Refusal}
use Rattle.evl_base.specs.declared.refusal.Refusal.TheVariants.{CoreBusy, Invalid}
use Rattle.evl_kernel.specs.histories.Histories.{History, IsLegal}
use Rattle.evl_kernel.specs.state.KernelViews.{KernelView}
use Rattle.evl_core.specs.lock.Lock.{LockView}
use Rattle.evl_core.specs.declared.views.Account.{Account}
use Rattle.evl_core.specs.accounts.Accounts.{Fits, HasNoStranger, up_to_date, lost_one, saw, threads_of}
use Rattle.evl_core.specs.worlds.Events.{FailsToTake, Gives, Takes}
use Rattle.evl_core.specs.accounts.Seats.{CoreMe, view}
use Rattle.evl_core.specs.rule.Known.{ComesFrom}
use Rattle.evl_machine.specs.callers.Handles.{MachineState, CallerState, shown, turned_away}

-- the first of the callers took this kernel
abbrev pub TakenByFirst : {C : Type 0} → MachineState C → List (CallerState C) → KernelView C → Type 0
TakenByFirst m [] k = Unit {0}
TakenByFirst m (first ∷ others) k = (l : LockView) × Takes m.first first.account first.lock (saw k.history k.room first.account) l

-- rule: `close` gives the kernel; its history begins with all that each caller had seen and has exactly each caller's
--   own calls. Otherwise all come back: `Invalid` without a caller, `CoreBusy`, or `Invalid` if a caller is missing.
--   also: Closings.{KeepsOpen, LacksCaller}
--   clauses: Machine::close
--   rows: close_machine; close_with_a_dropped_holder; core_is_kept
-- The machine's kernel, which the first caller took, and whose history is legal. It begins with all that each caller had seen, of each caller's thread it has just that caller's own calls, and it has none of a thread that isn't on the board. There is a caller at least, and there are no fewer than the board has threads
pub record Closes {C : Type 0} (m : MachineState C) (callers : List (CallerState C)) (k : KernelView C) : Type 0 where
  pub some_caller : 0 < length callers
  pub all_callers : threads_of m.first.history ≤ length callers
  pub legal : IsLegal k.history
  pub strangers : HasNoStranger k.history
  pub fits : All (λ c. Fits k.history c.account) callers
  pub comes : ComesFrom m.first k
  pub takes : TakenByFirst m callers k

-- a caller is missing: the first one took the kernel and gave it back, and has seen its history
pub record LacksCaller {C : Type 0} (m : MachineState C) (first : CallerState C) (others back : List (CallerState C)) : Type 0 where
  pub few : length (first ∷ others) < threads_of m.first.history
  pub history : History
  pub room : ℕ
  pub legal : IsLegal history
  pub strangers : HasNoStranger history
  pub fits : Fits history first.account
  pub between : LockView
  pub lock : LockView
  pub back_is : back ≡ shown history room lock first ∷ others
  pub takes : Takes m.first first.account first.lock (saw history room first.account) between
  pub gives : (k : KernelView C) × (k.history ≡ history) × Gives m.first (saw history room first.account) between k (up_to_date history (saw history room first.account)) lock

-- refusals: close
--   order: Invalid (no caller), CoreBusy, Invalid (a caller is missing)
-- why the machine isn't closed, and the callers that come back: nobody was handed in, the first one found the core taken, which it counts as lost, or one is missing
abbrev pub KeepsOpen : {C : Type 0} → MachineState C → List (CallerState C) → Refusal → List (CallerState C) → Type 0
KeepsOpen m [] refusal back = (refusal ≡ Invalid) × (back ≡ [])
KeepsOpen m (first ∷ others) refusal back = ((refusal ≡ CoreBusy) × ((l : LockView) × (back ≡ turned_away l first ∷ others) × FailsToTake m.first first.account first.lock (lost_one first.account) l)) ⊎ ((refusal ≡ Invalid) × LacksCaller m first others back)

-- the seat once these accounts have come to it
abbrev pub gathered : {S : Type 0} → CoreMe S → List Account → CoreMe S
gathered me accounts = (view me.0.taken (me.0.accounts ++ accounts), me.1)

-- the accounts of these callers, the last one first
abbrev pub accounts_back : {C : Type 0} → List (CallerState C) → List Account
accounts_back [] = []
accounts_back (c ∷ cs) = accounts_back cs ++ c.account ∷ []
