-- A machine, a caller, and a caller that has the kernel, as a contract sees them.
use Rattle.std.specs.Prelude.{◌≡◌, ℕ, List, map}
use Rattle.std.specs.List.{range_with_len}
use Rattle.atomic_table.specs.Seated.{TableId}
use Rattle.evl_kernel.specs.histories.Histories.{History}
use Rattle.evl_kernel.specs.state.KernelViews.{KernelView}
use Rattle.evl_words.specs.GateCalls.{SeatState}
use Rattle.evl_words.specs.GateWorld.{newcomer as at_gate}
use Rattle.evl_words.specs.MutexCalls.{MutexSeatState}
use Rattle.evl_words.specs.MutexWorld.{newcomer as at_mutex}
use Rattle.evl_core.specs.words.Homes.{Home, mutex_home, stax_home}
use Rattle.evl_core.specs.declared.views.Account.{Account}
use Rattle.evl_core.specs.lock.Lock.{LockView, new_lock}
use Rattle.evl_core.specs.accounts.Accounts.{up_to_date, lost_one, newcomer, saw}

-- which machine it is, its kernel as it was made, and where the seats at its staxes and mutexes belong
pub record MachineState (C : Type 0) : Type 0 where
  pub id : TableId
  pub first : KernelView C
  pub staxes : List Home
  pub mutexes : List Home

-- which machine the caller belongs to, what it knows of the kernel and of the core's lock, and its seats at the staxes and mutexes
pub record CallerState (C : Type 0) : Type 0 where
  pub machine : MachineState C
  pub account : Account
  pub lock : LockView
  pub staxes : List SeatState
  pub mutexes : List MutexSeatState

-- the machine to which these seats belong
abbrev pub machine_of : {C : Type 0} → TableId → KernelView C → List SeatState → List MutexSeatState → MachineState C
machine_of id first staxes mutexes = record { id = id; first = first; staxes = map stax_home staxes; mutexes = map mutex_home mutexes }

-- the caller of this machine that knows this and has these seats
abbrev pub caller_of : {C : Type 0} → MachineState C → Account → LockView → List SeatState → List MutexSeatState → CallerState C
caller_of machine account lock staxes mutexes = record { machine = machine; account = account; lock = lock; staxes = staxes; mutexes = mutexes }

-- the caller is as it was once it had taken the kernel, which is as it is now
pub record HeldState (C : Type 0) : Type 0 where
  pub caller : CallerState C
  pub kernel : KernelView C

module _ {C : Type 0} where
  -- the caller was made with the machine
  abbrev pub Belongs : CallerState C → MachineState C → Type 0
  Belongs caller machine = caller.machine ≡ machine

  -- only what a caller knows changes
  abbrev pub IsSameCaller : CallerState C → CallerState C → Type 0
  IsSameCaller old new = new.machine ≡ old.machine

  -- the caller once it took a kernel with this history and this room, and once it gave back a kernel with this history, with what it then knows of the lock
  abbrev pub shown : History → ℕ → LockView → CallerState C → CallerState C
  shown h room lock caller = record caller { account = saw h room caller.account; lock = lock }

  abbrev pub returned : History → LockView → CallerState C → CallerState C
  returned h lock caller = record caller { account = up_to_date h caller.account; lock = lock }

  -- the caller once it found the core taken
  abbrev pub turned_away : LockView → CallerState C → CallerState C
  turned_away lock caller = record caller { account = lost_one caller.account; lock = lock }

-- the seat of a thread that has made no step, at a stax and at a mutex
abbrev pub new_stax : ℕ → Home → SeatState
new_stax t h = record { table = h.table; gate = record { 0 = h.number }; number = t; view = at_gate h.bound }

abbrev pub new_mutex : ℕ → Home → MutexSeatState
new_mutex t h = record { table = h.table; mutex = record { 0 = h.number }; number = t; depth = 0; view = at_mutex h.bound }

-- the caller of a thread that has made no call, and those of the first n threads
abbrev pub newcomer_of : {C : Type 0} → MachineState C → ℕ → CallerState C
newcomer_of m t = caller_of m (newcomer m.first.history t) new_lock (map (new_stax t) m.staxes) (map (new_mutex t) m.mutexes)

-- rule: A machine has a caller for each thread of its board, in order, a stax for each limit, a word for each mutex.
--   also: Seats.IsCaller; Homes.AreHomes
--   clauses: Machine::{new, over}
--   rows: each_request_for_a_machine_is_refused_once; machine_has_a_range;
--   each_request_of_a_contended_mutex_is_refused_once
abbrev pub newcomers_of : {C : Type 0} → MachineState C → ℕ → List (CallerState C)
newcomers_of m n = map (newcomer_of m) (range_with_len 0 n)
