-- A caller that is kept apart from the others of its machine, and what a call does to it.
use Rattle.std.specs.Prelude.{◌≡◌, ◌⊎◌, ℕ, List, [], ◌++◌, Bool, Option, Some, None, map, position, Result, Ok, Err, string_bytes, String}
use Rattle.evl_base.specs.declared.call.Call.{Call}
use Rattle.evl_base.specs.declared.numbers.MutexId.{MutexId}
use Rattle.evl_base.specs.declared.numbers.StaxId.{StaxId}
use Rattle.evl_base.specs.declared.refusal.Refusal.{Refusal}
use Rattle.evl_base.specs.declared.refusal.Refusal.TheVariants.{CoreBusy, NoMemory, NotOwner}
use Rattle.evl_base.specs.declared.reply.Reply.{Reply}
use Rattle.std.specs.declared.alloc.Global.{Global}
use Rattle.evl_base.specs.declared.board.Board.{Board}
use Rattle.evl_kernel.specs.state.KernelViews.{IsOpened, KernelView}
use Rattle.evl_core.specs.worlds.Events.{FailsToTake, Gives, Takes}
use Rattle.evl_machine.specs.callers.Handles.{CallerState, HeldState, MachineState, newcomers_of, returned, turned_away}
use Rattle.evl_machine.specs.calls.Calls.{Called, TookKernel, stage_of_caller}
use Rattle.evl_machine.specs.declared.locking.Begun.{Begun}
use Rattle.evl_machine.specs.declared.locking.Ended.{Ended}
use Rattle.evl_machine.specs.mutex_locks.MutexLocks.{BeginsToLock, FinishesToLock, TriesToLock, TriesToUnlock, UnlocksFast}
use Rattle.evl_machine.specs.stax_locks.StaxCalls.{StaxCall}
use Rattle.evl_machine.specs.stax_locks.StaxSeats.{LeavesStax, TriesStax}
use Rattle.evl_plans.specs.declared.planned.Planned.{Planned}
use Rattle.evl_scenario.specs.Traces.{history_trace}
use Rattle.evl_words.specs.declared.gate.StaxPass.{StaxPass}
use Rattle.evl_words.specs.declared.mutex.MutexPass.{MutexPass}
use Rattle.evl_hosts.specs.Passes.{TakesFirst, back, begun_given, begun_reply, ended_given, ended_reply, given, is_of_mutex, is_of_stax, locked_reply, spent, spent_reply}

-- its machine, the caller, and the passes that it has
pub record HostState : Type 0 where
  pub machine : MachineState Planned
  pub caller : Option (CallerState Planned)
  pub staxes : List StaxPass
  pub mutexes : List MutexPass

-- one that has made no call
abbrev pub new_host : MachineState Planned → CallerState Planned → HostState
new_host machine caller = record { machine = machine; caller = Some caller; staxes = []; mutexes = [] }

-- those of a machine with so many threads, in the threads' order
abbrev pub new_hosts : MachineState Planned → ℕ → List HostState
new_hosts machine threads = map (new_host machine) (newcomers_of machine threads)

-- rule: Each call is one of the machine's by this caller, with that answer, and changes nothing else. A pass that it
--   brings is kept after the others, the first one of the mutex or stax is spent, and one that comes back is kept
--   again. Without a pass, or without room for one, nothing is done.
--   also: Hosts.{CallsKernel, TriesMutex, BeginsMutex, FinishesMutex, UnlocksMutexFast, UnlocksMutex, TriesToEnter,
--   LeavesBy, LacksRoom}
--   clauses: Host::{try_call, try_lock_mutex, begin_lock_mutex, finish_lock_mutex, unlock_mutex_fast, try_unlock_mutex,
--   try_lock_stax, unlock_stax}
-- the caller does this at its machine, and has these passes then
pub record Steps (does : CallerState Planned → CallerState Planned → Type 0) (staxes : List StaxPass) (mutexes : List MutexPass) (old new : HostState) : Type 0 where
  pub before : CallerState Planned
  pub after : CallerState Planned
  pub had : old.caller ≡ Some before
  pub done : does before after
  pub has : new ≡ record { machine = old.machine; caller = Some after; staxes = staxes; mutexes = mutexes }

-- a call of the kernel
abbrev pub CallsKernel : Call → Result Reply Refusal → HostState → HostState → Type 0
CallsKernel call r old new = Steps (λ a b. Called old.machine.first.limit a call r b) old.staxes old.mutexes old new

-- there is no room for a pass more, and nothing is done
abbrev pub LacksRoom : Result Reply Refusal → HostState → HostState → Type 0
LacksRoom r old new = (r ≡ Err NoMemory) × (new ≡ old)

-- a try of a mutex, and of a stax
abbrev pub TriesMutex : MutexId → Result Reply Refusal → HostState → HostState → Type 0
TriesMutex mutex r old new =
    LacksRoom r old new
    ⊎ ((told : Result MutexPass Refusal) × (r ≡ locked_reply told) × Steps (λ a b. TriesToLock a mutex told b) old.staxes (old.mutexes ++ given told) old new)

abbrev pub TriesToEnter : StaxId → Result Reply Refusal → HostState → HostState → Type 0
TriesToEnter stax r old new =
    LacksRoom r old new
    ⊎ ((told : Result StaxPass Refusal) × (r ≡ locked_reply told) × Steps (λ a b. StaxCall a (λ o n. TriesStax o stax.0 (stage_of_caller a) told n) b) (old.staxes ++ given told) old.mutexes old new)

-- the beginning of a lock, and the end of a wait for it
abbrev pub BeginsMutex : MutexId → Option ℕ → Result Reply Refusal → HostState → HostState → Type 0
BeginsMutex mutex until r old new =
    LacksRoom r old new
    ⊎ ((told : Result Begun Refusal) × (r ≡ begun_reply told) × Steps (λ a b. BeginsToLock a mutex until told b) old.staxes (old.mutexes ++ begun_given told) old new)

abbrev pub FinishesMutex : Result Reply Refusal → HostState → HostState → Type 0
FinishesMutex r old new =
    LacksRoom r old new
    ⊎ ((told : Result Ended Refusal) × (r ≡ ended_reply told) × Steps (λ a b. FinishesToLock a told b) old.staxes (old.mutexes ++ ended_given told) old new)

-- The first pass of a mutex is spent in this way. A pass that comes back goes after the others; without one nothing is done.
abbrev pub SpendsMutex : (CallerState Planned → MutexPass → Result (Unit {0}) (Refusal × MutexPass) → CallerState Planned → Type 0) → MutexId → Result Reply Refusal → HostState → HostState → Type 0
SpendsMutex does mutex r old new =
    ((position (is_of_mutex mutex.0) old.mutexes ≡ None) × (r ≡ Err NotOwner) × (new ≡ old))
    ⊎ ((pass : MutexPass) × (left : List MutexPass) × TakesFirst (is_of_mutex mutex.0) old.mutexes pass left × (told : Result (Unit {0}) (Refusal × MutexPass)) × (r ≡ spent_reply told)
    × Steps (λ a b. does a pass told b) old.staxes (left ++ back told) old new)

abbrev pub UnlocksMutexFast : MutexId → Result Reply Refusal → HostState → HostState → Type 0
UnlocksMutexFast mutex r old new = SpendsMutex (λ a pass told b. UnlocksFast a pass told b) mutex r old new

abbrev pub UnlocksMutex : MutexId → Result Reply Refusal → HostState → HostState → Type 0
UnlocksMutex mutex r old new = SpendsMutex (λ a pass told b. TriesToUnlock a pass told b) mutex r old new

-- as `UnlocksMutex`, of a stax, with whether others want in
abbrev pub LeavesBy : StaxId → Result Bool Refusal → HostState → HostState → Type 0
LeavesBy stax r old new =
    ((position (is_of_stax stax.0) old.staxes ≡ None) × (r ≡ Err NotOwner) × (new ≡ old))
    ⊎ ((pass : StaxPass) × (left : List StaxPass) × TakesFirst (is_of_stax stax.0) old.staxes pass left × (told : Result Bool (Refusal × StaxPass)) × (r ≡ spent told)
    × Steps (λ a b. StaxCall a (λ o n. LeavesStax o pass told n) b) (left ++ back told) old.mutexes old new)

-- the trace of a kernel's history, for the machine that it is of
abbrev pub kernel_trace : MachineState Planned → KernelView Planned → List ℕ
kernel_trace machine k = history_trace machine.first.history.board machine.first.limit k.history.entries k.history.plays

-- the bytes of an answered text
abbrev pub bytes_of : Result (String Global) Refusal → Result (List ℕ) Refusal
bytes_of (Ok text) = Ok (string_bytes text)
bytes_of (Err refusal) = Err refusal

-- rule: A caller's trace is that of the history of all callers, which it takes the core to read and gives back, by two
--   steps on the core; or a step found that another has the core, or a growth was refused.
--   also: Hosts.{TakesAndGives, TellsTrace}
--   clauses: Host::trace
-- rule: The kernel's answer to a question of a caller is what it says in one take, after which the core is given back
--   and nothing entered; or a step found that another has the core.
--   also: Hosts.{TakesAndGives, Looks}
--   clauses: Host::look
-- the caller finds that another has the kernel, and has lost a take more
abbrev pub FindsTaken : {T : Type 0} → MachineState Planned → Result T Refusal → CallerState Planned → CallerState Planned → Type 0
FindsTaken machine r a b = (r ≡ Err CoreBusy) × (b ≡ turned_away b.lock a) × FailsToTake machine.first a.account a.lock b.account b.lock

-- the caller takes the kernel and gives it back as it is
abbrev pub TakesAndGives : MachineState Planned → KernelView Planned → CallerState Planned → CallerState Planned → Type 0
TakesAndGives machine k a b =
    (h : HeldState Planned) × (h.kernel ≡ k) × TookKernel a h × Takes machine.first a.account a.lock h.caller.account h.caller.lock
    × (b ≡ returned k.history b.lock h.caller) × Gives machine.first h.caller.account h.caller.lock k b.account b.lock

-- The trace of the kernel that the caller takes is given, or there is no memory for it. Or another has the kernel.
abbrev pub TellsTrace : MachineState Planned → Result (List ℕ) Refusal → CallerState Planned → CallerState Planned → Type 0
TellsTrace machine r a b =
    FindsTaken machine r a b ⊎ ((k : KernelView Planned) × TakesAndGives machine k a b × ((r ≡ Ok (kernel_trace machine k)) ⊎ (r ≡ Err NoMemory)))

-- The answer of the kernel that the caller takes is given. Or another has the kernel.
abbrev pub Looks : {T : Type 0} → MachineState Planned → (KernelView Planned → T) → Result T Refusal → CallerState Planned → CallerState Planned → Type 0
Looks machine told_of r a b = FindsTaken machine r a b ⊎ ((k : KernelView Planned) × TakesAndGives machine k a b × (r ≡ Ok (told_of k)))

-- rule: The callers of a machine that is opened so are those of a new machine of just this board, bank and limit, in
--   the threads' order, without passes. Why there is none is exact.
--   also: Hosts.new_hosts
--   clauses: open_hosts
-- the callers of a machine that was made of these
abbrev pub AreOpened : Board → List Planned → ℕ → List HostState → Type 0
AreOpened board bank limit hosts = (machine : MachineState Planned) × IsOpened (λ p. p.kinds.0) (λ p. p.plan) board bank limit machine.first × (hosts ≡ new_hosts machine board.threads)
