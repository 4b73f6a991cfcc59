-- The effect on mutexes of settling, and of every call that isn't about one: waits for them end, and nothing else.
use Rattle.std.specs.Prelude.{◌≡◌, ℕ, ◌==◌, ◌&&◌, Bool, true, false, List, [], ◌∷◌, Option, Some, is_some, Result, Ok, slice_get}
use Rattle.std.specs.Option.{option_map_or}
use Rattle.evl_base.specs.Board.{board_fits}
use Rattle.evl_base.specs.declared.call.Call.{Call}
use Rattle.evl_base.specs.declared.play.Play.{Play}
use Rattle.evl_base.specs.declared.refusal.Refusal.{Refusal}
use Rattle.evl_base.specs.declared.reply.Reply.{Reply}
use Rattle.evl_base.specs.declared.reply.Reply.TheVariants.{Done}
use Rattle.evl_mutex.specs.Mutexes.{Mutex as MutexRecorded, drop_waiter, has_ceiling}
use Rattle.evl_mutex.specs.Queues.{is_nobody}
use Rattle.evl_sched.specs.Threads.{stage_of}
use Rattle.evl_kernel.specs.declared.waits.Awaited.{Awaited}
use Rattle.evl_kernel.specs.declared.waits.Awaited.TheVariants.{Mutex}
use Rattle.evl_kernel.specs.declared.waits.Wait.{Wait}
use Rattle.evl_kernel.specs.declared.waits.Wanted.{Wanted}
use Rattle.evl_kernel.specs.declared.waits.Wanted.TheVariants as wanted
use Rattle.evl_kernel.specs.state.States.{State}
use Rattle.evl_kernel.specs.calls.Elements.{ElementStep, on_mutex}
use Rattle.evl_kernel.specs.calls.Families.{Task, on_element, on_staged, raises, begins, ends, task_of}
use Rattle.evl_kernel.specs.waiting.Waits.{wait_at}
use Rattle.evl_kernel.specs.waiting.Endings.{has_got_mutex}
use Rattle.evl_kernel.specs.calls.Serving.{answer}
use Rattle.evl_kernel.specs.histories.Histories.{History, IsLegal, Step}

abbrev pub is_for : ℕ → Awaited → Bool
is_for n (Mutex id) = id.0 == n
is_for n _ = false

abbrev pub is_done : Reply → Bool
is_done Done = true
is_done _ = false

-- the unfinished wait was for mutex n, and ended by getting it
abbrev pub got_it : ℕ → Option Wait → Bool
got_it n wait = option_map_or (λ w. is_for n w.on && option_map_or is_done w.outcome false) wait false

-- one thread after another leaves a mutex's queue, the last of the list first
abbrev pub left_by : List ℕ → MutexRecorded → MutexRecorded
left_by [] m = m
left_by (thread ∷ threads) m = drop_waiter thread (left_by threads m)

-- of a mutex only waiters left: these, and so what follows of it
pub record LeftBy (m m' : MutexRecorded) : Type 0 where
  pub gone : List ℕ
  pub left : m' ≡ left_by gone m
  pub kind : m'.kind ≡ m.kind
  pub owner : (o : ℕ) → m'.owner ≡ Some o → m.owner ≡ Some o
  pub waited : is_nobody m'.waiters ≡ false → is_nobody m.waiters ≡ false
  pub held : is_nobody m'.waiters ≡ false → m'.owner ≡ m.owner
  pub raised : is_nobody m'.waiters ≡ true → is_some m'.owner ≡ true → has_ceiling m' ≡ true
  pub stays : has_ceiling m' ≡ true → m'.owner ≡ m.owner

-- and of the threads' waits for it none ended by getting it, and none that did was finished
pub record OnlyLeft (n : ℕ) (old new : State) : Type 0 where
  pub records : (m' : MutexRecorded) → slice_get new.elements.mutexes n ≡ Some m' → (m : MutexRecorded) × (slice_get old.elements.mutexes n ≡ Some m) × LeftBy m m'
  pub got : (t : ℕ) → got_it n (wait_at new t) ≡ got_it n (wait_at old t)

-- an accepted call did what it does, and then settling only ended waits for mutexes
abbrev pub SettlingOnlyDrops : Type 0
SettlingOnlyDrops =
    (h : History) → IsLegal h → board_fits h.board ≡ true → (caller : ℕ) (asked : Call) (reply : Reply) (plays : List Play) (new : State)
    → Step h.state caller asked (Ok reply) plays new → (mid : State) × (answer h.state caller asked ≡ Ok (reply, mid)) × ((n : ℕ) → OnlyLeft n mid new)

abbrev pub is_of_mutexes : ElementStep → Bool
is_of_mutexes (on_mutex n step) = true
is_of_mutexes _ = false

abbrev pub wants_mutex : Wanted → Bool
wants_mutex (wanted.Mutex id owner) = true
wants_mutex _ = false

-- a claim, a release, a raise, or the end of a wait that got a mutex
abbrev pub touches_mutex : State → ℕ → Task → Bool
touches_mutex s caller (on_element step) = is_of_mutexes step
touches_mutex s caller (on_staged step_from) = is_of_mutexes (step_from caller (stage_of s.sched caller))
touches_mutex s caller (raises n) = true
touches_mutex s caller (begins wants until) = wants_mutex wants
touches_mutex s caller (ends keep) = has_got_mutex (wait_at s caller)
touches_mutex s caller _ = false

-- all other calls, with all that they play, do no more than that
abbrev pub OthersOnlyDrop : Type 0
OthersOnlyDrop =
    (h : History) → IsLegal h → board_fits h.board ≡ true → (caller : ℕ) (asked : Call) (reply : Result Reply Refusal) (plays : List Play) (new : State)
    → Step h.state caller asked reply plays new → touches_mutex h.state caller (task_of asked) ≡ false → (n : ℕ) → OnlyLeft n h.state new
