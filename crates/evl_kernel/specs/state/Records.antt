-- The kernel's records as contracts see them, and what they mean.
use Rattle.std.specs.Prelude.{◌≡◌, ◌≤◌, ℕ, true, List, length, map, Option, Some, is_some, slice_get, slice_index}
use Rattle.std.specs.Option.{option_map_or}
use Rattle.evl_base.specs.declared.board.Board.{Board}
use Rattle.evl_base.specs.declared.stage.Stage.{Stage}
use Rattle.evl_pipeline.specs.declared.plan.Plan.{Plan}
use Rattle.evl_pipeline.specs.Plans.{is_allowed}
use Rattle.evl_pipeline.specs.Lines as lines
use Rattle.evl_clock.specs.declared.timer.Timer.{Timer}
use Rattle.evl_clock.specs.Timers.{is_timer_allowed}
use Rattle.evl_clock.specs.Clocks as clocks
use Rattle.evl_sched.specs.Ranks as ranks
use Rattle.evl_sched.specs.Ranks.{Ranked}
use Rattle.evl_sched.specs.Threads.{Sched, base_of, is_attached}
use Rattle.evl_mutex.specs.Owners as owners
use Rattle.evl_mutex.specs.Owners.{Owners}
use Rattle.evl_kernel.specs.declared.waits.Awaited.{Awaited}
use Rattle.evl_kernel.specs.declared.waits.Wait.{Wait}
use Rattle.evl_kernel.specs.declared.bank.BankPlace.{BankPlace}
use Rattle.evl_kernel.specs.declared.bank.Numbered.{Numbered}
use Rattle.evl_base.specs.Limits.{thread_limit}
use Rattle.evl_kernel.specs.state.States.{State, Elements, Banked}
use Rattle.evl_kernel.specs.state.ElementsViews.{ElementsView, owners_of}
use Rattle.evl_kernel.specs.waiting.Standing.{AreSound, stands_for}
use Rattle.evl_kernel.specs.waiting.Waits.{wait_of, going_on}
use Rattle.evl_kernel.specs.state.Renamed.{renamed, renamed_clock}
use Rattle.evl_kernel.specs.state.Openings.{opening}
use Rattle.evl_kernel.specs.state.Callbacks.{Whereabouts, handler_of, handlers_in, BringsNone, AreFilled}

pub record RecordsView (C : Type 0) : Type 0 where
  pub threads : ℕ
  pub elements : ElementsView
  pub bank : List (BankPlace C)
  pub lines : lines.Pipeline (Numbered C)
  pub clock : clocks.Clock (Numbered C)
  pub sched : Ranked
  pub waits : List (Option Wait)

module _ {C : Type 0} where
  abbrev pub banked : BankPlace C → Banked
  banked place = record { handler = handler_of place; home = is_some place.callback }

  abbrev pub number_of : Numbered C → ℕ
  number_of numbered = numbered.number

  -- what the records mean
  abbrev pub state_of : RecordsView C → State
  state_of r = record {
    threads = r.threads;
    elements = r.elements.elements;
    bank = map banked r.bank;
    lines = renamed number_of r.lines;
    clock = renamed_clock number_of r.clock;
    sched = r.sched.sched;
    waits = r.waits;
  }

  abbrev pub whereabouts : RecordsView C → Whereabouts C
  whereabouts r = record { bank = r.bank; lines = r.lines; clock = r.clock }

-- the kinds that the callback of this number declares
abbrev pub kinds_at : State → ℕ → ℕ
kinds_at s number = option_map_or (λ b. b.handler.kinds) (slice_get s.bank number) 0

-- each callback on a line declares only kinds that are allowed there
abbrev pub AreAllowed : State → Type 0
AreAllowed s = (stage : Stage) (line : ℕ) (at : lines.Installed ℕ) → lines.installed_at s.lines stage line ≡ Some at → is_allowed stage (kinds_at s at.callback) ≡ true

-- and so does each callback of a timer
abbrev pub AreTimersAllowed : State → Type 0
AreTimersAllowed s = (timer : ℕ) (at : Timer ℕ) → clocks.timer_at s.clock timer ≡ Some at → is_timer_allowed (kinds_at s at.callback) ≡ true

-- each thread of a board has a place for its wait, and a thread in a queue waits for that, and its wait goes on
pub record WaitsAreKept (threads : ℕ) (e : Elements) (waits : List (Option Wait)) : Type 0 where
  pub few : threads ≤ thread_limit
  pub sound : AreSound e
  pub places : length waits ≡ threads
  pub going : (on : Awaited) (thread : ℕ) → stands_for e on thread ≡ true → wait_of waits thread ≡ Some (going_on on)

-- the recorded owners were given the base rank of each thread, 0 where it isn't attached
pub record AreTold (base : List ℕ) (s : Sched) : Type 0 where
  pub few : length base ≤ thread_limit
  pub seats : length s.seats ≤ length base
  pub same : (thread : ℕ) → slice_index base thread ≡ base_of s thread

-- each attached thread is picked by its effective rank
abbrev pub AreGiven : Ranked → Owners → Type 0
AreGiven r o = (thread : ℕ) → is_attached r.sched thread ≡ true → ranks.rank_of r thread ≡ owners.rank_of o thread

-- the recorded owners are of the threads of the board
pub record RanksAreKept (threads : ℕ) (o : Owners) (r : Ranked) : Type 0 where
  pub size : length o.base ≡ threads
  pub told : AreTold o.base r.sched
  pub given : AreGiven r o

pub record IsSound {C : Type 0} (r : RecordsView C) : Type 0 where
  pub allowed : AreAllowed (state_of r)
  pub timers_allowed : AreTimersAllowed (state_of r)
  pub clock_sound : clocks.IsSoundClock r.clock
  pub ranks : RanksAreKept r.threads (owners_of r.elements) r.sched
  pub waits : WaitsAreKept r.threads r.elements.elements r.waits

-- the records of a new kernel
pub record IsOpened {C : Type 0} (declared : C → ℕ) (plan : C → Plan) (board : Board) (bank : List C) (r : RecordsView C) : Type 0 where
  pub filled : AreFilled declared plan bank r.bank
  pub nothing_out : r.lines ≡ lines.opening
  pub no_timers : r.clock ≡ clocks.opening board.threads
  pub state : state_of r ≡ opening board (map (λ callback. record { kinds = declared callback; plan = plan callback }) bank)

-- no callback came, and what is said of the places is the same
pub record KeepsCallbacks {C : Type 0} (old new : RecordsView C) : Type 0 where
  pub brings : BringsNone (whereabouts old) (whereabouts new)
  pub handlers_are : handlers_in new.bank ≡ handlers_in old.bank
