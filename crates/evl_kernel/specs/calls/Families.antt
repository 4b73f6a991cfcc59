-- The request of a call, by its family: a step on lines and stages, one on the clock, one on threads, a step of one element,
-- a wait that begins, or one that ends. A law over all calls goes by these families.
use Rattle.std.specs.Prelude.{ℕ, Bool, true, false, not, Option, Some}
use Rattle.evl_base.specs.declared.stage.Stage.{Stage}
use Rattle.evl_base.specs.declared.policy.Policy.{Policy}
use Rattle.evl_base.specs.declared.call.Call.{Call}
use Rattle.evl_base.specs.declared.call.Call.TheVariants.{Request, Free, Arrive, Post, Stall, Unstall, Tick, Now, NewTimer, StartTimer, StopTimer, DropTimer, Overruns, Attach, Detach, SetPolicy, SetStage, Pick, RankOf, TryGet, Put, Peek, BeginGet, TryTake, PostFlags, PeekFlags, BeginTake, Write, Read, Room, BeginWrite, BeginRead, Claim, Release, Raise, Finish}
use Rattle.evl_sched.specs.Threads.{stage_of}
use Rattle.evl_kernel.specs.declared.waits.Wanted.{Wanted}
use Rattle.evl_kernel.specs.declared.waits.Wanted.TheVariants as wanted
use Rattle.evl_kernel.specs.state.States.{State}
use Rattle.evl_kernel.specs.calls.Effects.{Effect}
use Rattle.evl_kernel.specs.calls.Semaphores.{get, put, peek}
use Rattle.evl_kernel.specs.calls.FlagGroups as group
use Rattle.evl_kernel.specs.calls.CrossBuffers as through
use Rattle.evl_kernel.specs.calls.Mutexes as recorded
use Rattle.evl_kernel.specs.calls.OwnerCalls.{raising}
use Rattle.evl_kernel.specs.calls.Elements.{ElementStep, on_sem, on_flags, on_xbuf, on_mutex, Told, touched, untouched}
use Rattle.evl_kernel.specs.waiting.Beginnings.{beginning}
use Rattle.evl_kernel.specs.waiting.Endings.{finish}
use Rattle.evl_kernel.specs.calls.LineCalls as line_call
use Rattle.evl_kernel.specs.calls.TimerCalls as timer_call
use Rattle.evl_kernel.specs.calls.ThreadCalls as thread_call

pub data LineStep : Type 0 where
  -- of a line, on a stage, the callback of this number, with a tag
  request : ℕ → Stage → ℕ → ℕ → LineStep
  free : ℕ → Stage → LineStep
  arrive : ℕ → LineStep
  post : Stage → ℕ → LineStep
  stall : Stage → LineStep
  unstall : Stage → LineStep

abbrev pub line_effect : State → LineStep → Effect
line_effect s (request line stage number tag) = line_call.request s line stage number tag
line_effect s (free line stage) = line_call.free_line s line stage
line_effect s (arrive line) = line_call.arrive s line
line_effect s (post stage line) = line_call.post s stage line
line_effect s (stall stage) = line_call.stall s stage
line_effect s (unstall stage) = line_call.unstall s stage

pub data ClockStep : Type 0 where
  tick : ℕ → ClockStep
  read_date : ClockStep
  -- of the callback of this number, with a tag
  new_timer : ℕ → ℕ → ClockStep
  -- of a timer, at a date, with an interval
  start_timer : ℕ → ℕ → ℕ → ClockStep
  stop_timer : ℕ → ClockStep
  drop_timer : ℕ → ClockStep
  overruns : ℕ → ClockStep

abbrev pub clock_effect : State → ClockStep → Effect
clock_effect s (tick delta) = timer_call.tick s delta
clock_effect s read_date = timer_call.now s
clock_effect s (new_timer number tag) = timer_call.new_timer s number tag
clock_effect s (start_timer timer date interval) = timer_call.start_timer s timer date interval
clock_effect s (stop_timer timer) = timer_call.stop_timer s timer
clock_effect s (drop_timer timer) = timer_call.drop_timer s timer
clock_effect s (overruns timer) = timer_call.overruns s timer

pub data ThreadStep : Type 0 where
  attach : Policy → Stage → ThreadStep
  detach : ThreadStep
  set_policy : Policy → ThreadStep
  set_stage : Stage → ThreadStep
  pick : ThreadStep
  -- of this thread
  tell_rank : ℕ → ThreadStep

-- the first four are about the caller itself
abbrev pub thread_effect : State → ℕ → ThreadStep → Effect
thread_effect s caller (attach policy stage) = thread_call.attach s caller policy stage
thread_effect s caller detach = thread_call.detach s caller
thread_effect s caller (set_policy policy) = thread_call.set_policy s caller policy
thread_effect s caller (set_stage stage) = thread_call.set_stage s caller stage
thread_effect s caller pick = thread_call.pick s
thread_effect s caller (tell_rank thread) = thread_call.tell_rank s thread

pub data Task : Type 0 where
  on_lines : LineStep → Task
  on_clock : ClockStep → Task
  on_threads : ThreadStep → Task
  on_element : ElementStep → Task
  -- one that goes by its caller and that one's stage
  on_staged : (ℕ → Stage → ElementStep) → Task
  -- its caller has the ceiling of this mutex
  raises : ℕ → Task
  -- a wait, until the deadline where there is one
  begins : Wanted → Option ℕ → Task
  -- whether a weak thread keeps its stage
  ends : Bool → Task

-- a task beside lines and clock
abbrev pub is_of_threads : Task → Bool
is_of_threads (on_lines step) = false
is_of_threads (on_clock step) = false
is_of_threads _ = true

-- a task that begins or ends a wait
abbrev pub is_of_waits : Task → Bool
is_of_waits (begins wanted until) = true
is_of_waits (ends keep) = true
is_of_waits _ = false

-- rule: An accepted tick moves the date by its nanoseconds; no other call moves it, and no play.
--   clauses: ticks_move_the_date
-- the nanoseconds that a task lets pass
abbrev pub time_of : Task → ℕ
time_of (on_clock (tick delta)) = delta
time_of _ = 0

-- a step on lines, on the clock or on threads reaches no element, nor does the end of a wait, and one of an element is its
-- caller's
abbrev pub performing : State → ℕ → Task → Told
performing s caller (on_lines step) = untouched (line_effect s step)
performing s caller (on_clock step) = untouched (clock_effect s step)
performing s caller (on_threads step) = untouched (thread_effect s caller step)
performing s caller (on_element step) = touched s (Some caller) step
performing s caller (on_staged step_from) = touched s (Some caller) (step_from caller (stage_of s.sched caller))
performing s caller (raises mutex) = raising s caller mutex
performing s caller (begins wanted until) = beginning s caller wanted until
performing s caller (ends keep) = untouched (finish s caller keep)

-- rule: An unattached caller writes way `In` and reads way `Out`, as if in-band; to begin a wait it must be attached.
--   also: Threads.stage_of; Beginnings.waiter_refusal
--   rows: cross_buffer; xbuf_refusals
-- the table of calls
abbrev pub task_of : Call → Task
task_of (Request line stage callback tag) = on_lines (request line.0 stage callback tag)
task_of (Free line stage) = on_lines (free line.0 stage)
task_of (Arrive line) = on_lines (arrive line.0)
task_of (Post stage line) = on_lines (post stage line.0)
task_of (Stall stage) = on_lines (stall stage)
task_of (Unstall stage) = on_lines (unstall stage)
task_of (Tick delta) = on_clock (tick delta)
task_of Now = on_clock read_date
task_of (NewTimer callback tag) = on_clock (new_timer callback tag)
task_of (StartTimer timer date interval) = on_clock (start_timer timer.0 date interval)
task_of (StopTimer timer) = on_clock (stop_timer timer.0)
task_of (DropTimer timer) = on_clock (drop_timer timer.0)
task_of (Overruns timer) = on_clock (overruns timer.0)
task_of (Attach policy stage) = on_threads (attach policy stage)
task_of Detach = on_threads detach
task_of (SetPolicy policy) = on_threads (set_policy policy)
task_of (SetStage stage) = on_threads (set_stage stage)
task_of Pick = on_threads pick
task_of (RankOf thread) = on_threads (tell_rank thread.0)
task_of (TryGet sem) = on_element (on_sem sem.0 get)
task_of (Put sem) = on_element (on_sem sem.0 put)
task_of (Peek sem) = on_element (on_sem sem.0 peek)
task_of (BeginGet sem until) = begins (wanted.Sem sem) until
task_of (TryTake flags kind) = on_element (on_flags flags.0 (group.take kind))
task_of (PostFlags flags bits) = on_element (on_flags flags.0 (group.post bits))
task_of (PeekFlags flags) = on_element (on_flags flags.0 group.peek)
task_of (BeginTake flags kind until) = begins (wanted.Flags flags kind) until
task_of (Write xbuf way bytes) = on_staged (λ caller stage. on_xbuf xbuf.0 (through.write stage way bytes.items))
task_of (Read xbuf way len) = on_staged (λ caller stage. on_xbuf xbuf.0 (through.read stage way len))
task_of (Room xbuf way) = on_element (on_xbuf xbuf.0 (through.room way))
task_of (BeginWrite xbuf way bytes until) = begins (wanted.Write xbuf way bytes) until
task_of (BeginRead xbuf way len until) = begins (wanted.Read xbuf way len) until
task_of (Claim mutex owner until) = begins (wanted.Mutex mutex owner) until
task_of (Release mutex) = on_staged (λ caller stage. on_mutex mutex.0 (recorded.release caller))
task_of (Raise mutex) = raises mutex.0
task_of (Finish keep) = ends keep

-- a task by which its caller may come to another stage
abbrev pub moves_caller : Task → Bool
moves_caller (on_threads (attach policy stage)) = true
moves_caller (on_threads detach) = true
moves_caller (on_threads (set_stage stage)) = true
moves_caller (ends keep) = not keep
moves_caller _ = false
