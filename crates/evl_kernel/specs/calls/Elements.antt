-- All elements as one machine, the steps that each makes by itself, and whom they wake.
use Rattle.std.specs.Prelude.{ℕ, ◌==◌, List, [], ◌∷◌, Option, Some, None, slice_get, slice_set, filter_map, if◌then◌else◌}
use Rattle.std.specs.Option.{option_map_or}
use Rattle.evl_base.specs.declared.refusal.Refusal.{Refusal}
use Rattle.evl_base.specs.declared.reply.Reply.{Reply}
use Rattle.evl_kernel.specs.state.States.{State, Elements}
use Rattle.evl_kernel.specs.calls.Effects.{Answered, Effect, Made, known, lifted, refused_by, reply_in}
use Rattle.evl_kernel.specs.calls.Semaphores.{SemStep, semaphore, sem_wakes, sem_serves}
use Rattle.evl_kernel.specs.calls.FlagGroups.{FlagStep, flag_group, flag_wakes, flag_serves}
use Rattle.evl_kernel.specs.calls.CrossBuffers.{XbufStep, cross_buffer, xbuf_wakes, xbuf_serves}
use Rattle.evl_kernel.specs.calls.Mutexes.{MutexStep, mutex, mutex_wakes}
use Rattle.evl_kernel.specs.waiting.Waits.{all_woken}

abbrev pub elements : State → Elements
elements s = s.elements

abbrev pub with_elements : State → Elements → State
with_elements s e = record s { elements = e }

-- a step of one element: one constructor for each kind
pub data ElementStep : Type 0 where
  on_sem : ℕ → SemStep → ElementStep
  on_flags : ℕ → FlagStep → ElementStep
  on_xbuf : ℕ → XbufStep → ElementStep
  on_mutex : ℕ → MutexStep → ElementStep

-- a step that an element made in a run
abbrev pub Touch : Type 0
Touch = Made ElementStep

-- a step of the n-th element of a kind, which is unknown where there is none
abbrev pub at_nth : {X P : Type 0} → (X → P → Answered X) → (List X → Elements) → List X → ℕ → P → Answered Elements
at_nth machine with_kind records n step = known (slice_get records n) (λ x. lifted (λ left. with_kind (slice_set records n left)) (machine x step))

-- one machine for each kind, and no step changes another element
abbrev pub element : Elements → ElementStep → Answered Elements
element e (on_sem n step) = at_nth semaphore (λ sems. record e { sems = sems }) e.sems n step
element e (on_flags n step) = at_nth flag_group (λ flags. record e { flags = flags }) e.flags n step
element e (on_xbuf n step) = at_nth cross_buffer (λ xbufs. record e { xbufs = xbufs }) e.xbufs n step
element e (on_mutex n step) = at_nth mutex (λ mutexes. record e { mutexes = mutexes }) e.mutexes n step

-- whose waits a step ends, in order, and with what
abbrev pub wakes : Elements → ElementStep → List (ℕ × Reply)
wakes e (on_sem n step) = option_map_or (λ q. sem_wakes q step) (slice_get e.sems n) []
wakes e (on_flags n step) = option_map_or (λ f. flag_wakes f step) (slice_get e.flags n) []
wakes e (on_xbuf n step) = option_map_or (λ x. xbuf_wakes x step) (slice_get e.xbufs n) []
wakes e (on_mutex n step) = option_map_or (λ m. mutex_wakes m step) (slice_get e.mutexes n) []

-- rule: A claim always begins a wait: the kernel never sees a free mutex word.
--   rows: owners_1
-- what a wait that begins by a step is served with at once, if it is: who claims a mutex always waits
abbrev pub serves : Elements → ElementStep → Option Reply
serves e (on_sem n step) = option_map_or (λ q. sem_serves q step) (slice_get e.sems n) None
serves e (on_flags n step) = option_map_or (λ f. flag_serves f step) (slice_get e.flags n) None
serves e (on_xbuf n step) = option_map_or (λ x. xbuf_serves x step) (slice_get e.xbufs n) None
serves e (on_mutex n step) = None

-- an element makes a step, `f` follows, and then those are woken whose waits it ended
abbrev pub stepping_to : (State → State) → State → ElementStep → Effect
stepping_to f s step = lifted (λ e. all_woken (f (with_elements s e)) (wakes (elements s) step)) (element (elements s) step)

abbrev pub stepping : State → ElementStep → Effect
stepping = stepping_to (λ s. s)

-- what a call or an action does, with the steps of elements that it makes
pub record Told : Type 0 where
  pub touches : List Touch
  pub effect : Effect

abbrev pub untouched : Effect → Told
untouched effect = record { touches = []; effect = effect }

-- one step of one element, by a thread, a callback or a deadline, as it is answered
abbrev pub touch : State → Option ℕ → ElementStep → Touch
touch s by step = record { by = by; step = step; answer = reply_in (element (elements s) step) }

abbrev pub touched : State → Option ℕ → ElementStep → Told
touched s by step = record { touches = touch s by step ∷ []; effect = stepping s step }

-- a refusal that comes before all else reaches no element
abbrev pub no_touch_if : Option Refusal → List Touch → List Touch
no_touch_if None touches = touches
no_touch_if (Some refusal) touches = []

abbrev pub told_unless : Option Refusal → Told → Told
told_unless refusal told = record { touches = no_touch_if refusal told.touches; effect = refused_by refusal told.effect }

-- the steps of one element, of all
abbrev pub part : {P : Type 0} → (Touch → Option (Made P)) → List Touch → List (Made P)
part own touches = filter_map own touches

-- this step, if it is that of the n-th
abbrev pub of_nth : {P : Type 0} → ℕ → ℕ → Made P → Option (Made P)
of_nth n m made = if m == n then Some made else None

-- the step, if it is that of semaphore n
abbrev pub its_sem : ℕ → Touch → Option (Made SemStep)
its_sem n touch = on touch.step
  where
    on : ElementStep → Option (Made SemStep)
    on (on_sem m step) = of_nth n m (record { by = touch.by; step = step; answer = touch.answer })
    on _ = None

-- and if it is that of flag group n
abbrev pub its_flags : ℕ → Touch → Option (Made FlagStep)
its_flags n touch = on touch.step
  where
    on : ElementStep → Option (Made FlagStep)
    on (on_flags m step) = of_nth n m (record { by = touch.by; step = step; answer = touch.answer })
    on _ = None

-- and if it is that of cross-buffer n
abbrev pub its_xbuf : ℕ → Touch → Option (Made XbufStep)
its_xbuf n touch = on touch.step
  where
    on : ElementStep → Option (Made XbufStep)
    on (on_xbuf m step) = of_nth n m (record { by = touch.by; step = step; answer = touch.answer })
    on _ = None

-- and if it is that of mutex n
abbrev pub its_mutex : ℕ → Touch → Option (Made MutexStep)
its_mutex n touch = on touch.step
  where
    on : ElementStep → Option (Made MutexStep)
    on (on_mutex m step) = of_nth n m (record { by = touch.by; step = step; answer = touch.answer })
    on _ = None
