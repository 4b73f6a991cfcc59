-- The parts of a machine by numbers, as JSON: threads, elements, timers, and lines that are pending.
use Rattle.std.specs.Prelude.{ℕ, ℤ, zero, suc, Bool, true, List, [], ◌∷◌, ◌++◌, length, codes, decimal, filter, is_some, map, slice_get, if◌then◌else◌, Option, Some, None, option_map}
use Rattle.std.specs.Fmt.{signed_decimal}
use Rattle.evl_base.specs.Policy.{policy_text}
use Rattle.evl_base.specs.Stage.{stage_text}
use Rattle.evl_base.specs.Way.{way_text}
use Rattle.evl_base.specs.declared.numbers.XbufId.{XbufId}
use Rattle.evl_base.specs.declared.policy.Policy.{Policy}
use Rattle.evl_base.specs.declared.way.Way.{Way}
use Rattle.evl_base.specs.declared.way.Way.TheVariants.{In, Out}
use Rattle.evl_clock.specs.Clocks.{timer_at}
use Rattle.evl_clock.specs.declared.timer_state.TimerState.{TimerState}
use Rattle.evl_clock.specs.declared.timer_state.TimerState.TheVariants.{Idle, Running, Ended}
use Rattle.evl_pipeline.specs.Lines.{is_pending}
use Rattle.evl_sched.specs.Threads.{is_attached, seat_at, stage_of}
use Rattle.evl_sync.specs.Semaphores.{peek}
use Rattle.evl_xbuf.specs.Xbufs.{stream}
use Rattle.evl_mutex.specs.Owners.{owner_at}
use Rattle.evl_kernel.specs.calls.MutexEffects.{record_at}
use Rattle.evl_kernel.specs.calls.ThreadCalls.{rank_of}
use Rattle.evl_kernel.specs.declared.waits.Awaited.{Awaited}
use Rattle.evl_kernel.specs.declared.waits.Awaited.TheVariants as awaited
use Rattle.evl_kernel.specs.state.States.{State}
use Rattle.evl_kernel.specs.waiting.Standing as standing
use Rattle.evl_kernel.specs.waiting.Waits.{has_ended, has_timed_out, wait_at}
use Rattle.lab_json.specs.Texts.{json_list, name_json, number_json}
use Rattle.lab_json.specs.declared.lists.Part.{Part}
use Rattle.lab_json.specs.declared.lists.Part.TheVariants.{Thread, Sem, Flags, Xbuf, Mutex, Timer, Pending}

-- the numbers below n, in order
unfoldable pub numbers_below : ℕ → List ℕ
numbers_below zero = []
numbers_below (suc n) = numbers_below n ++ n ∷ []

-- ---- what is there

-- the policy of a thread that is attached
abbrev pub policy_at : State → ℕ → Option Policy
policy_at s thread = option_map (λ seat. seat.policy) (seat_at s.sched thread)

abbrev pub count_at : State → ℕ → Option ℤ
count_at s sem = option_map peek (slice_get s.elements.sems sem)

abbrev pub bits_at : State → ℕ → Option ℕ
bits_at s flags = option_map (λ group. group.bits) (slice_get s.elements.flags flags)

-- how many bytes stand in a way of a cross-buffer
abbrev pub there_at : State → ℕ → Way → Option ℕ
there_at s xbuf way = option_map (λ x. length (stream x way).there) (slice_get s.elements.xbufs xbuf)

abbrev pub timer_state : State → ℕ → Option TimerState
timer_state s timer = option_map (λ t. t.state) (timer_at s.clock timer)

abbrev pub owner_of : State → ℕ → Option ℕ
owner_of s mutex = owner_at (record_at s mutex)

-- a mutex is there while it has an owner, a line while it is pending
abbrev pub is_there : State → Part → ℕ → Bool
is_there s Thread number = is_some (policy_at s number)
is_there s Sem number = is_some (count_at s number)
is_there s Flags number = is_some (bits_at s number)
is_there s Xbuf number = is_some (there_at s number In)
is_there s Mutex number = is_some (owner_of s number)
is_there s Timer number = is_some (timer_state s number)
is_there s (Pending stage) number = is_pending s.lines stage number

abbrev pub limit_of : Part → ℕ
limit_of Thread = 256
limit_of Sem = 64
limit_of Flags = 64
limit_of Xbuf = 16
limit_of Mutex = 32
limit_of Timer = 64
limit_of (Pending stage) = 4096

-- the numbers of those that are there, in rising order
abbrev pub numbers_there : State → Part → List ℕ
numbers_there s part = filter (is_there s part) (numbers_below (limit_of part))

-- ---- lists

abbrev pub numbers_json : List ℕ → List ℕ
numbers_json numbers = codes "[" ++ (json_list true (map decimal numbers) ++ codes "]")

-- who waits for an element, in the order of its queue
abbrev pub queue_json : State → Awaited → List ℕ
queue_json s on = numbers_json (standing.queue_of s.elements on)

-- ---- a thread

-- what a thread waits for: an element and its number; of a cross-buffer also the way
abbrev pub awaited_json : Awaited → List ℕ
awaited_json (awaited.Sem id) = codes "{\"for\": \"sem\", \"number\": " ++ decimal id.0
awaited_json (awaited.Flags id) = codes "{\"for\": \"flags\", \"number\": " ++ decimal id.0
awaited_json (awaited.Writing id way) =
    codes "{\"for\": \"write\", \"number\": " ++ (decimal id.0 ++ (codes ", \"way\": \"" ++ (way_text way ++ codes "\"")))
awaited_json (awaited.Reading id way) =
    codes "{\"for\": \"read\", \"number\": " ++ (decimal id.0 ++ (codes ", \"way\": \"" ++ (way_text way ++ codes "\"")))
awaited_json (awaited.Mutex id) = codes "{\"for\": \"mutex\", \"number\": " ++ decimal id.0

-- how an unfinished wait has ended: by its deadline, or served; null while it goes on
abbrev pub ended_json : Bool → Bool → List ℕ
ended_json ended timed_out = if timed_out then codes "\"timed out\"" else if ended then codes "\"served\"" else codes "null"

abbrev pub wait_with : State → ℕ → Option Awaited → List ℕ
wait_with s thread None = codes "null"
wait_with s thread (Some on) =
    awaited_json on ++ (codes ", \"ended\": " ++ (ended_json (has_ended s thread) (has_timed_out s thread) ++ codes "}"))

-- a thread's unfinished wait, or null
abbrev pub wait_json : State → ℕ → List ℕ
wait_json s thread = wait_with s thread (option_map (λ w. w.on) (wait_at s thread))

abbrev pub policy_json : Option Policy → List ℕ
policy_json None = codes "null"
policy_json (Some policy) = codes "\"" ++ (policy_text policy ++ codes "\"")

-- the effective rank of a thread that is attached
abbrev pub rank_at : State → ℕ → Option ℕ
rank_at s thread = if is_attached s.sched thread then Some (rank_of s thread) else None

abbrev pub thread_head : State → ℕ → List ℕ
thread_head s thread = codes "{\"thread\": " ++ (decimal thread ++ (codes ", \"stage\": \"" ++ (stage_text (stage_of s.sched thread) ++ codes "\", \"policy\": ")))

abbrev pub ranked_json : State → ℕ → List ℕ
ranked_json s thread = policy_json (policy_at s thread) ++ (name_json (codes "rank") ++ number_json (rank_at s thread))

abbrev pub waiting_json : State → ℕ → List ℕ
waiting_json s thread = name_json (codes "waits") ++ (wait_json s thread ++ codes "}")

abbrev pub thread_json : State → ℕ → List ℕ
thread_json s thread = thread_head s thread ++ (ranked_json s thread ++ waiting_json s thread)

-- ---- elements

-- the beginning of an object with its number, and the name of what comes next
abbrev pub opening_json : List ℕ → ℕ → List ℕ → List ℕ
opening_json name number next = codes "{\"" ++ (name ++ (codes "\": " ++ (decimal number ++ (codes ", \"" ++ (next ++ codes "\": ")))))

abbrev pub named_queue : State → List ℕ → Awaited → List ℕ
named_queue s name on = name_json name ++ queue_json s on

abbrev pub waiters_json : State → Awaited → List ℕ
waiters_json s on = named_queue s (codes "waiting") on ++ codes "}"

abbrev pub signed_json : Option ℤ → List ℕ
signed_json None = codes "null"
signed_json (Some count) = signed_decimal count

-- a semaphore's count, or minus the number of those who wait for it, and these
abbrev pub sem_json : State → ℕ → List ℕ
sem_json s sem =
    opening_json (codes "sem") sem (codes "count") ++ (signed_json (count_at s sem) ++ waiters_json s (awaited.Sem (record { 0 = sem })))

abbrev pub flags_json : State → ℕ → List ℕ
flags_json s flags =
    opening_json (codes "flags") flags (codes "bits") ++ (number_json (bits_at s flags) ++ waiters_json s (awaited.Flags (record { 0 = flags })))

-- a way of a cross-buffer: how many bytes stand there, and who waits to write and to read
abbrev pub queues_json : State → XbufId → Way → List ℕ
queues_json s id way = named_queue s (codes "writing") (awaited.Writing id way) ++ (named_queue s (codes "reading") (awaited.Reading id way) ++ codes "}")

abbrev pub way_json : State → XbufId → Way → List ℕ
way_json s id way = codes "{\"bytes\": " ++ (number_json (there_at s id.0 way) ++ queues_json s id way)

abbrev pub out_json : State → XbufId → List ℕ
out_json s id = name_json (codes "out") ++ (way_json s id Out ++ codes "}")

abbrev pub xbuf_json : State → ℕ → List ℕ
xbuf_json s xbuf =
    opening_json (codes "xbuf") xbuf (codes "in") ++ (way_json s (record { 0 = xbuf }) In ++ out_json s (record { 0 = xbuf }))

abbrev pub mutex_json : State → ℕ → List ℕ
mutex_json s mutex =
    opening_json (codes "mutex") mutex (codes "owner") ++ (number_json (owner_of s mutex) ++ waiters_json s (awaited.Mutex (record { 0 = mutex })))

-- ---- timers

abbrev pub running_json : TimerState → List ℕ
running_json (Running date interval) = codes "\"running\", \"next\": " ++ (decimal date ++ (codes ", \"interval\": " ++ decimal interval))
running_json Ended = codes "\"ended\", \"next\": null, \"interval\": null"
running_json Idle = codes "\"idle\", \"next\": null, \"interval\": null"

abbrev pub state_json : Option TimerState → List ℕ
state_json None = codes "null"
state_json (Some state) = running_json state

abbrev pub timer_json : State → ℕ → List ℕ
timer_json s timer = opening_json (codes "timer") timer (codes "is") ++ (state_json (timer_state s timer) ++ codes "}")

-- ---- any

abbrev pub part_json : State → Part → ℕ → List ℕ
part_json s Thread number = thread_json s number
part_json s Sem number = sem_json s number
part_json s Flags number = flags_json s number
part_json s Xbuf number = xbuf_json s number
part_json s Mutex number = mutex_json s number
part_json s Timer number = timer_json s number
part_json s (Pending stage) number = decimal number

-- all that are there
abbrev pub all_json : State → Part → List ℕ
all_json s part = codes "[" ++ (json_list true (map (part_json s part) (numbers_there s part)) ++ codes "]")
