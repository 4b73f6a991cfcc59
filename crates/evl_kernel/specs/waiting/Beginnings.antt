-- The calls that begin a wait.
use Rattle.std.specs.Option.{option_map_or}
use Rattle.std.specs.Prelude.{ℕ, ◌==◌, nat_lt, List, not, ◌&&◌, Bool, true, false, ◌∷◌, [], Option, Some, None, Result, Ok, Err, is_some, option_and_then, slice_get, if◌then◌else◌}
use Rattle.evl_base.specs.declared.refusal.Refusal.{Refusal}
use Rattle.evl_base.specs.declared.refusal.Refusal.TheVariants.{Unknown, Range, Invalid, Deadlock}
use Rattle.evl_base.specs.declared.reply.Reply.{Reply}
use Rattle.evl_base.specs.declared.reply.Reply.TheVariants.{Begun}
use Rattle.evl_base.specs.declared.stage.Stage.{Stage}
use Rattle.evl_base.specs.declared.stage.Stage.TheVariants.{Oob}
use Rattle.evl_sched.specs.Threads.{is_attached, refused_first, stage_of}
use Rattle.evl_sched.specs.Calls.{stranger_refusal}
use Rattle.evl_sync.specs.FlagGroups.{take_refusal}
use Rattle.evl_xbuf.specs.Streams.{out_of_range, too_big}
use Rattle.evl_mutex.specs.Mutexes.{Mutex as MutexRecorded, is_open_to}
use Rattle.evl_mutex.specs.Chains.{reaches, waits_for}
use Rattle.evl_xbuf.specs.Xbufs.{reading_stage, stage_refusal, stream, writing_stage}
use Rattle.evl_kernel.specs.declared.waits.Awaited.{Awaited}
use Rattle.evl_kernel.specs.declared.waits.Awaited.TheVariants.{Sem, Flags, Writing, Reading, Mutex}
use Rattle.evl_kernel.specs.declared.waits.Wanted.{Wanted}
use Rattle.evl_kernel.specs.declared.waits.Wanted.TheVariants as wanted
use Rattle.evl_base.specs.Limits.{thread_limit}
use Rattle.evl_kernel.specs.state.States.{State, Elements}
use Rattle.evl_kernel.specs.calls.Semaphores as semaphore
use Rattle.evl_kernel.specs.calls.FlagGroups as group
use Rattle.evl_kernel.specs.calls.CrossBuffers as through
use Rattle.evl_kernel.specs.calls.Mutexes as mutex
use Rattle.evl_kernel.specs.calls.Elements.{ElementStep, on_sem, on_flags, on_xbuf, on_mutex, Told, elements, serves, stepping_to, touch, told_unless}
use Rattle.evl_kernel.specs.calls.ThreadCalls.{rank_of}
use Rattle.evl_kernel.specs.waiting.Waits.{wait_begun}

-- there is such an element
abbrev pub is_there : Elements → Awaited → Bool
is_there e (Sem id) = is_some (slice_get e.sems id.0)
is_there e (Flags id) = is_some (slice_get e.flags id.0)
is_there e (Writing id way) = is_some (slice_get e.xbufs id.0)
is_there e (Reading id way) = is_some (slice_get e.xbufs id.0)
is_there e (Mutex id) = is_some (slice_get e.mutexes id.0)

-- for what the thread waits, where it isn't served at once
abbrev pub awaited_by : Wanted → Awaited
awaited_by (wanted.Sem id) = Sem id
awaited_by (wanted.Flags id kind) = Flags id
awaited_by (wanted.Write id way bytes) = Writing id way
awaited_by (wanted.Read id way len) = Reading id way
awaited_by (wanted.Mutex id owner) = Mutex id

abbrev pub allowed_if : Bool → Option Refusal
allowed_if allowed = if allowed then None else Some Invalid

-- what is wanted isn't allowed in this form
abbrev pub form_refusal : Wanted → Option Refusal
form_refusal (wanted.Sem id) = None
form_refusal (wanted.Flags id kind) = take_refusal kind
form_refusal _ = None

-- more bytes than one transfer carries
abbrev pub range_refusal : Wanted → Option Refusal
range_refusal (wanted.Read id way len) = out_of_range len
range_refusal _ = None

abbrev pub in_range_if : Bool → Option Refusal
in_range_if within = if within then None else Some Range

-- a semaphore, or bits of a flag group
abbrev pub is_ranked : Wanted → Bool
is_ranked (wanted.Write id way bytes) = false
is_ranked (wanted.Read id way len) = false
is_ranked (wanted.Mutex id owner) = false
is_ranked _ = true

-- the stage on which a thread may wait for this
abbrev pub stage_wanted : Wanted → Stage
stage_wanted (wanted.Write id way bytes) = writing_stage way
stage_wanted (wanted.Read id way len) = reading_stage way
stage_wanted _ = Oob

-- more bytes than the ring has
abbrev pub size_refusal : Elements → Wanted → Option Refusal
size_refusal e (wanted.Write id way bytes) = option_and_then (λ x. too_big (stream x way) bytes.items) (slice_get e.xbufs id.0)
size_refusal e _ = None

-- the owner that is named is a thread of the board
abbrev pub is_named : State → Wanted → Bool
is_named s (wanted.Mutex id owner) = nat_lt owner.0 s.threads
is_named s _ = true

-- no other owner of the mutex is recorded
abbrev pub is_open : Elements → ℕ → ℕ → Bool
is_open e n owner = option_map_or (is_open_to owner) (slice_get e.mutexes n) false

-- the owner that is named is attached and isn't the thread itself, and no other owner is recorded
abbrev pub may_name : State → ℕ → Wanted → Bool
may_name s thread (wanted.Mutex id owner) = is_attached s.sched owner.0 && not (owner.0 == thread) && is_open (elements s) id.0 owner.0
may_name s thread _ = true

-- the owner waits for the thread, step by step along recorded owners
unfoldable pub waits_back : List MutexRecorded → ℕ → ℕ → Bool
waits_back mutexes owner thread = reaches thread_limit (waits_for mutexes) owner thread

-- the thread would wait for itself
abbrev pub would_ring : State → ℕ → Wanted → Bool
would_ring s thread (wanted.Mutex id owner) = waits_back (elements s).mutexes owner.0 thread
would_ring s thread _ = false

abbrev pub ring_refusal : State → ℕ → Wanted → Option Refusal
ring_refusal s thread wanted = if would_ring s thread wanted then Some Deadlock else None

-- the thread isn't attached, what it wants isn't allowed, the owner can't be named, or the thread is on the other stage
abbrev pub waiter_refusal : State → ℕ → Wanted → Option Refusal
waiter_refusal s thread wanted =
    refused_first (stranger_refusal s.sched thread) (refused_first (form_refusal wanted) (refused_first (allowed_if (may_name s thread wanted)) (stage_refusal (stage_wanted wanted) (stage_of s.sched thread))))

-- rule: The kernel looks for a ring after all other refusals; owners may be on either stage.
--   rows: inheritance_chain; inheritance_ring
-- rule: Takes, posts and beginnings are refused as SCENARIOS has it.
--   also: FlagGroups.try_take
--   rows: begin_refusals; takes; flag_wait_refusals
-- rule: So are writes, reads and beginnings at a cross-buffer.
--   also: Beginnings.{range_refusal, size_refusal}
--   rows: cross_buffer; xbuf_refusals; ring_of_one_byte; ring_of_256_bytes
-- refusals: BeginGet, BeginTake, BeginWrite, BeginRead, Claim
--   also: Beginnings.{form_refusal, size_refusal, range_refusal, waiter_refusal, may_name, ring_refusal}
-- The first that applies: there is no such element, or no such owner; too many bytes are wanted; what is said of the thread;
-- the ring is too small; there would be a ring of waits.
abbrev pub begin_refusal : State → ℕ → Wanted → Option Refusal
begin_refusal s thread wanted =
    refused_first (if is_there (elements s) (awaited_by wanted) && is_named s wanted then None else Some Unknown)
    (refused_first (range_refusal wanted) (refused_first (waiter_refusal s thread wanted) (refused_first (size_refusal (elements s) wanted) (ring_refusal s thread wanted))))

-- the step of the element with which a wait of a thread of this rank begins
abbrev pub step_of_waiter : ℕ → ℕ → Wanted → ElementStep
step_of_waiter thread rank (wanted.Sem id) = on_sem id.0 (semaphore.begin (record { thread = thread; rank = rank }))
step_of_waiter thread rank (wanted.Flags id kind) = on_flags id.0 (group.begin (record { thread = thread; rank = rank; kind = kind }))
step_of_waiter thread rank (wanted.Write id way bytes) = on_xbuf id.0 (through.begin_write thread way bytes.items)
step_of_waiter thread rank (wanted.Read id way len) = on_xbuf id.0 (through.begin_read thread way len)
step_of_waiter thread rank (wanted.Mutex id owner) = on_mutex id.0 (mutex.claim (record { thread = thread; rank = rank }) owner.0)

-- rule: A waiter is queued by its rank when it begins.
--   also: Beginnings.step_of_waiter
--   rows: waits_1; boost_counts_at_the_beginning; boosted_thread_waits_ahead; queue_order_is_frozen
-- rule: The ranks at the beginnings of waits there are the effective ones.
--   clauses: semaphores_run_by_themselves; flag_groups_run_by_themselves; mutexes_run_by_themselves
-- with the rank that it has then
abbrev pub begin_step : State → ℕ → Wanted → ElementStep
begin_step s thread wanted = step_of_waiter thread (rank_of s thread) wanted

-- rule: A claim waits for the mutex and records the owner that it names. A release hands the mutex to the first waiter,
--   whose wait ends, and says whether more wait; a raise records its caller.
--   also: Elements.touched; Mutexes.mutex; OwnerCalls.raising
--   clauses: Kernel::apply
--   rows: claim_refusals; deadlock_is_refused; release_and_raise_refusals
-- a wait begins, until the deadline where there is one
abbrev pub beginning : State → ℕ → Wanted → Option ℕ → Told
beginning s thread wanted until =
    let step = begin_step s thread wanted in
    told_unless (begin_refusal s thread wanted)
    (record { touches = touch s (Some thread) step ∷ []; effect = stepping_to (λ x. wait_begun x thread (awaited_by wanted) until (serves (elements s) step)) s step })

-- the answer to a call by which a wait began, unless it was refused
abbrev pub begun : {A : Type 0} → Result A Refusal → Result Reply Refusal
begun (Ok _) = Ok Begun
begun (Err refusal) = Err refusal
