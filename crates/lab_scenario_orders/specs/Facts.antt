-- Facts of a kernel's records.
use Rattle.std.specs.Prelude.{ℕ, Bool, true, false, ◌&&◌, ◌==◌, not, nat_lt, ℤ, pos, int_lt, int_le, List, length, Option, Some, None, is_none, is_some, if◌then◌else◌, slice_get}
use Rattle.std.specs.List.{list_all}
use Rattle.std.specs.Option.{option_map_or, option_or}
use Rattle.evl_base.specs.Limits.{line_limit}
use Rattle.evl_base.specs.declared.board.Board.{Board}
use Rattle.evl_base.specs.declared.numbers.MutexId.{MutexId}
use Rattle.evl_base.specs.declared.numbers.ThreadId.{ThreadId}
use Rattle.evl_base.specs.declared.stage.Stage.{Stage}
use Rattle.evl_base.specs.declared.stage.Stage.TheVariants.{Oob, Inband}
use Rattle.evl_base.specs.declared.way.Way.{Way}
use Rattle.evl_base.specs.declared.way.Way.TheVariants.{In, Out}
use Rattle.evl_pipeline.specs.Lines.{is_pending, side}
use Rattle.evl_mutex.specs.Owners.{owner_at}
use Rattle.evl_sched.specs.Picks.{picked}
use Rattle.evl_sched.specs.Threads.{is_attached, is_ready, stage_of}
use Rattle.evl_sync.specs.Semaphores.{peek}
use Rattle.evl_kernel.specs.calls.MutexEffects.{record_at}
use Rattle.evl_kernel.specs.calls.ThreadCalls.{rank_of}
use Rattle.evl_kernel.specs.state.States.{State}
use Rattle.evl_kernel.specs.declared.waits.Awaited.{Awaited}
use Rattle.evl_kernel.specs.declared.waits.Awaited.TheVariants as on
use Rattle.lab_scenario_orders.specs.Callers.{goes_on}
use Rattle.lab_scenario_orders.specs.Told.{awaited_at}
use Rattle.lab_scenario_orders.specs.declared.facts.Claim.{Claim}
use Rattle.lab_scenario_orders.specs.declared.facts.Fact.{Fact}
use Rattle.lab_scenario_orders.specs.declared.facts.Fact.TheVariants as fact
use Rattle.lab_scenario_orders.specs.declared.facts.Part.{Part}
use Rattle.lab_scenario_orders.specs.declared.facts.Part.TheVariants as part
use Rattle.lab_scenario_orders.specs.declared.facts.Relation.{Relation}
use Rattle.lab_scenario_orders.specs.declared.facts.Relation.TheVariants.{Equal, Below, Above}

-- two numbers compare so
abbrev pub compares : Relation → ℤ → ℤ → Bool
compares Equal one other = int_le one other && int_le other one
compares Below one other = int_lt one other
compares Above one other = int_lt other one

abbrev pub is_picked : State → ℕ → Bool
is_picked s who = option_map_or (λ thread. thread == who) (picked (rank_of s) s.sched) false

abbrev pub is_way : Way → Way → Bool
is_way In In = true
is_way Out Out = true
is_way _ _ = false

abbrev pub is_stage : Stage → Stage → Bool
is_stage Oob Oob = true
is_stage Inband Inband = true
is_stage _ _ = false

-- two waits are for the same
abbrev pub is_same_wait : Awaited → Awaited → Bool
is_same_wait (on.Sem a) (on.Sem b) = a.0 == b.0
is_same_wait (on.Flags a) (on.Flags b) = a.0 == b.0
is_same_wait (on.Mutex a) (on.Mutex b) = a.0 == b.0
is_same_wait (on.Writing a way) (on.Writing b other) = (a.0 == b.0) && is_way way other
is_same_wait (on.Reading a way) (on.Reading b other) = (a.0 == b.0) && is_way way other
is_same_wait _ _ = false

-- a thread's wait for this goes on
abbrev pub is_wait_for : State → ℕ → Awaited → Bool
is_wait_for s who on = option_map_or (λ awaited. goes_on s who && is_same_wait on awaited) (awaited_at s who) false

-- a thread is attached, on this stage
abbrev pub is_on : State → ℕ → Stage → Bool
is_on s who stage = is_attached s.sched who && is_stage stage (stage_of s.sched who)

-- it is attached, and its effective rank compares so
abbrev pub has_rank : State → ℕ → Relation → ℤ → Bool
has_rank s who relation number =
    option_map_or (λ rank. compares relation (pos rank) number) (if is_attached s.sched who then Some (rank_of s who) else None) false

-- a thread is the recorded owner of a mutex; a mutex has one
abbrev pub is_owner : State → ℕ → ℕ → Bool
is_owner s mutex who = option_map_or (λ owner. owner == who) (owner_at (record_at s mutex)) false

abbrev pub is_held : State → ℕ → Bool
is_held s mutex = is_some (owner_at (record_at s mutex))

-- the count of a semaphore, or the bits of a flag group, compare so
abbrev pub has_count : State → ℕ → Relation → ℤ → Bool
has_count s sem relation number = option_map_or (λ q. compares relation (peek q) number) (slice_get s.elements.sems sem) false

abbrev pub has_bits : State → ℕ → Relation → ℤ → Bool
has_bits s flags relation number = option_map_or (λ group. compares relation (pos group.bits) number) (slice_get s.elements.flags flags) false

-- a fact is so
abbrev pub is_so : State → Fact → Bool
is_so s (fact.Picked who) = is_picked s who.0
is_so s fact.NobodyPicked = is_none (picked (rank_of s) s.sched)
is_so s (fact.Ready who) = is_ready s.sched who.0
is_so s (fact.Waits who) = goes_on s who.0
is_so s (fact.WaitsFor who on) = is_wait_for s who.0 on
is_so s (fact.On who stage) = is_on s who.0 stage
is_so s (fact.Rank who relation number) = has_rank s who.0 relation number
is_so s (fact.Owns mutex who) = is_owner s mutex.0 who.0
is_so s (fact.Held mutex) = is_held s mutex.0
is_so s (fact.Count sem relation number) = has_count s sem.0 relation number
is_so s (fact.Bits flags relation number) = has_bits s flags.0 relation number
is_so s (fact.Pending line stage) = is_pending s.lines stage line.0
is_so s (fact.Stalled stage) = (side s.lines stage).stalled

-- a fact is claimed to be so, or not
abbrev pub is_claimed : State → Claim → Bool
is_claimed s claim = if claim.is_so then is_so s claim.fact else not (is_so s claim.fact)

abbrev pub are_all_so : State → List Claim → Bool
are_all_so s claims = list_all (is_claimed s) claims

-- ---- what a board lacks

-- a part of the board with a number, where it has so many
abbrev pub lacked_from : ℕ → ℕ → Part → Option Part
lacked_from number count part = if nat_lt number count then None else Some part

abbrev pub lacked_thread : Board → ThreadId → Option Part
lacked_thread board who = lacked_from who.0 board.threads part.Thread

abbrev pub lacked_mutex : Board → MutexId → Option Part
lacked_mutex board mutex = lacked_from mutex.0 (length board.mutexes.items) part.Mutex

-- what a thread waits for
abbrev pub lacked_wait : Board → Awaited → Option Part
lacked_wait board (on.Sem sem) = lacked_from sem.0 (length board.sems.items) part.Sem
lacked_wait board (on.Flags flags) = lacked_from flags.0 (length board.flags.items) part.Flags
lacked_wait board (on.Mutex mutex) = lacked_mutex board mutex
lacked_wait board (on.Writing xbuf way) = lacked_from xbuf.0 (length board.xbufs.items) part.Xbuf
lacked_wait board (on.Reading xbuf way) = lacked_from xbuf.0 (length board.xbufs.items) part.Xbuf

-- what a fact names
abbrev pub lacked : Board → Fact → Option Part
lacked board (fact.Picked who) = lacked_thread board who
lacked board fact.NobodyPicked = None
lacked board (fact.Ready who) = lacked_thread board who
lacked board (fact.Waits who) = lacked_thread board who
lacked board (fact.WaitsFor who on) = option_or (lacked_thread board who) (lacked_wait board on)
lacked board (fact.On who stage) = lacked_thread board who
lacked board (fact.Rank who relation number) = lacked_thread board who
lacked board (fact.Owns mutex who) = option_or (lacked_mutex board mutex) (lacked_thread board who)
lacked board (fact.Held mutex) = lacked_mutex board mutex
lacked board (fact.Count sem relation number) = lacked_from sem.0 (length board.sems.items) part.Sem
lacked board (fact.Bits flags relation number) = lacked_from flags.0 (length board.flags.items) part.Flags
lacked board (fact.Pending line stage) = lacked_from line.0 line_limit part.Line
lacked board (fact.Stalled stage) = None
