-- The calls on threads: of the caller itself, who is picked, and what a thread's rank is.
use Rattle.std.specs.Prelude.{ℕ, Bool, List, Option, Some, None, Ok, option_map, if◌then◌else◌}
use Rattle.std.specs.List.{list_any}
use Rattle.evl_base.specs.declared.refusal.Refusal.{Refusal}
use Rattle.evl_base.specs.declared.refusal.Refusal.TheVariants.{Busy}
use Rattle.evl_base.specs.declared.stage.Stage.{Stage}
use Rattle.evl_base.specs.declared.policy.Policy.{Policy}
use Rattle.evl_base.specs.declared.reply.Reply.TheVariants as reply
use Rattle.evl_sched.specs.Threads as threads
use Rattle.evl_sched.specs.Threads.{refused_first}
use Rattle.evl_sched.specs.Calls.{attach_refusal, set_policy_refusal, stranger_refusal}
use Rattle.evl_sched.specs.Picks.{picked}
use Rattle.evl_sched.specs.Charges.{charged, refilled_at}
use Rattle.evl_mutex.specs.Mutexes.{Mutex, is_owned_by}
use Rattle.evl_mutex.specs.Ranks.{effective}
use Rattle.evl_base.specs.Limits.{thread_limit}
use Rattle.evl_kernel.specs.state.States.{State, with_sched}
use Rattle.evl_kernel.specs.calls.Effects.{Effect, done, tells, refused_by}
use Rattle.evl_kernel.specs.calls.Mutexes.{thread_named}

-- the ranks that recorded owners give: each thread's own, its ceilings, and those of the threads that wait for it
unfoldable pub rank_by : (ℕ → ℕ) → List Mutex → ℕ → ℕ
rank_by base mutexes thread = effective thread_limit base mutexes thread

-- rule: The pick, the place in a queue at the beginning of a wait, and `RankOf` go by the effective rank.
--   also: ThreadCalls.rank_by; OwnerInvariant.effective
--   clauses: Kernel::apply; owners_stay_proper
--   rows: threads_1; inheritance_chain; policy_of_a_boosted_owner
-- the effective rank of a thread
abbrev pub rank_of : State → ℕ → ℕ
rank_of s thread = rank_by (threads.base_of s.sched) s.elements.mutexes thread

-- the thread is recorded as the owner of a mutex
abbrev pub owns_in : List Mutex → ℕ → Bool
owns_in mutexes thread = list_any (is_owned_by thread) mutexes

abbrev pub owner_refusal : State → ℕ → Option Refusal
owner_refusal s thread = if owns_in s.elements.mutexes thread then Some Busy else None

-- refusals: Attach, Detach, SetPolicy, SetStage, RankOf
--   also: ThreadCalls.{detach_refusal, set_policy, set_stage, tell_rank}; Threads.{attach_refusal, set_policy_refusal}
abbrev pub attach : State → ℕ → Policy → Stage → Effect
attach s thread policy stage = refused_by (attach_refusal s.sched thread policy) (done (with_sched s (threads.attached s.sched thread policy stage)))

-- rule: A recorded owner is not detached.
--   clauses: Kernel::apply
-- The first that applies: the thread isn't attached; it is recorded as an owner.
abbrev pub detach_refusal : State → ℕ → Option Refusal
detach_refusal s thread = refused_first (stranger_refusal s.sched thread) (owner_refusal s thread)

abbrev pub detach : State → ℕ → Effect
detach s thread = refused_by (detach_refusal s thread) (done (with_sched s (threads.detached s.sched thread)))

abbrev pub set_policy : State → ℕ → Policy → Effect
set_policy s thread policy = refused_by (set_policy_refusal s.sched thread policy) (done (with_sched s (threads.policy_set s.sched thread policy)))

abbrev pub set_stage : State → ℕ → Stage → Effect
set_stage s thread stage = refused_by (stranger_refusal s.sched thread) (done (with_sched s (threads.stage_set s.sched thread stage)))

abbrev pub pick : State → Effect
pick s = Ok (reply.Chosen (option_map thread_named (picked (rank_of s) s.sched)), s)

abbrev pub tell_rank : State → ℕ → Effect
tell_rank s thread = refused_by (stranger_refusal s.sched thread) (tells (rank_of s thread) s)

-- the picked thread is charged with so much time, and a new second between the two dates refills the quota groups
abbrev pub paid_between : State → ℕ → ℕ → ℕ → State
paid_between s before delta now = with_sched s (refilled_at before now (charged (rank_of s) s.sched delta))
