-- All that is known where nothing refuses that a wait begins.
use Rattle.std.proofs.Common.{◌≡◌, ◌≢◌, ℕ, ◌==◌, Bool, true, false, not, ◌&&◌, Option, Some, None, if◌then◌else◌, refl, ◌∙◌}
use Rattle.std.proofs.lemmas.Bool.{false≢true, eqb-false, not-true}
use Rattle.evl_base.proofs.Plain.{some-none}
use Rattle.evl_base.specs.declared.numbers.MutexId.{MutexId}
use Rattle.evl_base.specs.declared.numbers.ThreadId.{ThreadId}
use Rattle.evl_base.specs.declared.refusal.Refusal.{Refusal}
use Rattle.evl_base.specs.declared.refusal.Refusal.TheVariants.{Deadlock, Unknown}
use Rattle.evl_sched.specs.Calls.{stranger_refusal}
use Rattle.evl_sched.specs.Threads.{is_attached, refused_first, stage_of}
use Rattle.evl_xbuf.specs.Xbufs.{stage_refusal}
use Rattle.evl_kernel.specs.declared.waits.Wanted.{Wanted}
use Rattle.evl_kernel.specs.declared.waits.Wanted.TheVariants as wanted
use Rattle.evl_kernel.specs.state.States.{State}
use Rattle.evl_kernel.specs.calls.Elements.{elements}
use Rattle.evl_kernel.specs.waiting.Beginnings.{allowed_if, awaited_by, begin_refusal, form_refusal, is_named, is_open, is_there, may_name, range_refusal, ring_refusal, size_refusal, stage_wanted, waiter_refusal, would_ring}
use Rattle.evl_kernel.proofs.calls.QueueLaws.{IsFree}

pub passes : (a b : Option Refusal) → refused_first a b ≡ None → (a ≡ None) × (b ≡ None)
passes None b none = (refl, none)
passes (Some r) b none = absurd (some-none _ none)

three : (a b c : Bool) → (a && b && c) ≡ true → (a ≡ true) × (b ≡ true) × (c ≡ true)
three true true c e = (refl, refl, e)
three true false c e = absurd (false≢true e)
three false b c e = absurd (false≢true e)

was_allowed : (b : Bool) → allowed_if b ≡ None → b ≡ true
was_allowed true e = refl
was_allowed false e = absurd (some-none _ e)

no_ring : (b : Bool) → (if b then Some Deadlock else None) ≡ None → b ≡ false
no_ring true e = absurd (some-none _ e)
no_ring false e = refl

-- a claim
named_free : (s : State) (thread : ℕ) (id : MutexId) (owner : ThreadId) → may_name s thread (wanted.Mutex id owner) ≡ true → would_ring s thread (wanted.Mutex id owner) ≡ false
    → IsFree (elements s) thread (wanted.Mutex id owner)
named_free s thread id owner may ring =
    let all = three (is_attached s.sched owner.0) (not (owner.0 == thread)) (is_open (elements s) id.0 owner.0) may in
    (all.2, eqb-false owner.0 thread (not-true (owner.0 == thread) all.1), ring)

pub free_as : (s : State) (thread : ℕ) (wants : Wanted) → may_name s thread wants ≡ true → would_ring s thread wants ≡ false → IsFree (elements s) thread wants
free_as s thread (wanted.Sem id) may ring = tt
free_as s thread (wanted.Flags id kind) may ring = tt
free_as s thread (wanted.Write id way bytes) may ring = tt
free_as s thread (wanted.Read id way len) may ring = tt
free_as s thread (wanted.Mutex id owner) may ring = named_free s thread id owner may ring

-- what a thread of which nothing is said may name
pub named_by : (s : State) (thread : ℕ) (wants : Wanted) → waiter_refusal s thread wants ≡ None → may_name s thread wants ≡ true
named_by s thread wants none =
    let form = (passes (stranger_refusal s.sched thread) (refused_first (form_refusal wants) (refused_first (allowed_if (may_name s thread wants)) (stage_refusal (stage_wanted wants) (stage_of s.sched thread)))) none).1 in
    let name = (passes (form_refusal wants) (refused_first (allowed_if (may_name s thread wants)) (stage_refusal (stage_wanted wants) (stage_of s.sched thread))) form).1 in
    was_allowed (may_name s thread wants) (passes (allowed_if (may_name s thread wants)) (stage_refusal (stage_wanted wants) (stage_of s.sched thread)) name).0

-- nothing is said of the thread, nor of what comes after that
past_waiter : (s : State) (thread : ℕ) (wants : Wanted) → begin_refusal s thread wants ≡ None
    → (waiter_refusal s thread wants ≡ None) × (refused_first (size_refusal (elements s) wants) (ring_refusal s thread wants) ≡ None)
past_waiter s thread wants none =
    let rest = (passes (if is_there (elements s) (awaited_by wants) && is_named s wants then None else Some Unknown)
    (refused_first (range_refusal wants) (refused_first (waiter_refusal s thread wants) (refused_first (size_refusal (elements s) wants) (ring_refusal s thread wants)))) none).1 in
    let of_thread = (passes (range_refusal wants) (refused_first (waiter_refusal s thread wants) (refused_first (size_refusal (elements s) wants) (ring_refusal s thread wants))) rest).1 in
    passes (waiter_refusal s thread wants) (refused_first (size_refusal (elements s) wants) (ring_refusal s thread wants)) of_thread

pub waiter_passes : (s : State) (thread : ℕ) (wants : Wanted) → begin_refusal s thread wants ≡ None → waiter_refusal s thread wants ≡ None
waiter_passes s thread wants none = (past_waiter s thread wants none).0

-- it is attached
pub known_waiter : (s : State) (thread : ℕ) (wants : Wanted) → waiter_refusal s thread wants ≡ None → stranger_refusal s.sched thread ≡ None
known_waiter s thread wants none =
    (passes (stranger_refusal s.sched thread) (refused_first (form_refusal wants) (refused_first (allowed_if (may_name s thread wants)) (stage_refusal (stage_wanted wants) (stage_of s.sched thread)))) none).0

-- and so is the owner that it names
pub known_owner : (s : State) (thread : ℕ) (id : MutexId) (owner : ThreadId) → may_name s thread (wanted.Mutex id owner) ≡ true → is_attached s.sched owner.0 ≡ true
known_owner s thread id owner may = (three (is_attached s.sched owner.0) (not (owner.0 == thread)) (is_open (elements s) id.0 owner.0) may).0

pub free_to_begin : (s : State) (thread : ℕ) (wants : Wanted) → begin_refusal s thread wants ≡ None → IsFree (elements s) thread wants
free_to_begin s thread wants none =
    let parts = past_waiter s thread wants none in
    let ring = (passes (size_refusal (elements s) wants) (ring_refusal s thread wants) parts.1).1 in
    free_as s thread wants (named_by s thread wants parts.0) (no_ring (would_ring s thread wants) ring)
