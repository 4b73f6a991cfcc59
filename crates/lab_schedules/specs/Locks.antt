-- Mutexes, as tasks lock and unlock them. No call is made where nobody waits and there is no ceiling: a word is enough.
use Rattle.std.specs.Prelude.{ℕ, ◌+◌, ◌-◌, ◌^◌, ◌==◌, ◌||◌, min, nat_lt, Bool, true, false, not, Option, Some, None, Result, Ok, Err, length, slice_get, slice_set, if◌then◌else◌}
use Rattle.std.specs.Option.{option_map_or}
use Rattle.evl_base.specs.declared.call.Call.{Call}
use Rattle.evl_base.specs.declared.call.Call.TheVariants.{Claim, Raise, Release}
use Rattle.evl_base.specs.declared.numbers.MutexId.{MutexId}
use Rattle.evl_base.specs.declared.numbers.ThreadId.{ThreadId}
use Rattle.evl_base.specs.declared.refusal.Refusal.{Refusal}
use Rattle.evl_base.specs.declared.refusal.Refusal.TheVariants as refusal
use Rattle.evl_base.specs.declared.reply.Reply.{Reply}
use Rattle.evl_base.specs.declared.reply.Reply.TheVariants.{Begun, Handed, TimedOut}
use Rattle.evl_kernel.specs.calls.MutexEffects.{record_at}
use Rattle.lab_schedules.specs.declared.locking.Tried.{Tried}
use Rattle.lab_schedules.specs.declared.locking.Tried.TheVariants as tried
use Rattle.lab_schedules.specs.declared.words.Owner.{Owner}
use Rattle.lab_schedules.specs.declared.words.Word.{Word}
use Rattle.lab_schedules.specs.Plays.{Played, answer, called, is_oob_thread, state}
use Rattle.lab_schedules.specs.Words.{handed, has_ceiling, nested, nests, taken}

-- how an attempt ends, and what it leaves
abbrev pub Attempt : Type 0
Attempt = Tried × Played

abbrev pub tried_by : Result Reply Refusal → Tried
tried_by (Ok Begun) = tried.Waits
tried_by (Ok TimedOut) = tried.TimedOut
tried_by (Ok _) = tried.Done
tried_by (Err why) = tried.Refused why

abbrev pub attempt : Played → ThreadId → Call → Attempt
attempt p thread call = (tried_by (answer p thread call), called p thread call)

abbrev pub refuse : Played → Refusal → Attempt
refuse p why = (tried.Refused why, p)

abbrev pub with_word : Played → MutexId → Word → Played
with_word p mutex word = record p { words = slice_set p.words mutex.0 word }

-- once an attempt is done, the thread has the mutex
abbrev pub taken_by : Tried → Played → ThreadId → MutexId → Word → Attempt
taken_by tried.Done p thread mutex word = (tried.Done, with_word p mutex (taken word thread))
taken_by other p thread mutex word = (other, p)

-- nobody has it: the word alone, or the ceiling first
abbrev pub lock_free : Played → ThreadId → MutexId → Word → Attempt
lock_free p thread mutex word =
    if has_ceiling word.kind
    then taken_by (tried_by (answer p thread (Raise mutex))) (called p thread (Raise mutex)) thread mutex word
    else (tried.Done, with_word p mutex (taken word thread))

-- its owner has it already
abbrev pub lock_again : Played → MutexId → Word → Owner → Attempt
lock_again p mutex word owner =
    if nests word.kind then (tried.Done, with_word p mutex (nested word owner.thread (min (owner.depth + 1) (2 ^ 32 - 1))))
    else refuse p refusal.Deadlock

abbrev pub lock_owned : Played → ThreadId → MutexId → Word → Option Owner → Attempt
lock_owned p thread mutex word None = lock_free p thread mutex word
lock_owned p thread mutex word (Some owner) =
    if owner.thread.0 == thread.0 then lock_again p mutex word owner
    else attempt p thread (Claim mutex owner.thread None)

abbrev pub lock_word : Played → ThreadId → MutexId → Option Word → Attempt
lock_word p thread mutex None = refuse p refusal.Unknown
lock_word p thread mutex (Some word) = lock_owned p thread mutex word word.owner

-- rule: A free mutex without a ceiling is locked only by its word, one with a ceiling by `raise`, a taken one by
--   `claim`; it is unlocked by its word where nobody waits and there is no ceiling, else by `release`. A refused act,
--   and a wait that ended at its deadline, is printed, and the job goes on.
--   also: Locks.unlock
--   clauses: Play::{lock, unlock}
-- a lock by a thread that is in-band is refused
unfoldable pub lock : Played → ThreadId → MutexId → Attempt
lock p thread mutex =
    if is_oob_thread p thread then lock_word p thread mutex (slice_get p.words mutex.0)
    else refuse p refusal.WrongStage

-- what a release answers goes into the word
abbrev pub released_by : Result Reply Refusal → Played → MutexId → Word → Attempt
released_by (Ok (Handed next more)) p mutex word = (tried.Done, with_word p mutex (handed word next))
released_by (Ok _) p mutex word = (tried.Done, p)
released_by (Err why) p mutex word = (tried.Refused why, p)

-- how many threads wait for a mutex
abbrev pub waiters : Played → MutexId → ℕ
waiters p mutex = option_map_or (λ m. length m.waiters) (record_at (state p) mutex.0) 0

abbrev pub unlock_last : Played → ThreadId → MutexId → Word → Attempt
unlock_last p thread mutex word =
    if has_ceiling word.kind || nat_lt 0 (waiters p mutex)
    then released_by (answer p thread (Release mutex)) (called p thread (Release mutex)) mutex word
    else (tried.Done, with_word p mutex (handed word None))

abbrev pub unlock_owned : Played → ThreadId → MutexId → Word → Option Owner → Attempt
unlock_owned p thread mutex word None = refuse p refusal.NotOwner
unlock_owned p thread mutex word (Some owner) =
    if not (owner.thread.0 == thread.0) then refuse p refusal.NotOwner
    else (if nat_lt 1 owner.depth then (tried.Done, with_word p mutex (nested word thread (owner.depth - 1)))
    else unlock_last p thread mutex word)

abbrev pub unlock_word : Played → ThreadId → MutexId → Option Word → Attempt
unlock_word p thread mutex None = refuse p refusal.Unknown
unlock_word p thread mutex (Some word) = unlock_owned p thread mutex word word.owner

unfoldable pub unlock : Played → ThreadId → MutexId → Attempt
unlock p thread mutex = unlock_word p thread mutex (slice_get p.words mutex.0)
