-- A mutex word and its seats as their callers see them, and what a call did.
use Rattle.std.specs.Prelude.{◌≡◌, ◌≢◌, ◌⊎◌, ℕ, ◌+◌, ◌-◌, ◌<◌, ◌≤◌, ◌==◌, Bool, true, false, List, [], ◌∷◌, All, MatchBool}
use Rattle.evl_base.specs.declared.numbers.MutexId.{MutexId}
use Rattle.evl_base.specs.declared.refusal.Refusal.{Refusal}
use Rattle.evl_base.specs.declared.refusal.Refusal.TheVariants.{Busy, Deadlock, Limit}
use Rattle.evl_words.specs.declared.mutex.MutexPass.{MutexPass}
use Rattle.evl_words.specs.declared.mutex.MutexRole.{MutexRole}
use Rattle.evl_words.specs.declared.mutex.MutexRole.TheVariants.{Bystander, Owner}
use Rattle.evl_words.specs.declared.mutex.MutexCall.{MutexCall}
use Rattle.evl_words.specs.declared.mutex.MutexCall.TheVariants.{Try, Unlock}
use Rattle.evl_words.specs.declared.mutex.MutexReply.{MutexReply}
use Rattle.evl_words.specs.declared.mutex.MutexReply.TheVariants.{Passed, Refused, Done, Claimed, Won, Queued, Seizing}
use Rattle.evl_words.specs.declared.mutex.Claim.{Claim}
use Rattle.evl_words.specs.declared.mutex.Claim.TheVariants.{Won as HasWon, Queued as IsQueued, Seizing as IsSeizing}
use Rattle.evl_words.specs.declared.mutex.Unlock.{Unlock as Unlocking}
use Rattle.evl_words.specs.declared.mutex.Unlock.TheVariants.{Done as IsDone, Claimed as IsClaimed}
use Rattle.atomic_table.specs.Seated.{TableId}
use Rattle.evl_words.specs.Machine.{Run}
use Rattle.evl_words.specs.History.{Fits, SeeOneHistory, entries_of}
use Rattle.evl_words.specs.declared.history.Place.{Place}
use Rattle.evl_words.specs.Hands.{Hand, place}
use Rattle.evl_words.specs.Mutex.{Mutex, MutexEntry, MutexStep, unowned, is_owner, is_seizing}
use Rattle.evl_words.specs.MutexBits.{mutex_word}
use Rattle.evl_words.specs.MutexRule.{view_in}
use Rattle.evl_words.specs.MutexWorld.{MutexView, MutexKind, MutexDoes, MutexLooks, MutexAppends, EndsOffered, HasIt, NamesBelow, awaits, accepts, mutex_author, newcomer, role_of, owns, wins}

-- of which table and mutex the seat is, its number, how often it holds the mutex, and its view
pub record MutexSeatState : Type 0 where
  pub table : TableId
  pub mutex : MutexId
  pub number : ℕ
  pub depth : ℕ
  pub view : MutexView

pub record MutexState : Type 0 where
  pub table : TableId
  pub id : MutexId
  pub recursive : Bool
  pub seats : ℕ

-- the seat was made with the mutex
pub record IsSeatOf (seat : MutexSeatState) (mutex : MutexState) : Type 0 where
  pub table : seat.table ≡ mutex.table
  pub id : seat.mutex ≡ mutex.id
  pub seats : seat.view.held.seats ≡ mutex.seats

-- only the view and the depth of a seat change, and of what it holds only its role
pub record IsSameSeat (old new : MutexSeatState) : Type 0 where
  pub table : new.table ≡ old.table
  pub mutex : new.mutex ≡ old.mutex
  pub number : new.number ≡ old.number
  pub seats : new.view.held.seats ≡ old.view.held.seats

-- the seat that has this hand alone, and owns nothing
abbrev pub seat_with : TableId → MutexId → ℕ → Hand MutexView → MutexSeatState
seat_with table mutex number hand = record { table = table; mutex = mutex; number = number; depth = 0; view = view_in hand }

-- a seat of this number begins with its own place alone, at which it holds nothing
abbrev pub begins : ℕ → Hand MutexView → Type 0
begins number hand = (hand ≡ place number (view_in hand) ∷ []) × (owns (view_in hand).held.role ≡ false)

-- rule: A mutex is made free; seat k is thread k's. `close` is as a gate's.
--   also: MutexCalls.Closes
--   clauses: MutexWord::{new, close}
--   rows: each_request_for_a_word_is_refused_once; seats_have_a_range; a_mutex_closes_as_it_stands_whoever_is_handed_in
-- a seat as the mutex was made with it
abbrev pub new_seat : MutexState → ℕ → MutexSeatState
new_seat mutex number = record { table = mutex.table; mutex = mutex.id; number = number; depth = 0; view = newcomer mutex.seats }

-- the seat with another depth and nothing else changed
abbrev pub at_depth : ℕ → MutexSeatState → MutexSeatState
at_depth depth seat = record seat { depth = depth }

abbrev pub IsPassOf : MutexPass → MutexSeatState → Type 0
IsPassOf pass seat = (pass.mutex ≡ seat.mutex) × (pass.seat ≡ seat.number)

-- the seat made one step of this kind, which is one event
abbrev pub Makes : MutexSeatState → MutexKind → MutexSeatState → Type 0
Makes old kind new = (found : ℕ) × MutexDoes old.number old.view kind found new.view

-- rule: A busy try, an acceptance without an offer, a forgetting and a question are entries too.
--   clauses: MutexWord::{try_lock, accept, forget, seen_offer}
-- the seat made a call that was answered so, and now has this role and holds the mutex so often
pub record Calls (old : MutexSeatState) (call : MutexCall) (reply : MutexReply) (new : MutexSeatState) (role : MutexRole) (times : ℕ) : Type 0 where
  pub held : new.view.held ≡ role_of old.view.held.seats role
  pub depth : new.depth ≡ times
  pub appends : MutexAppends old.number old.view call reply new.view

-- rule: An owner that tries again gets `Deadlock`, or one level more of a recursive mutex, up to 255.
--   also: MutexCalls.FailsToLock
--   rows: a_recursive_mutex_nests
-- A seat that holds nothing took the mutex, and an owner holds a recursive one once more
abbrev pub Locks : MutexState → MutexSeatState → MutexSeatState → Type 0
Locks mutex old new = MatchBool (old.depth == 0) (Calls old Try Passed new Owner 1) ((mutex.recursive ≡ true) × (old.depth < 255) × (new ≡ at_depth (old.depth + 1) old))

-- refusals: MutexWord::try_lock
--   order: Deadlock (local), Limit (local), Busy; no two apply at once
-- Why a seat did not get the mutex. An owner is refused with no step
abbrev pub FailsToLock : MutexState → MutexSeatState → MutexSeatState → Refusal → Type 0
FailsToLock mutex old new Busy = (old.depth ≡ 0) × Calls old Try (Refused Busy) new old.view.held.role 0
FailsToLock mutex old new Deadlock = (0 < old.depth) × (mutex.recursive ≡ false) × (new ≡ old)
FailsToLock mutex old new Limit = (mutex.recursive ≡ true) × (old.depth ≡ 255) × (new ≡ old)
FailsToLock mutex old new _ = ⊥

-- at depth 1 the seat gives the mutex up, unless it is claimed
abbrev pub Releases : MutexSeatState → MutexSeatState → MutexPass → Unlocking → Type 0
Releases old new pass IsDone = Calls old Unlock Done new Bystander 0
Releases old new pass (IsClaimed back) = (back ≡ pass) × Calls old Unlock Claimed new Owner 1

-- rule: Unlocking above depth 1 lowers only the depth; at depth 1 it frees an unclaimed mutex, and leaves a claimed
--   one.
--   also: MutexCalls.{Releases, MutexSeatState, depth}
--   clauses: MutexWord::{try_lock, unlock}
--   rows: the_last_unlocking_frees
-- above depth 1 it only holds the mutex once less
abbrev pub Unlocks : MutexSeatState → MutexSeatState → MutexPass → Unlocking → Type 0
Unlocks old new pass done = MatchBool (old.depth == 1) (Releases old new pass done) ((done ≡ IsDone) × (new ≡ at_depth (old.depth - 1) old))

-- a claim's answer as the history has it
abbrev pub reply_of : Claim → MutexReply
reply_of HasWon = Won
reply_of (IsQueued owner) = Queued owner.0
reply_of IsSeizing = Seizing

-- the seat looked, and the mutex is offered to it
pub record SeesOffer (old new : MutexSeatState) : Type 0 where
  pub held : new.view.held ≡ old.view.held
  pub depth : new.depth ≡ old.depth
  pub looks : MutexLooks old.number old.view new.view
  pub offered : EndsOffered old.number new.view.seen

-- a seat that accepts looks, or looks and then takes what is offered to it
abbrev pub Accepts : MutexSeatState → MutexSeatState → Type 0
Accepts old new = Makes old awaits new ⊎ ((between : MutexSeatState) × Makes old awaits between × Makes between accepts new)

-- The word shows the last state of a legal history that each of the seats fits, and in which each owns or has seized what its view says. No entry is of a seat that the mutex was not made with, and it is of no such seat itself
pub record Closes (mutex : MutexState) (seats : List MutexSeatState) (found : ℕ) : Type 0 where
  pub log : List MutexEntry
  pub state : Mutex
  pub run : Run MutexStep unowned log state
  pub word : found ≡ mutex_word state
  pub fits : All (λ s. Fits mutex_author log s.number s.view) seats
  pub owner : All (λ s. is_owner state s.number ≡ owns s.view.held.role) seats
  pub winner : All (λ s. is_seizing state s.number ≡ wins s.view.held.role) seats
  pub strangers : (k : ℕ) → mutex.seats ≤ k → entries_of mutex_author k log ≡ []
  pub below : NamesBelow mutex.seats state

abbrev pub place_of : MutexSeatState → Place MutexView
place_of seat = place seat.number seat.view

-- Two seats of a mutex: of what they have seen one is the beginning of the other, and at most one of them has the mutex
pub record AreAtMutex (p q : Place MutexView) : Type 0 where
  pub apart : p.number ≢ q.number
  pub history : SeeOneHistory mutex_author p.number p.view q.number q.view
  pub alone : HasIt p.view → HasIt q.view → ⊥

pub record AgreeAtMutex (one other : MutexSeatState) : Type 0 where
  pub are : AreAtMutex (place_of one) (place_of other)
  pub alone : 0 < one.depth → other.depth ≡ 0
