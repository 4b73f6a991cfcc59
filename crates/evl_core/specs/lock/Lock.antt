-- The core's lock as a sequential machine. Its takes and gives have one order: a common history, which the rule of the core's table keeps and no running program stores.
use Rattle.std.specs.Prelude.{◌≡◌, ◌≢◌, ℕ, ◌+◌, ◌==◌, if◌then◌else◌, Bool, true, false, List, [], ◌∷◌, ◌++◌, length, is_some, map}
use mathlib.Core.Option.{some}
use lib.ListN.{get_elem?}
use Rattle.evl_words.specs.declared.history.View.{View}
use Rattle.evl_words.specs.declared.history.WordEntry.{WordEntry}
use Rattle.evl_words.specs.Machine.{Machine, IsStep, Run}
use Rattle.evl_words.specs.History.{view_of}
use Rattle.evl_words.specs.Events.{World, IsWorld}
use Rattle.evl_core.specs.declared.views.CorePart.{CorePart}
use Rattle.evl_core.specs.declared.views.LockCall.{LockCall}
use Rattle.evl_core.specs.declared.views.LockCall.TheVariants.{Take, Give}
use Rattle.evl_core.specs.declared.views.LockReply.{LockReply}
use Rattle.evl_core.specs.declared.views.LockReply.TheVariants.{Got, Lost, Done}

abbrev pub LockEntry : Type 0
LockEntry = WordEntry LockCall LockReply

-- what a thread has seen of the lock, its own steps there, and whether it has the kernel
abbrev pub LockView : Type 0
LockView = View LockEntry Bool

-- The kernel lies in the slot, or this thread has it
pub data LockState : Type 0 where
  idle : LockState
  busy : ℕ → LockState

abbrev pub has_it : LockState → ℕ → Bool
has_it idle k = false
has_it (busy j) k = j == k

-- A thread that has the kernel does not take it, and alone gives it back
abbrev pub lock_may : LockState → ℕ → LockCall → Type 0
lock_may s k Take = has_it s k ≡ false
lock_may s k Give = has_it s k ≡ true

abbrev pub take_answer : LockState → LockReply
take_answer idle = Got
take_answer (busy j) = Lost

abbrev pub lock_answer : LockState → ℕ → LockCall → LockReply
lock_answer s k Take = take_answer s
lock_answer s k Give = Done

abbrev pub taken_by : LockState → ℕ → LockState
taken_by idle k = busy k
taken_by (busy j) k = busy j

abbrev pub lock_change : LockState → ℕ → LockCall → LockState
lock_change s k Take = taken_by s k
lock_change s k Give = idle

abbrev pub lock_machine : Machine LockState LockCall LockReply
lock_machine = record { may = lock_may; answer = lock_answer; after = lock_change }

-- rule: The core's lock has its own history: a take gets the kernel from the slot, or is lost if another thread has it.
--   Each thread has seen a prefix, with exactly its own steps.
--   also: Lock.{LockKept, KnowsLock, LosesTo}
--   rows: held_core_is_not_taken
-- A take is lost only where another thread has the kernel
abbrev pub LockStep : LockState → LockEntry → LockState → Type 0
LockStep = IsStep lock_machine

abbrev pub lock_author : LockEntry → ℕ
lock_author e = e.by

abbrev pub lock_entry : ℕ → LockCall → LockReply → LockEntry
lock_entry by call reply = record { by = by; call = call; reply = reply }

-- the lock's word
abbrev pub lock_word : LockState → ℕ
lock_word idle = 0
lock_word (busy j) = 1

-- the word shows the lock, and who has the kernel knows it
pub record LockTie (found : ℕ) (s : LockState) (held : List Bool) : Type 0 where
  pub word : found ≡ lock_word s
  pub holder : (k : ℕ) (has : Bool) → get_elem? held k ≡ some has → has_it s k ≡ has

abbrev pub LockWorld : Type 0
LockWorld = World LockEntry Bool

abbrev pub IsLockWorld : LockWorld → Type 0
IsLockWorld = IsWorld lock_author LockStep idle LockTie

-- how many of these entries were answered so
abbrev pub is_got : LockReply → ℕ
is_got Got = 1
is_got Lost = 0
is_got Done = 0

abbrev pub is_lost : LockReply → ℕ
is_lost Got = 0
is_lost Lost = 1
is_lost Done = 0

abbrev pub count_replies : (LockReply → ℕ) → List LockEntry → ℕ
count_replies f [] = 0
count_replies f (e ∷ es) = f e.reply + count_replies f es

-- the view of a thread that has made no step on the lock, and that of one after a step on a lock with this history
abbrev pub new_lock : LockView
new_lock = view_of [] [] false

abbrev pub lock_view : List LockEntry → LockEntry → LockView → Bool → LockView
lock_view log e v has = view_of (log ++ e ∷ []) (v.mine ++ e ∷ []) has

-- what is found by a take that found this word
abbrev pub take_entry : ℕ → ℕ → LockEntry
take_entry found k = lock_entry k Take (if found == 0 then Got else Lost)

abbrev pub give_entry : ℕ → LockEntry
give_entry k = lock_entry k Give Done

abbrev pub lock_of : {B : Type 0} → CorePart B → LockView
lock_of c = c.lock

-- what a thread knows of the lock: whether it has the kernel, how often it got it, and how often it found it taken
pub record KnowsLock {B : Type 0} (c : CorePart B) : Type 0 where
  pub has : c.lock.held ≡ is_some c.taken
  pub found : length c.found ≡ count_replies is_got c.lock.mine
  pub lost : c.lost ≡ count_replies is_lost c.lock.mine

-- The lock has this history, which all threads fit and whose last state its word shows
pub record LockKept {B : Type 0} (log : List LockEntry) (word : ℕ) (cores : List (CorePart B)) : Type 0 where
  pub world : IsLockWorld (record { word = word; log = log; views = map lock_of cores })
  pub knows : (k : ℕ) (c : CorePart B) → get_elem? cores k ≡ some c → KnowsLock c

-- The thread lost a take: it has now seen that the lock's history goes on from all that it had seen of it to where another thread has the kernel, and there is its own take
pub record LosesTo (k : ℕ) (old new : LockView) : Type 0 where
  pub between : List LockEntry
  pub holder : ℕ
  pub another : holder ≢ k
  pub has : Run LockStep idle (old.seen ++ between) (busy holder)
  pub seen : new.seen ≡ (old.seen ++ between) ++ lock_entry k Take Lost ∷ []
  pub mine : new.mine ≡ old.mine ++ lock_entry k Take Lost ∷ []
