-- The part of the core's lock in a table's rule, over plain data: the lock's word, the slot and the core part of each thread's view. The kernel in the slot has a history, and has come from what was first put there.
use Rattle.std.specs.Prelude.{◌≡◌, ◌≢◌, ◌⊎◌, ℕ, ◌+◌, List, [], ◌∷◌, ◌++◌, length, Option, Some, None}
use mathlib.Core.Option.{some, none}
use mathlib.Core.Option as maybe
use lib.ListN.{get_elem?}
use Rattle.evl_base.specs.declared.entry.Entry.{Entry}
use Rattle.evl_kernel.specs.histories.Histories.{History, IsLegal}
use Rattle.evl_core.specs.declared.views.Account.{Account}
use Rattle.evl_core.specs.declared.views.CorePart.{CorePart}
use Rattle.evl_core.specs.declared.views.Noted.{Noted}
use Rattle.evl_core.specs.lock.Lock.{LockEntry, LockKept, LockView, new_lock}
use Rattle.evl_core.specs.accounts.Accounts.{GoesOn, HasNoStranger, MadeBy, Fits, account, calls_by, threads_of}

abbrev pub core_part : {B : Type 0} → Option History → History → List Entry → List ℕ → ℕ → B → Option Noted → LockView → CorePart B
core_part taken seen mine found lost first note lock = record { taken = taken; seen = seen; mine = mine; found = found; lost = lost; first = first; note = note; lock = lock }

-- what the thread k knows of the calls
abbrev pub account_at : {B : Type 0} → ℕ → CorePart B → Account
account_at k c = account k c.seen c.mine c.found c.lost

-- a thread that has made no call
abbrev pub newcomer_part : {B : Type 0} → History → B → CorePart B
newcomer_part h first = core_part None h [] [] 0 first None new_lock

-- what is known once a kernel with this history and this room was taken, and once the thread k gave one back, with what is then known of the lock
abbrev pub after_take : {B : Type 0} → History → ℕ → LockView → CorePart B → CorePart B
after_take h room lock c = record c { taken = Some h; seen = h; found = c.found ++ room ∷ []; note = None; lock = lock }

abbrev pub after_give : {B : Type 0} → History → ℕ → LockView → CorePart B → CorePart B
after_give h k lock c = record c { taken = None; seen = h; mine = calls_by k h.entries; note = None; lock = lock }

-- what is known once the core was found taken
abbrev pub after_loss : {B : Type 0} → LockView → CorePart B → CorePart B
after_loss lock c = record c { lost = c.lost + 1; lock = lock }

-- the thread that has the kernel has left this word at this mutex
abbrev pub noting : {B : Type 0} → ℕ → ℕ → CorePart B → CorePart B
noting i left c = record c { note = Some (record { mutex = i; left = left }) }

-- the thread has made no step on a word since its take, or just on that of this mutex
abbrev pub IsAbout : ℕ → Option Noted → Type 0
IsAbout i None = Unit {0}
IsAbout i (Some note) = note.mutex ≡ i

-- the history that the thread k gives back goes on from the one that it took, by its own calls
pub record MayGive {B : Type 0} (k : ℕ) (c : CorePart B) (history : History) : Type 0 where
  pub before : History
  pub added : List Entry
  pub taken : c.taken ≡ Some before
  pub longer : GoesOn before added history
  pub own : MadeBy k added

abbrev pub Homes : Type 0 → Type 0
Homes S = List (maybe.Option (Option S))

-- just one thread has the kernel, which had this history when it was taken
pub record IsTaken {S B : Type 0} (history : History) (word : ℕ) (homes : Homes S) (cores : List (CorePart B)) : Type 0 where
  pub word_is : word ≡ 1
  pub slot_is : homes ≡ none ∷ []
  pub holder : ℕ
  pub holds : (c : CorePart B) × (get_elem? cores holder ≡ some c) × (c.taken ≡ Some history)
  pub others : (k : ℕ) (c : CorePart B) → k ≢ holder → get_elem? cores k ≡ some c → c.taken ≡ None

-- rule: Word 0: the kernel is in the slot with the common history. Word 1: exactly one seat has it, and took that.
--   also: CoreRule.IsTaken
--   clauses: KernelBox::{new, kernel, into_kernel, reserve, apply}
-- the kernel is in the slot, and no thread has taken it
pub record IsFree {S B : Type 0} (past : S → History) (comes : B → S → Type 0) (first : B) (history : History) (word : ℕ) (homes : Homes S) (cores : List (CorePart B)) : Type 0 where
  pub word_is : word ≡ 0
  pub kernel : S
  pub past_is : past kernel ≡ history
  pub comes_from : comes first kernel
  pub slot_is : homes ≡ some (Some kernel) ∷ []
  pub nobody : (k : ℕ) (c : CorePart B) → get_elem? cores k ≡ some c → c.taken ≡ None

-- rule: The common history is legal, begins with what each thread has seen, and has exactly each thread's own calls, in
--   order, and no stranger's.
--   also: CoreRule.{legal, fits, strangers, all}; Accounts.{Fits, BeginsWith, calls_by}
-- There is one common history. It is legal, each thread of its board has an account here that fits it, and no call is of another thread. Each thread knows what was first put into the slot
pub record CoreKept {S B : Type 0} (past : S → History) (comes : B → S → Type 0) (first : B) (word : ℕ) (homes : Homes S) (cores : List (CorePart B)) : Type 0 where
  pub history : History
  pub legal : IsLegal history
  pub fits : (k : ℕ) (c : CorePart B) → get_elem? cores k ≡ some c → Fits history (account_at k c)
  pub all : length cores ≡ threads_of history
  pub strangers : HasNoStranger history
  pub knows : (k : ℕ) (c : CorePart B) → get_elem? cores k ≡ some c → c.first ≡ first
  pub who : IsFree past comes first history word homes cores ⊎ IsTaken history word homes cores

-- and the lock has a history of its own, which all threads fit
abbrev pub CoreStands : {S B : Type 0} → (S → History) → (B → S → Type 0) → B → List LockEntry → ℕ → Homes S → List (CorePart B) → Type 0
CoreStands past comes first log word homes cores = CoreKept past comes first word homes cores × LockKept log word cores

-- the core's part of the table's rule
abbrev pub CoreRuled : {S B : Type 0} → (S → History) → (B → S → Type 0) → B → ℕ → Homes S → List (CorePart B) → Type 0
CoreRuled past comes first word homes cores = (log : List LockEntry) × CoreKept past comes first word homes cores × LockKept log word cores
