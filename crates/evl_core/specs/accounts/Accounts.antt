-- All that one caller knows of the kernel: the history that it has seen, its own calls there, what room it found, and how often it found it taken.
use Rattle.std.specs.Prelude.{◌≡◌, ℕ, ◌+◌, ◌<◌, ◌≤◌, ◌==◌, cond, List, [], ◌∷◌, ◌++◌}
use Rattle.evl_base.specs.declared.entry.Entry.{Entry}
use Rattle.evl_base.specs.declared.play.Play.{Play}
use Rattle.evl_kernel.specs.histories.Histories.{History, Run, IsLegal}
use Rattle.evl_core.specs.declared.views.Account.{Account}

-- how many threads are on a history's board
abbrev pub threads_of : History → ℕ
threads_of h = h.board.threads

-- new is old with these further entries, which lead on from where old ends
pub record GoesOn (old : History) (entries : List Entry) (new : History) : Type 0 where
  pub plays : List Play
  pub board : new.board ≡ old.board
  pub bank : new.bank ≡ old.bank
  pub entries_are : new.entries ≡ old.entries ++ entries
  pub plays_are : new.plays ≡ old.plays ++ plays
  pub run : Run old.state entries plays new.state

-- the history begins with what was seen
abbrev pub BeginsWith : History → History → Type 0
BeginsWith history seen = (later : List Entry) × GoesOn seen later history

-- the entries of one thread
abbrev pub calls_by : ℕ → List Entry → List Entry
calls_by t [] = []
calls_by t (e ∷ es) = cond (e.caller.0 == t) (e ∷ calls_by t es) (calls_by t es)

-- all of these entries are of one thread
abbrev pub MadeBy : ℕ → List Entry → Type 0
MadeBy t [] = Unit {0}
MadeBy t (e ∷ es) = (e.caller.0 ≡ t) × MadeBy t es

-- no call is of a thread that isn't on the board
abbrev pub HasNoStranger : History → Type 0
HasNoStranger h = (t : ℕ) → threads_of h ≤ t → calls_by t h.entries ≡ []

abbrev pub account : ℕ → History → List Entry → List ℕ → ℕ → Account
account t seen mine found lost = record { thread = t; seen = seen; mine = mine; found = found; lost = lost }

-- the common history begins with what the caller has seen, and its own calls are all that the history has of its thread
pub record Fits (history : History) (a : Account) : Type 0 where
  pub seen : BeginsWith history a.seen
  pub mine : calls_by a.thread history.entries ≡ a.mine

-- The laws of each caller. Its thread is on the board. It has seen a legal history, of which its own calls are just those of its thread, and in which no call is of a thread that isn't on the board
pub record IsAccount (a : Account) : Type 0 where
  pub legal : IsLegal a.seen
  pub member : a.thread < threads_of a.seen
  pub mine : calls_by a.thread a.seen.entries ≡ a.mine
  pub strangers : HasNoStranger a.seen

-- the account once its caller took a kernel with this history and this room, and once all of a history's calls of its thread are its own
abbrev pub saw : History → ℕ → Account → Account
saw h room a = record a { seen = h; found = a.found ++ room ∷ [] }

abbrev pub up_to_date : History → Account → Account
up_to_date h a = record a { seen = h; mine = calls_by a.thread h.entries }

-- the account once its caller found the core taken
abbrev pub lost_one : Account → Account
lost_one a = record a { lost = a.lost + 1 }

-- a caller of this thread that has made no call
abbrev pub newcomer : History → ℕ → Account
newcomer h t = account t h [] [] 0
