-- Steps of the kernel, and the histories that are runs of them.
use Rattle.std.specs.Prelude.{ℕ, ◌≡◌, List, [], ◌∷◌, ◌++◌, length, Result, Ok, Err}
use Rattle.evl_base.specs.declared.refusal.Refusal.{Refusal}
use Rattle.evl_base.specs.declared.call.Call.{Call}
use Rattle.evl_base.specs.declared.reply.Reply.{Reply}
use Rattle.evl_base.specs.declared.play.Play.{Play}
use Rattle.evl_base.specs.declared.entry.Entry.{Entry}
use Rattle.evl_base.specs.declared.board.Board.{Board}
use Rattle.evl_kernel.specs.state.States.{State, Handler}
use Rattle.evl_kernel.specs.state.Openings.{opening}
use Rattle.evl_kernel.specs.calls.Effects.{Effect}
use Rattle.evl_kernel.specs.calls.Serving.{answer}
use Rattle.evl_kernel.specs.settling.Settling.{Settles}

-- rule: A refused call changes nothing, and no play follows it.
--   rows: ping_pong_goes_on
-- rule: The answer is that of the moment before settling.
--   rows: reply_is_before_settling
-- a refusal changes nothing and is followed by no play; the reply is that of the moment before settling
abbrev pub Follows : State → Effect → Result Reply Refusal → List Play → State → Type 0
Follows old (Err refusal) reply plays new = (reply ≡ Err refusal) × (plays ≡ []) × (new ≡ old)
Follows old (Ok (given, changed)) reply plays new = (reply ≡ Ok given) × Settles changed plays new

-- rule: A put, get, write or read of one step and no play is answered with that step and its entry at once; else
--   nothing has changed, and it goes the general way. Which way a call went no clause of `apply` says: both answer
--   alike.
--   clauses: Kernel::apply
abbrev pub Step : State → ℕ → Call → Result Reply Refusal → List Play → State → Type 0
Step old caller call reply plays new = Follows old (answer old caller call) reply plays new

-- one entry with the plays that it owns
abbrev pub EntryStep : State → Entry → List Play → State → Type 0
EntryStep old entry plays new = (entry.plays ≡ length plays) × Step old entry.caller.0 entry.call entry.reply plays new

-- rule: A legal history is a run of steps from the opening of its board and bank, with as many plays for each entry as
--   it says.
--   also: Histories.{EntryStep, opened_kernel, IsLegal}
-- the entries and plays lead from one state to the other
abbrev pub Run : State → List Entry → List Play → State → Type 0
Run old [] plays new = (plays ≡ []) × (new ≡ old)
Run old (entry ∷ entries) plays new =
    (own : List Play) × (rest : List Play) × (mid : State)
    × (plays ≡ own ++ rest) × EntryStep old entry own mid × Run mid entries rest new

-- a kernel's past: what it was opened with, its entries, all plays in order, and where they end
pub record History : Type 0 where
  pub board : Board
  pub bank : List Handler
  pub entries : List Entry
  pub plays : List Play
  pub state : State

-- the records at its beginning
abbrev pub opened_kernel : History → State
opened_kernel h = opening h.board h.bank

abbrev pub IsLegal : History → Type 0
IsLegal h = Run (opened_kernel h) h.entries h.plays h.state

-- new is old followed by one entry and its plays
pub record Extends (old new : History) (entry : Entry) (plays : List Play) : Type 0 where
  pub board : new.board ≡ old.board
  pub bank : new.bank ≡ old.bank
  pub entries : new.entries ≡ old.entries ++ entry ∷ []
  pub plays_too : new.plays ≡ old.plays ++ plays
  pub step : EntryStep old.state entry plays new.state
