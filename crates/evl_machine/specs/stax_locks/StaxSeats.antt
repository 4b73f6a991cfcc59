-- A stax call's effect on the caller's seats at the gates of a machine.
use Rattle.std.specs.Prelude.{◌≡◌, ℕ, ◌==◌, ◌&&◌, cond, if◌then◌else◌, Bool, false, Option, Some, None, is_some, Result, Ok, Err, MatchBool, MatchOption, List, length, map, slice_get}
use Rattle.std.specs.List.{list_any, range_with_len}
use Rattle.std.specs.Option.{option_map_or}
use Rattle.evl_base.specs.declared.stage.Stage.{Stage}
use Rattle.evl_base.specs.declared.refusal.Refusal.{Refusal}
use Rattle.evl_base.specs.declared.refusal.Refusal.TheVariants.{Busy, NotOwner, Unknown}
use Rattle.evl_words.specs.declared.gate.StaxPass.{StaxPass}
use Rattle.evl_words.specs.declared.gate.Left.{Left}
use Rattle.evl_words.specs.declared.gate.Left.TheVariants.{Last, Others}
use Rattle.evl_words.specs.declared.gate.GateCall.TheVariants.{Enter, Leave, Unclaim}
use Rattle.evl_words.specs.declared.gate.GateReply.TheVariants.{Entered, Left as LeftGate, Done}
use Rattle.evl_words.specs.GateWorld.{leaves, unclaims}
use Rattle.evl_words.specs.GateCalls.{GateState, SeatState, IsPassOf, Makes, Tries, Calls, FailsToEnter}
use Rattle.evl_core.specs.words.AtSeats.{AtSeat, AreCounted}

abbrev pub is_held : SeatState → Bool
is_held seat = is_some seat.view.held.stage

-- how many passes the seat has
abbrev pub stax_passes : SeatState → ℕ
stax_passes seat = cond {A = ℕ} (is_held seat) 1 0

-- some stax is held
abbrev pub holds_stax : List SeatState → Bool
holds_stax seats = list_any is_held seats

-- a thread's seats as the gates of a machine were made with them
abbrev pub AreFresh : List SeatState → Type 0
AreFresh seats = AreCounted (λ s. s.gate.0) stax_passes seats 0

-- refusals: try_lock_stax, lock_stax, unlock_stax
--   also: StaxSeats.leave_refusal
--   clauses: Machine::try_lock_stax: tried; Machine::lock_stax: waited; Machine::unlock_stax: left
-- what refuses an entry with no step: there is no such stax, or its seat holds it
abbrev pub stax_refusal : List SeatState → ℕ → Option Refusal
stax_refusal seats i = option_map_or (λ seat. if is_held seat then Some Busy else None) (slice_get seats i) (Some Unknown)

-- what a seat does that wants to enter, and was answered so
abbrev pub Enters : Stage → Result StaxPass Refusal → SeatState → SeatState → Type 0
Enters stage (Ok pass) was is = Tries was stage is × IsPassOf pass was × Calls was (Enter stage) Entered is (Some stage)
Enters stage (Err refusal) was is = Tries was stage is × FailsToEnter was stage is refusal

-- a pass is of stax i
abbrev pub IsOfStax : ℕ → Result StaxPass Refusal → Type 0
IsOfStax i (Ok pass) = pass.gate.0 ≡ i
IsOfStax i (Err refusal) = Unit {0}

-- rule: A caller holds a stax at its thread's stage, so callers of two stages never hold one together. The last one out
--   that finds the claim mark clears it and learns of it.
--   also: StaxSeats.LeavesStax; Calls.HoldsAtItsStage
--   clauses: Machine::{try_lock_stax, unlock_stax}; callers_agree
--   rows: stax_stages
abbrev pub TriesStax : List SeatState → ℕ → Stage → Result StaxPass Refusal → List SeatState → Type 0
TriesStax old i stage result new = MatchOption (stax_refusal old i) (IsOfStax i result × AtSeat i old new (Enters stage result)) (λ refusal. (result ≡ Err refusal) × (new ≡ old))

-- what refuses to leave by a pass with no step: it isn't of this seat, or the seat holds nothing
abbrev pub pass_refusal : StaxPass → SeatState → Option Refusal
pass_refusal pass seat = if pass.gate.0 == seat.gate.0 && pass.seat == seat.number && is_held seat then None else Some NotOwner

-- rule: A pass whose number is not on the board is `NotOwner` and comes back.
--   also: MutexSeats.unlock_refusal
--   rows: passes_come_back
abbrev pub leave_refusal : List SeatState → StaxPass → Option Refusal
leave_refusal seats pass = option_map_or (pass_refusal pass) (slice_get seats pass.gate.0) (Some NotOwner)

-- the seat was the last, and others want in
abbrev pub is_wanted : Left → Bool
is_wanted (Last claimed) = claimed
is_wanted Others = false

-- the last seat of a gate takes the mark away, if it is set
abbrev pub Clears : Bool → SeatState → SeatState → Type 0
Clears wanted between is = MatchBool wanted (Makes between unclaims is × Calls between Unclaim Done is None) (is ≡ between)

-- a seat leaves, and answers whether it was the last and found the mark
pub record Leaves (wanted : Bool) (was is : SeatState) : Type 0 where
  pub left : Left
  pub told : wanted ≡ is_wanted left
  pub between : SeatState
  pub event : Makes was leaves between
  pub entry : Calls was Leave (LeftGate left) between None
  pub clears : Clears wanted between is

abbrev pub LeavesSo : Result Bool (Refusal × StaxPass) → SeatState → SeatState → Type 0
LeavesSo (Ok wanted) was is = Leaves wanted was is
LeavesSo (Err refused) was is = ⊥

-- of one seat
abbrev pub LeavesBy : StaxPass → Result Bool (Refusal × StaxPass) → SeatState → SeatState → Type 0
LeavesBy pass result was is = MatchOption (pass_refusal pass was) (LeavesSo result was is) (λ refusal. (result ≡ Err (refusal, pass)) × (is ≡ was))

abbrev pub LeavesStax : List SeatState → StaxPass → Result Bool (Refusal × StaxPass) → List SeatState → Type 0
LeavesStax old pass result new = MatchOption (leave_refusal old pass) (AtSeat pass.gate.0 old new (LeavesSo result)) (λ refusal. (result ≡ Err (refusal, pass)) × (new ≡ old))

-- the gates of so many seats with these limits, in the order of their numbers
pub record AreGatesOf (limits : List ℕ) (threads : ℕ) (gates : List GateState) : Type 0 where
  pub numbers : map (λ g. g.id.0) gates ≡ range_with_len 0 (length limits)
  pub bounds : map (λ g. g.limit) gates ≡ limits
  pub seats : map (λ g. g.seats) gates ≡ map (λ limit. threads) limits
