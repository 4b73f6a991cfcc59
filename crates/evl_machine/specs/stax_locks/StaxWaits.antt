-- The deeds of a caller that waits for a stax: it tries until it is let in, or is refused for good.
use Rattle.std.specs.Prelude.{◌≡◌, ℕ, ◌&&◌, ◌||◌, not, List, [], ◌∷◌, Bool, true, false, Result, Err, IfErr, MatchBool}
use Rattle.evl_base.specs.declared.refusal.Refusal.{Refusal}
use Rattle.evl_base.specs.declared.refusal.Refusal.TheVariants.{Again, Limit, Raced}
use Rattle.evl_base.specs.declared.stage.Stage.{Stage}
use Rattle.evl_words.specs.declared.gate.StaxPass.{StaxPass}
use Rattle.evl_words.specs.declared.gate.GateCall.TheVariants.{Claim}
use Rattle.evl_words.specs.declared.gate.GateReply.TheVariants.{Done}
use Rattle.evl_words.specs.GateCalls.{Calls, Makes, SeatState}
use Rattle.evl_words.specs.GateWorld.{claims}
use Rattle.evl_core.specs.words.AtSeats.{AtSeat}
use Rattle.evl_machine.specs.stax_locks.StaxSeats.{TriesStax}

-- a refusal that may pass: callers of the other stage hold the stax, or its limit of callers, or another step came in between
abbrev pub may_pass : Refusal → Bool
may_pass Again = true
may_pass Limit = true
may_pass (Raced first second) = true
may_pass refusal = false

-- callers of the other stage hold the stax
abbrev pub is_again : Refusal → Bool
is_again Again = true
is_again refusal = false

-- a seat sets its gate's claim mark
abbrev pub Marks : SeatState → SeatState → Type 0
Marks was is = Makes was claims is × Calls was Claim Done is was.view.held.stage

abbrev pub MarksIf : Bool → ℕ → List SeatState → List SeatState → Type 0
MarksIf wanted i old new = MatchBool wanted (AtSeat i old new Marks) (new ≡ old)

-- A try that was refused so, and may be made again. The claim mark is then set where it is the first that was answered Again
pub record Retry (i : ℕ) (stage : Stage) (marked : Bool) (old : List SeatState) (refusal : Refusal) (new : List SeatState) : Type 0 where
  pub passes : may_pass refusal ≡ true
  pub tried : List SeatState
  pub tries : TriesStax old i stage (Err refusal) tried
  pub marks : MarksIf (not marked && is_again refusal) i tried new

-- one such try, and whether the claim mark was set by then
abbrev pub RetriesOnce : ℕ → Stage → Bool → List SeatState → Bool → List SeatState → Type 0
RetriesOnce i stage marked old now new = (refusal : Refusal) × Retry i stage marked old refusal new × (now ≡ (marked || is_again refusal))

-- tries that were refused so, one after another
abbrev pub Retries : ℕ → Stage → Bool → List SeatState → List Refusal → List SeatState → Type 0
Retries i stage marked old [] new = new ≡ old
Retries i stage marked old (refusal ∷ refusals) new = (next : List SeatState) × Retry i stage marked old refusal next × Retries i stage (marked || is_again refusal) next refusals new

-- rule: Waiting for a stax tries again after `Again`, `Limit` and `Raced`, and sets the claim mark after the first
--   `Again`.
--   also: StaxWaits.Retries
--   clauses: Machine::lock_stax
--   rows: machine_1; racing_callers_5; no_stax_is_waited_for
-- Tries that were refused and made again, and the last one, which gave the answer: a pass, or a refusal that doesn't pass
pub record WaitsForStax (i : ℕ) (stage : Stage) (old : List SeatState) (result : Result StaxPass Refusal) (new : List SeatState) : Type 0 where
  pub refusals : List Refusal
  pub last : List SeatState
  pub retries : Retries i stage false old refusals last
  pub tried : TriesStax last i stage result new
  pub ends : IfErr result (λ refusal. may_pass refusal ≡ false)
