-- After each call the out-of-band stage is stalled, or nothing is pending there.
use Rattle.std.proofs.Common.{◌≡◌, ℕ, Bool, true, false, not, ◌&&◌, List, [], ◌∷◌, Option, Some, None, Result, Ok, Err, is_some, if◌then◌else◌, refl, sym, subst}
use Rattle.std.proofs.lemmas.Bool.{false≢true}
use Rattle.std.specs.Option.{option_map}
use Rattle.evl_base.proofs.Plain.{some-none}
use Rattle.evl_base.specs.declared.board.Board.{Board}
use Rattle.evl_base.specs.declared.reply.Reply.{Reply}
use Rattle.evl_base.specs.declared.play.Play.{Play}
use Rattle.evl_base.specs.declared.entry.Entry.{Entry}
use Rattle.evl_base.specs.declared.refusal.Refusal.{Refusal}
use Rattle.evl_base.specs.declared.stage.Stage.{Stage}
use Rattle.evl_base.specs.declared.stage.Stage.TheVariants.{Oob}
use Rattle.evl_pipeline.specs.NumberSet.{NumberSet, contains, least}
use Rattle.evl_pipeline.specs.Lines as lines
use Rattle.evl_kernel.specs.state.States.{State, Handler}
use Rattle.evl_kernel.specs.calls.Effects.{Effect}
use Rattle.evl_kernel.specs.calls.Serving.{answer}
use Rattle.evl_kernel.specs.settling.Settling.{Settling, next_play}
use Rattle.evl_kernel.specs.histories.Histories.{Run, Follows, opened_kernel}
use Rattle.evl_kernel.specs.state.Openings.{opening}
use Rattle.evl_kernel.proofs.settling.DueLaws.{none_played}
use Rattle.evl_kernel.specs.histories.Laws.{OobPendsOnlyWhileStalled}

-- no line is playable out-of-band
abbrev pub IsQuiet : State → Type 0
IsQuiet s = (is_some (least s.lines.oob.pending) && not s.lines.oob.stalled) ≡ false

quiet_of : (stalled : Bool) (low : Option ℕ) (other : Option (Stage × ℕ))
    → (if is_some low && not stalled then option_map {U = Stage × ℕ} (λ line. (Oob, line)) low else other) ≡ None → (is_some low && not stalled) ≡ false
quiet_of stalled None other h = refl
quiet_of true (Some n) other h = refl
quiet_of false (Some n) other h = absurd (some-none _ h)

-- where a settling ends nothing is playable out-of-band
pub ended_quiet : (at : Settling) → next_play at ≡ None → IsQuiet at.state
ended_quiet at h = quiet_of at.state.lines.oob.stalled (least at.state.lines.oob.pending) _ (none_played at h).1

pub follows_quiet : (old : State) (effect : Effect) (reply : Result Reply Refusal) (plays : List Play) (new : State)
    → IsQuiet old → Follows old effect reply plays new → IsQuiet new
follows_quiet old (Err refusal) reply plays new quiet step = subst IsQuiet (sym step.2) quiet
follows_quiet old (Ok (said, changed)) reply plays new quiet step = subst IsQuiet (sym step.1.left) (ended_quiet step.1.last step.1.ended)

-- each state of a run from a quiet one is quiet
pub run_quiet : (opening : State) (entries : List Entry) (plays : List Play) (state : State) → IsQuiet opening → Run opening entries plays state → IsQuiet state
run_quiet opening [] plays state quiet run = subst IsQuiet (sym run.1) quiet
run_quiet opening (e ∷ entries) plays state quiet (own, rest, mid, split, step, run) =
    run_quiet mid entries rest state (follows_quiet opening (answer opening e.caller.0 e.call) e.reply own mid quiet step.1) run

pub opening_quiet : (board : Board) (bank : List Handler) → IsQuiet (opening board bank)
unfolding lines.opening
opening_quiet board bank = refl

-- what is pending on a quiet stage is held back by a stall
pending_stalled : (pending : NumberSet) (stalled : Bool) (line : ℕ) → (is_some (least pending) && not stalled) ≡ false → contains pending line ≡ true → stalled ≡ true
pending_stalled [] stalled line quiet there = absurd (false≢true there)
pending_stalled (m ∷ ms) true line quiet there = refl
pending_stalled (m ∷ ms) false line quiet there = absurd (false≢true (sym quiet))

pub stalled_while_pending : OobPendsOnlyWhileStalled
stalled_while_pending h legal line there =
    pending_stalled h.state.lines.oob.pending h.state.lines.oob.stalled line (run_quiet (opened_kernel h) h.entries h.plays h.state (opening_quiet h.board h.bank) legal) there
