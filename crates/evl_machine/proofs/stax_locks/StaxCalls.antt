-- The caller after its step on a stax.
use Rattle.std.proofs.Common.{◌≡◌, ◌⊎◌, ℕ, Bool, true, false, List, Some, None, Result, Ok, Err, MatchOption, Option, map, sym, ap, ◌∙◌, subst, inl, inr, ⊎_elim}
use Rattle.std.specs.Prelude.{All}
use Rattle.evl_base.specs.declared.stage.Stage.{Stage}
use Rattle.evl_base.specs.declared.refusal.Refusal.{Refusal}
use Rattle.evl_base.specs.declared.refusal.Refusal.TheVariants.{Again, Busy, Limit, Raced}
use Rattle.evl_words.specs.declared.gate.StaxPass.{StaxPass}
use Rattle.evl_words.specs.declared.gate.GateHold.{GateHold}
use Rattle.evl_words.specs.GateCalls.{SeatState, FailsToEnter}
use Rattle.evl_machine.specs.callers.Actors.{AreHeldAt, IsActor, SeatedActor}
use Rattle.evl_core.specs.words.AtSeats.{AtSeat}
use Rattle.evl_machine.specs.stax_locks.StaxSeats.{Clears, Enters, Leaves, LeavesSo, LeavesStax, TriesStax, leave_refusal, stax_refusal}
use Rattle.evl_core.proofs.words.SeatLists.{each-set}

-- where the seat holds its stax afterwards, it does so at this stage, or did before
abbrev StaysAt : Stage → SeatState → SeatState → Type 0
StaysAt stage was is = (held : Stage) → is.view.held.stage ≡ Some held → (held ≡ stage) ⊎ (was.view.held.stage ≡ Some held)

held_at_seat : (stage : Stage) (i : ℕ) (old new : List SeatState) (step : SeatState → SeatState → Type 0) → AtSeat i old new step → ((was is : SeatState) → step was is → StaysAt stage was is) → AreHeldAt stage old → AreHeldAt stage new
held_at_seat stage i old new step at stays held = subst (AreHeldAt stage) (sym at.changed) (λ k s h there is. each-set (λ (k : ℕ) (s : SeatState). (h : Stage) → s.view.held.stage ≡ Some h → h ≡ stage) old i at.is (λ k s there h is. held k s h there is) of_seat k s there h is)
  where
    of_seat : (h : Stage) → at.is.view.held.stage ≡ Some h → h ≡ stage
    of_seat h is = ⊎_elim (λ (now : h ≡ stage). now) (λ (before : at.was.view.held.stage ≡ Some h). held i at.was h at.there before) (stays at.was at.is at.does h is)

holds_none : (is : SeatState) (limit : ℕ) (held : Stage) → is.view.held ≡ record { limit = limit; stage = None } → is.view.held.stage ≡ Some held → ⊥
holds_none is limit held none some = let no : None ≡ Some held = sym (ap (λ (h : GateHold). h.stage) none) ∙ some in cc

fails_held : (was is : SeatState) (stage : Stage) (refusal : Refusal) → FailsToEnter was stage is refusal → (held : Stage) → is.view.held.stage ≡ Some held → was.view.held.stage ≡ Some held
fails_held was is stage Again (free, calls) held at = absurd (holds_none is was.view.held.limit held calls.held at)
fails_held was is stage Limit (free, calls) held at = absurd (holds_none is was.view.held.limit held calls.held at)
fails_held was is stage (Raced first second) (free, same, races) held at = ap (λ (h : GateHold). h.stage) (sym same) ∙ at
fails_held was is stage Busy (holds, same) held at = ap (λ (s : SeatState). s.view.held.stage) (sym same) ∙ at
fails_held was is stage _ fails held at = absurd fails

enters_held : (stage : Stage) (result : Result StaxPass Refusal) (was is : SeatState) → Enters stage result was is → StaysAt stage was is
enters_held stage (Ok pass) was is (event, fits, calls) held at = inl (same (sym (ap (λ (h : GateHold). h.stage) calls.held) ∙ at))
  where
    same : Some stage ≡ Some held → held ≡ stage
    same e = cc
enters_held stage (Err refusal) was is (event, fails) held at = inr (fails_held was is stage refusal fails held at)

leaves_held : (stage : Stage) (result : Result Bool (Refusal × StaxPass)) (was is : SeatState) → LeavesSo result was is → StaysAt stage was is
leaves_held stage (Ok wanted) was is left held at = absurd (by wanted left.clears)
  where
    by : (b : Bool) → Clears b left.between is → ⊥
    by true (event, calls) = holds_none is left.between.view.held.limit held calls.held at
    by false same = holds_none left.between was.view.held.limit held left.entry.held (ap (λ (s : SeatState). s.view.held.stage) (sym same) ∙ at)
leaves_held stage (Err refused) was is left held at = absurd left

pub tried_held : (stage : Stage) (i : ℕ) (old new : List SeatState) (result : Result StaxPass Refusal) → TriesStax old i stage result new → AreHeldAt stage old → AreHeldAt stage new
tried_held stage i old new result tried held = by (stax_refusal old i) tried
  where
    by : (o : Option Refusal) → MatchOption o (Rattle.evl_machine.specs.stax_locks.StaxSeats.IsOfStax i result × AtSeat i old new (Enters stage result)) (λ refusal. (result ≡ Err refusal) × (new ≡ old)) → AreHeldAt stage new
    by None (mine, at) = held_at_seat stage i old new (Enters stage result) at (enters_held stage result) held
    by (Some refusal) (is, same) = subst (AreHeldAt stage) (sym same) held

pub left_held : (stage : Stage) (old new : List SeatState) (pass : StaxPass) (result : Result Bool (Refusal × StaxPass)) → LeavesStax old pass result new → AreHeldAt stage old → AreHeldAt stage new
left_held stage old new pass result left held = by (leave_refusal old pass) left
  where
    by : (o : Option Refusal) → MatchOption o (AtSeat pass.gate.0 old new (LeavesSo result)) (λ refusal. (result ≡ Err (refusal, pass)) × (new ≡ old)) → AreHeldAt stage new
    by None at = held_at_seat stage pass.gate.0 old new (LeavesSo result) at (leaves_held stage result) held
    by (Some refusal) (is, same) = subst (AreHeldAt stage) (sym same) held

-- an actor whose seats at the staxes changed
pub actor_at_staxes : {C : Type 0} (a : SeatedActor C) (new : List SeatState) → IsActor a → AreHeldAt a.stage new → map (λ (s : SeatState). s.number) new ≡ map (λ (s : SeatState). s.number) a.staxes → IsActor (record a { staxes = new })
actor_at_staxes a new is held same = record {
  held = held;
  awaits = is.awaits;
  staxes = subst (All (λ n. n ≡ a.thread.0)) (sym same) is.staxes;
  places = is.places;
}
