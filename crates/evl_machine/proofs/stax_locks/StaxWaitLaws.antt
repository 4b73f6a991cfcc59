-- The outcome of the tries of a stax, one after another.
use Rattle.std.proofs.Common.{◌≡◌, ◌<◌, ℕ, ◌||◌, cond, List, [], ◌∷◌, ◌++◌, Bool, false, Some, is_some, length, map, get_or, slice_get, refl, sym, ap, ◌∙◌, subst, arith}
use Rattle.evl_base.specs.declared.refusal.Refusal.{Refusal}
use Rattle.evl_base.specs.declared.stage.Stage.{Stage}
use Rattle.evl_words.specs.declared.gate.GateHold.{GateHold}
use Rattle.evl_words.specs.GateCalls.{GateState, IsSeatOf, SeatState}
use Rattle.evl_machine.specs.callers.Actors.{AreHeldAt}
use Rattle.evl_core.specs.words.AtSeats.{AtSeat}
use Rattle.evl_machine.specs.callers.Handles.{CallerState}
use Rattle.evl_core.specs.words.Homes.{gate_home, stax_home}
use Rattle.evl_machine.specs.stax_locks.StaxCalls.{StaxCall}
use Rattle.evl_machine.specs.stax_locks.StaxSeats.{stax_passes}
use Rattle.evl_machine.specs.stax_locks.StaxWaits.{Marks, Retries, RetriesOnce, Retry, is_again}
use Rattle.evl_core.proofs.words.SeatLists.{each-set, same-length}
use Rattle.evl_machine.proofs.stax_locks.StaxLaws.{found}

-- whether the mark was set, after tries that were refused so
abbrev pub marked_after : Bool → List Refusal → Bool
marked_after marked [] = marked
marked_after marked (refusal ∷ refusals) = marked_after (marked || is_again refusal) refusals

-- tries so far, and whether they set the mark
abbrev pub RetriesSoFar : ℕ → Stage → List SeatState → Bool → List SeatState → Type 0
RetriesSoFar i stage old now new = (refusals : List Refusal) × Retries i stage false old refusals new × (now ≡ marked_after false refusals)

retries_more : (i : ℕ) (stage : Stage) (marked : Bool) (old : List SeatState) (refusals : List Refusal) (mid : List SeatState) (refusal : Refusal) (new : List SeatState)
    → Retries i stage marked old refusals mid → Retry i stage (marked_after marked refusals) mid refusal new → Retries i stage marked old (refusals ++ refusal ∷ []) new
retries_more i stage marked old [] mid refusal new same one = (new, subst (λ seats. Retry i stage marked seats refusal new) same one, refl)
retries_more i stage marked old (x ∷ xs) mid refusal new (next, first, rest) one = (next, first, retries_more i stage (marked || is_again x) next xs mid refusal new rest one)

marked_more : (marked : Bool) (refusals : List Refusal) (refusal : Refusal) → marked_after marked (refusals ++ refusal ∷ []) ≡ (marked_after marked refusals || is_again refusal)
marked_more marked [] refusal = refl
marked_more marked (x ∷ xs) refusal = marked_more (marked || is_again x) xs refusal

-- one try more
pub retries_once : (i : ℕ) (stage : Stage) (old : List SeatState) (was : Bool) (mid : List SeatState) (now : Bool) (new : List SeatState) → RetriesSoFar i stage old was mid → RetriesOnce i stage was mid now new → RetriesSoFar i stage old now new
retries_once i stage old was mid now new (refusals, before, marked) (refusal, one, is) =
    (refusals ++ refusal ∷ [], retries_more i stage false old refusals mid refusal new before (subst (λ b. Retry i stage b mid refusal new) marked one), is ∙ (ap (λ b. b || is_again refusal) marked ∙ sym (marked_more false refusals refusal)))

-- the seat at a place of a thread's seats
pub seat_there : (xs old : List SeatState) (gs now : List GateState) (i : ℕ) (seat : SeatState) (gate : GateState) → xs ≡ old → gs ≡ now → map stax_home old ≡ map gate_home now
    → i < length old → seat ≡ get_or xs i seat → gate ≡ get_or gs i gate → (slice_get xs i ≡ Some seat) × IsSeatOf seat gate
seat_there xs old gs now i seat gate same_seats same_gates homes within =
    let long = same-length stax_home gate_home old now homes in found xs old gs now i seat gate same_seats same_gates homes (omega (arith, within, long, ap length same_gates))

-- who sets the mark holds what it held
keeps_hold : (was is : SeatState) → Marks was is → is.view.held.stage ≡ was.view.held.stage
keeps_hold was is marks = ap (λ (h : GateHold). h.stage) marks.1.held

pub marks_passes : (was is : SeatState) → Marks was is → stax_passes is ≡ stax_passes was
marks_passes was is marks = ap (λ o. cond {A = ℕ} (is_some o) 1 0) (keeps_hold was is marks)

-- so a mark keeps all staxes at their stage
pub marks_held : (stage : Stage) (i : ℕ) (old new : List SeatState) → AtSeat i old new Marks → AreHeldAt stage old → AreHeldAt stage new
marks_held stage i old new at held = subst (AreHeldAt stage) (sym at.changed) (λ k s h there is. each-set (λ (k : ℕ) (s : SeatState). (h : Stage) → s.view.held.stage ≡ Some h → h ≡ stage) old i at.is (λ k s there h is. held k s h there is) (λ h is. held i at.was h at.there (sym (keeps_hold at.was at.is at.does) ∙ is)) k s there h is)

module _ {C : Type 0} (i : ℕ) (stage : Stage) (old mid new : CallerState C) (was : Bool) (before : StaxCall old (λ a b. RetriesSoFar i stage a was b) mid) where
  -- one try more of a caller
  pub retries_again : (now : Bool) → StaxCall mid (λ a b. RetriesOnce i stage was a now b) new → StaxCall old (λ a b. RetriesSoFar i stage a now b) new
  retries_again now once = (once.0 ∙ (λ j. record (before.0 j) { staxes = new.staxes }), retries_once i stage old.staxes was mid.staxes now new.staxes before.1 once.1)
