-- The words of a machine as plain numbers, and the atomic steps on them, as the worlds of a gate and of a mutex define them.
use Rattle.std.specs.Prelude.{ℕ, Bool, false, List, [], ◌∷◌, Some, None, is_some, if◌then◌else◌, slice_index_or, slice_set}
use Rattle.evl_base.specs.declared.stage.Stage.{Stage}
use Rattle.evl_words.specs.History.{view_of}
use Rattle.evl_words.specs.declared.mutex.MutexRole.TheVariants.{Bystander, Owner}
use Rattle.evl_words.specs.GateWorld.{GateView, GateKind, looks, exchanges, leaves, claims, unclaims, hold, step_word as gate_word, step_held as gate_held}
use Rattle.evl_words.specs.MutexWorld.{MutexView, MutexKind, tries, unlocks, claims as claims_it, settles, offers, frees, forgets, awaits, accepts, owns, role_of, step_word as mutex_word, step_held as mutex_held}
use Rattle.lab_step_orders.specs.declared.steps.GateStep.{GateStep}
use Rattle.lab_step_orders.specs.declared.steps.GateStep.TheVariants.{Look, Exchange, Leave, Claim, Unclaim}
use Rattle.lab_step_orders.specs.declared.steps.MutexStep.{MutexStep}
use Rattle.lab_step_orders.specs.declared.steps.MutexStep.TheVariants.{Try, Unlock, Win, Mark, Offer, Free, Accept, Forget}

-- a word, and for each caller whether it holds what the word guards
pub record Shared : Type 0 where
  pub word : ℕ
  pub held : List Bool

abbrev pub holds : Shared → ℕ → Bool
holds shared k = slice_index_or shared.held k false

-- which step of the gate's world a step is, by a caller on this stage
abbrev pub gate_kind : Stage → GateStep → GateKind
gate_kind stage Look = looks stage
gate_kind stage (Exchange old) = exchanges stage old
gate_kind stage Leave = leaves
gate_kind stage Claim = claims
gate_kind stage Unclaim = unclaims

-- and which steps of the mutex's world, one after the other
abbrev pub mutex_kinds : MutexStep → List MutexKind
mutex_kinds Try = tries ∷ []
mutex_kinds Unlock = unlocks ∷ []
mutex_kinds Win = claims_it ∷ settles ∷ []
mutex_kinds Mark = claims_it ∷ []
mutex_kinds (Offer next more) = offers next more ∷ []
mutex_kinds Free = frees ∷ []
mutex_kinds Accept = awaits ∷ accepts ∷ []
mutex_kinds Forget = forgets ∷ []

-- what a caller that has seen nothing knows of a gate: of a view a step reads only the limit and what the caller holds
abbrev pub gate_view : ℕ → Stage → Bool → GateView
gate_view limit stage held = view_of [] [] (hold limit (if held then Some stage else None))

abbrev pub mutex_view : Bool → MutexView
mutex_view held = view_of [] [] (role_of 0 (if held then Owner else Bystander))

-- rule: A step changes one word, and what its caller holds of it, as the world of that gate or mutex says.
--   also: Words.mutex_after
--   clauses: step_outcomes_of
--   rows: orders_of_later_marks_are_counted; orders_with_a_mark_are_counted
-- a gate of this limit after a step of the caller k, which is on this stage
abbrev pub gate_after : ℕ → Stage → ℕ → GateStep → Shared → Shared
gate_after limit stage k step g = record {
  word = gate_word g.word k (gate_view limit stage (holds g k)) (gate_kind stage step);
  held = slice_set g.held k (is_some (gate_held g.word k (gate_view limit stage (holds g k)) (gate_kind stage step)).stage);
}

-- what a caller's steps make of a mutex's word, and whether it owns the mutex then
abbrev pub along : ℕ → List MutexKind → ℕ → Bool → ℕ × Bool
along k [] word held = (word, held)
along k (kind ∷ kinds) word held = along k kinds (mutex_word word k (mutex_view held) kind) (owns (mutex_held word k (mutex_view held) kind).role)

abbrev pub mutex_after : ℕ → MutexStep → Shared → Shared
mutex_after k step m =
    let at = along k (mutex_kinds step) m.word (holds m k) in
    record { word = at.0; held = slice_set m.held k at.1 }
