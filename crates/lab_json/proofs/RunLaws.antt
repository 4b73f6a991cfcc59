-- The output of the steps of a scenario, one after another.
use Rattle.std.proofs.Common.{◌≡◌, ◌≢◌, ◌↔◌, ◌∙◌, ◌++◌, ℕ, true, false, Bool, List, [], ◌∷◌, length, map, append-nil, append_assoc, Result, Err, IsTrue, IsFalse, if◌then◌else◌, refl, sym, ap, arith}
use Rattle.std.proofs.lemmas.List.{length-map}
use Rattle.evl_base.specs.declared.board.Board.{Board}
use Rattle.evl_base.specs.declared.refusal.Refusal.{Refusal}
use Rattle.evl_base.specs.declared.refusal.Refusal.TheVariants.{HistoryFull}
use Rattle.evl_base.specs.declared.reply.Reply.{Reply}
use Rattle.evl_kernel.specs.state.KernelViews.{AddsEntry, IsOpened, KernelView, makes_entry}
use Rattle.evl_kernel.specs.state.Openings.{can_open, opening}
use Rattle.evl_plans.specs.Told.{handler_of}
use Rattle.evl_plans.specs.declared.planned.Planned.{Planned}
use Rattle.evl_scenario.specs.Scenarios.{Script}
use Rattle.evl_scenario.specs.declared.steps.Step.{Step}
use Rattle.evl_shell.specs.Moments.{moment, wants_memory}
use Rattle.evl_shell.specs.Runs.{Moment, beginning, turn}
use Rattle.evl_shell.proofs.TurnLemmas.{made}
use Rattle.lab_json.specs.Runs.{moments_from, script_moments, through_moments}
use Rattle.lab_json.specs.States.{moment_json}

-- a call that isn't refused for want of memory is the turn of its step
pub turned : (old new : KernelView Planned) (step : Step) (reply : Result Reply Refusal)
    → (IsTrue (makes_entry reply) → AddsEntry old.history step.who.0 step.call reply new.history)
    → (IsFalse (makes_entry reply) → new.history ≡ old.history)
    → ((reply ≡ Err HistoryFull) ↔ (length old.history.entries ≡ old.limit))
    → new.limit ≡ old.limit → wants_memory reply ≡ false
    → moment new ≡ (turn old.limit (moment old) step).after
turned old new step reply adds keeps full bound memory = (made old new step step.call reply refl adds keeps full bound memory).turns.after

-- one line more, by the next of the steps
pub one_more : (file : List ℕ) (kept same : ℕ) (m after : Moment) (now next all : List ℕ) (steps rest : List Step) (step : Step)
    → now ++ moments_from file kept m steps ≡ all → steps ≡ step ∷ rest → after ≡ (turn kept m step).after → next ≡ now ++ moment_json file after
    → same ≡ kept → next ++ moments_from file same after rest ≡ all
one_more file kept same m after now next all steps rest step so cut is told bound =
    (λ i. told i ++ moments_from file (bound i) after rest)
    ∙ append_assoc now (moment_json file after) (moments_from file kept after rest)
    ∙ ap (λ (t : Moment). now ++ (moment_json file t ++ moments_from file kept t rest)) is
    ∙ ap (λ (ss : List Step). now ++ moments_from file kept m ss) (sym cut)
    ∙ so

-- no steps are left
pub no_more : (file : List ℕ) (kept : ℕ) (m : Moment) (now all : List ℕ) (steps : List Step)
    → now ++ moments_from file kept m steps ≡ all → length steps ≡ 0 → now ≡ all
no_more file kept m now all [] so none = sym (append-nil now) ∙ so
no_more file kept m now all (step ∷ rest) so none = absurd (omega (arith, none))

chosen : {A : Type 0} (b : Bool) (x y : A) → b ≢ false → (if b then x else y) ≡ x
chosen true x y h = refl
chosen false x y h = absurd (h refl)

-- a script over these callbacks, by what was opened of it
pub opened : (file : List ℕ) (bank : List Planned) (script : Script) (board : Board) (limit : ℕ) (steps : List Step) (kernel : KernelView Planned)
    → board ≡ script.board → limit ≡ script.limit → steps ≡ script.steps → can_open board (length bank) limit ≢ false
    → IsOpened (λ p. p.kinds.0) (λ p. p.plan) board bank limit kernel
    → through_moments file kernel.limit (moment kernel) steps ≡ script_moments file (map handler_of bank) script
opened file bank script board limit steps kernel b l s can k =
    let start : moment kernel ≡ beginning (opening board (map handler_of bank)) =
    (λ i. record { entries = length (k.entries i); state = (k.state ∙ (λ j. opening (k.board_is j) (k.bank_is j))) i }) in
    let count : length (map handler_of bank) ≡ length bank = length-map bank handler_of in
    let open_too : can_open script.board (length (map handler_of bank)) script.limit ≢ false = λ e. can ((λ i. can_open (b i) (sym count i) (l i)) ∙ e) in
    (λ i. through_moments file ((k.limit_is ∙ l) i) (start i) (s i))
    ∙ ap (λ (o : Board). through_moments file script.limit (beginning (opening o (map handler_of bank))) script.steps) b
    ∙ sym (chosen (can_open script.board (length (map handler_of bank)) script.limit) (through_moments file script.limit (beginning (opening script.board (map handler_of bank))) script.steps) [] open_too)
