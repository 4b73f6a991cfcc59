-- The steps of a scenario, read one after the other.
use Rattle.std.proofs.Common.{◌≡◌, ℕ, ◌+◌, ◌<◌, List, [], ◌∷◌, ◌++◌, length, drop, get_or, Option, Some, Result, Ok, Err, refl, sym, ap, ◌∙◌, append_assoc}
use Rattle.toml.specs.View.{view, items_view}
use Rattle.toml.specs.declared.value.Value.{Value}
use Rattle.toml.proofs.Views.{items_view-drop}
use Rattle.evl_scenario.specs.declared.faults.Fault.{Fault}
use Rattle.evl_scenario.specs.declared.steps.Step.{Step}
use Rattle.evl_scenario.specs.Scenarios.{steps_of, with_first}
use Rattle.evl_scenario.specs.Steps.{step_of}

-- the whole, where these steps are done and the rest is to be read
abbrev pub after_steps : List Step → Result (List Step) Fault → Result (List Step) Fault
after_steps done (Ok rest) = Ok (done ++ rest)
after_steps done (Err e) = Err e

after_one : (n : ℕ) (done : List Step) (step : Step) (rest : Result (List Step) Fault) → after_steps (done ++ step ∷ []) rest ≡ after_steps done (with_first n (Some step) rest)
after_one n done step (Ok steps) = ap (λ (s : List Step). Ok s) (append_assoc done (step ∷ []) steps)
after_one n done step (Err e) = refl

-- one step more was read
pub one_more : (values : List Value) (i : ℕ) (value : Value) (done more : List Step) (step : Step) (all : Result (List Step) Fault)
    → i < length values → value ≡ get_or values i value → Some step ≡ step_of (view value) → more ≡ done ++ step ∷ []
    → after_steps done (steps_of (i + 1) (items_view (drop i values))) ≡ all
    → after_steps more (steps_of (i + 1 + 1) (items_view (drop (i + 1) values))) ≡ all
one_more values i value done more step all h at is pushed kept =
    let rest = steps_of (i + 1 + 1) (items_view (drop (i + 1) values)) in
    ap (λ (s : List Step). after_steps s rest) pushed ∙ after_one (i + 1) done step rest
    ∙ ap (λ (o : Option Step). after_steps done (with_first (i + 1) o rest)) (is ∙ ap (λ (v : Value). step_of (view v)) at)
    ∙ ap (λ items. after_steps done (steps_of (i + 1) items)) (sym (items_view-drop values i value h)) ∙ kept
