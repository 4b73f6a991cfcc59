-- Which steps are whose.
use Rattle.std.specs.Prelude.{ℕ, ◌+◌, min, ◌≡◌, ◌==◌, if◌then◌else◌, List, [], ◌∷◌, ◌++◌, All, map}
use Rattle.std.specs.List.{list_any}
use Rattle.evl_scenario.specs.declared.steps.Step.{Step}
use Rattle.evl_kernel.specs.state.Limits.{history_limit}
use Rattle.lab_scenario_orders.specs.declared.callers.Caller.{Caller}

-- the places of a thread's steps, where the first of these steps has the place n
abbrev pub places_from : ℕ → ℕ → List Step → List ℕ
places_from n who [] = []
places_from n who (step ∷ steps) = if step.who.0 == who then n ∷ places_from (n + 1) who steps else places_from (n + 1) who steps

-- with a thread, if it isn't among these
abbrev pub with_thread : List ℕ → ℕ → List ℕ
with_thread threads who = if list_any (λ thread. thread == who) threads then threads else threads ++ who ∷ []

-- these threads, and then each other one that has steps, by its first step
abbrev pub threads_after : List ℕ → List Step → List ℕ
threads_after threads [] = threads
threads_after threads (step ∷ steps) = threads_after (with_thread threads step.who.0) steps

-- each thread that has steps is a caller, in the order of their first steps, with the places of its steps
pub record AreCallersOf (steps : List Step) (callers : List Caller) : Type 0 where
  pub threads : map (λ caller. caller.who.0) callers ≡ threads_after [] steps
  pub places : All (λ caller. caller.places.items ≡ places_from 0 caller.who.0 steps) callers

-- a limit with room for so many entries more, as far as a history can have it
abbrev pub limit_with : ℕ → ℕ → ℕ
limit_with limit more = min (limit + more) history_limit
