-- A caller that is noted as held makes no step.
use Rattle.std.proofs.Common.{◌≡◌, ◌∙◌, ℕ, zero, suc, Bool, true, false, List, [], ◌∷◌, map, ap, sym}
use Rattle.std.specs.Prelude.{IsSomeAnd, None, slice_get, unwrap_or}
use Rattle.evl_scenario.specs.declared.steps.Step.{Step}
use Rattle.lab_scenario_orders.specs.Callers.{Seen, is_held, step_of}
use Rattle.lab_scenario_orders.specs.Moments.{held_in}
use Rattle.lab_scenario_orders.specs.declared.callers.Caller.{Caller}
use Rattle.lab_scenario_orders.specs.declared.callers.Callers.{Callers}
use Rattle.lab_scenario_orders.proofs.TrailLaws.{blocked}

noted_there : (f : ℕ → Bool) (who : ℕ) (callers : List Caller) (n : ℕ) → IsSomeAnd (slice_get callers n) (λ one. one.who.0 ≡ who)
    → unwrap_or (slice_get (map (λ caller. f caller.who.0) callers) n) false ≡ true → f who ≡ true
noted_there f who [] zero at noted = absurd at
noted_there f who [] (suc n) at noted = absurd at
noted_there f who (one ∷ callers) zero at noted = ap f (sym at) ∙ noted
noted_there f who (one ∷ callers) (suc n) at noted = noted_there f who callers n at noted

pub held_back : (c : Callers) (seen : Seen) (held : List Bool) (n : ℕ) (step : Step) → held ≡ held_in c seen.state
    → IsSomeAnd (slice_get c.callers.items n) (λ one. one.who.0 ≡ step.who.0) → unwrap_or (slice_get held n) false ≡ true → step_of c.as_picked seen n step ≡ None
held_back c seen held n step is at noted =
    blocked c.as_picked seen n step
    (noted_there (is_held c.as_picked seen.state) step.who.0 c.callers.items n at (ap (λ (all : List Bool). unwrap_or (slice_get all n) false) (sym is) ∙ noted))
