-- The report of a run over a bank is that of each run over the same bank.
use Rattle.std.proofs.Common.{◌≡◌, ℕ, List, [], Some, Result, Ok, Err, OnOk, IfErr, ◌++◌, sym, ap, subst}
use Rattle.evl_scenario.specs.declared.faults.Fault.{Fault}
use Rattle.evl_scenario.specs.declared.faults.Fault.TheVariants.{Text, Board, Step, Memory, Write}
use Rattle.evl_scenario.specs.Faults.{IsRefusal}
use Rattle.evl_shell.specs.Faults.{Writes}
use Rattle.evl_plans.specs.Traces.{Runs}

pub done : (trace : Result (List ℕ) Fault) (old new : List ℕ) → old ≡ [] → Writes (Some old) (Some new) trace → trace ≡ Ok new
done (Ok text) old new empty appends = sym (ap (λ (bytes : List ℕ). Ok bytes) (subst (λ (front : List ℕ). new ≡ front ++ text) empty appends))
done (Err fault) old new empty appends = absurd appends

module _ {B : Type 0} (trace : B → Result (List ℕ) Fault) (one other : B) (same : one ≡ other) (X : Type 0) (old new : List ℕ) (empty : old ≡ []) where
  pub runs : (end : Result (Unit {0}) Fault) → OnOk end (Writes (Some old) (Some new) (trace one)) → IfErr end (λ e. IsRefusal e → (trace one ≡ Err e) × X) → Runs (trace other) new end
  runs (Ok unit) wrote refused = subst (λ (b : B). trace b ≡ Ok new) same (done (trace one) old new empty wrote)
  runs (Err Text) wrote refused = subst (λ (b : B). trace b ≡ Err Text) same (refused tt).0
  runs (Err Board) wrote refused = subst (λ (b : B). trace b ≡ Err Board) same (refused tt).0
  runs (Err (Step n)) wrote refused = subst (λ (b : B). trace b ≡ Err (Step n)) same (refused tt).0
  runs (Err Memory) wrote refused = tt
  runs (Err Write) wrote refused = tt
