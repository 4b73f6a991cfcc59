-- Runs of a machine, put together and taken apart.
use Rattle.std.proofs.Common.{◌≡◌, List, [], ◌∷◌, ◌++◌, refl, sym, ◌∙◌, subst}
use mathlib.Core.List.{IsPrefix}
use Rattle.evl_words.specs.declared.history.WordEntry.{WordEntry}
use Rattle.evl_words.specs.Machine.{Machine, IsStep, Run, IsLegal}

module _ {S E : Type 0} (step : S → E → S → Type 0) where
  pub run_append : (s t u : S) (xs ys : List E) → Run step s xs t → Run step t ys u → Run step s (xs ++ ys) u
  run_append s t u [] ys r q = subst (λ z. Run step z ys u) (sym r) q
  run_append s t u (x ∷ xs) ys r q = (r.0, r.1, run_append r.0 t u xs ys r.2 q)

  -- a run passes through a state after each of its beginnings
  pub run_split : (s u : S) (xs ys : List E) → Run step s (xs ++ ys) u → (t : S) × Run step s xs t × Run step t ys u
  run_split s u [] ys r = (s, refl, r)
  run_split s u (x ∷ xs) ys r = let q = run_split r.0 u xs ys r.2 in (q.0, (r.0, r.1, q.1), q.2)

  -- what each step keeps, each run keeps
  pub run_keeps : (P : S → Type 0) → ((s : S) (e : E) (t : S) → P s → step s e t → P t) → (s t : S) (es : List E) → P s → Run step s es t → P t
  run_keeps P keep s t [] h r = subst P r h
  run_keeps P keep s t (e ∷ es) h r = run_keeps P keep r.0 t es (keep s e r.0 h r.1) r.2

-- a machine ends in one state
pub run_same : {S C R : Type 0} (machine : Machine S C R) (s : S) (log : List (WordEntry C R)) (t u : S) → Run (IsStep machine) s log t → Run (IsStep machine) s log u → t ≡ u
run_same machine s [] t u r q = sym r ∙ q
run_same machine s (e ∷ es) t u r q =
    let same : r.0 ≡ q.0 = r.1.after ∙ sym q.1.after in
    run_same machine q.0 es t u (subst (λ z. Run (IsStep machine) z es t) same r.2) q.2
