-- The first orders to where something holds, one step more.
use Rattle.std.proofs.Common.{◌≡◌, ℕ, suc, ◌+◌, ◌*◌, Bool, true, false, cond, inl, inr, List, [], ◌∷◌, ◌++◌, length, refl, sym, ◌∙◌, ap, subst, arith, zero-add, length-append}
use Rattle.std.specs.Prelude.{All}
use Rattle.std.specs.List.{AllByRecursion}
use Rattle.std.proofs.lemmas.List.Elements.{All-head, All-tail, All-from_recursion}
use Rattle.std.proofs.lemmas.List.Sums.{sum_by-cons}
use Rattle.lab_orders.specs.Machines.{Machine, Run, runs}
use Rattle.lab_orders.specs.Weights.{total, weight}
use Rattle.lab_orders.specs.Firsts.{AreFirsts, HoldsAfterNone, IsFirst}
use Rattle.lab_orders.specs.Fronts.{StandFor}
use Rattle.lab_orders.specs.declared.firsts.First.{First}
use Rattle.lab_orders.specs.declared.firsts.First.TheVariants.{Nowhere}
use Rattle.lab_orders.specs.declared.nodes.Node.{Node}
use Rattle.lab_orders.proofs.EveryRun.{below_or_at}

-- 1 where it holds
abbrev pub one_if : Bool → ℕ
one_if b = cond b 1 0

abbrev pub one_where : {S : Type 0} → (S → Bool) → S → ℕ
one_where holds s = one_if (holds s)

none_of : (b : Bool) → one_if b ≡ 0 → b ≡ false
none_of true e = absurd (omega (arith, e))
none_of false e = refl

none_here : (k : ℕ) (b : Bool) → b ≡ false → k * one_if b ≡ 0
none_here k true e = cc
none_here k false e = omega arith

pub no_weight : {M S : Type 0} (state : M → S) (holds : S → Bool) (nodes : List (Node M)) → All (λ node. holds (state node.at) ≡ false) nodes
    → weight state (one_where holds) nodes ≡ 0
no_weight state holds [] all = refl
no_weight {M} {S} state holds (node ∷ nodes) all =
    omega (
      arith,
      sum_by-cons (λ (n : Node M). n.count * one_where holds (state n.at)) node nodes,
      none_here node.count (holds (state node.at)) (All-head (λ (n : Node M). holds (state n.at) ≡ false) node nodes all),
      no_weight state holds nodes (All-tail (λ (n : Node M). holds (state n.at) ≡ false) node nodes all),
    )

quiet : {S : Type 0} (holds : S → Bool) (rs : List (Run S)) → total (one_where holds) rs ≡ 0 → AllByRecursion (λ r. holds r.at ≡ false) rs
quiet holds [] none = tt
quiet {S} holds (r ∷ rs) none =
    let each : total (one_where holds) (r ∷ rs) ≡ one_where holds r.at + total (one_where holds) rs = sum_by-cons (λ (q : Run S). one_where holds q.at) r rs in
    (none_of (holds r.at) (omega (arith, each, none)), quiet holds rs (omega (arith, each, none)))

module _ {M S : Type 0} (m : Machine S) (state : M → S) (s : S) where
  -- where it holds at none of the nodes, it does after no run
  holds_after_none : (holds : S → Bool) (k : ℕ) (nodes : List (Node M)) → StandFor m state s k nodes → All (λ node. holds (state node.at) ≡ false) nodes
      → HoldsAfterNone m s holds k
  holds_after_none holds k nodes stand none =
      All-from_recursion (λ (r : Run S). holds r.at ≡ false) (runs m s k) (quiet holds (runs m s k) (sym (stand (one_where holds)) ∙ no_weight state holds nodes none))

  pub none_more : (holds : S → Bool) (k : ℕ) (nodes : List (Node M)) → StandFor m state s k nodes → All (λ node. holds (state node.at) ≡ false) nodes
      → IsFirst m s holds k Nowhere → IsFirst m s holds (k + 1) Nowhere
  none_more holds k nodes stand none sooner = λ j lt.
      elim (below_or_at k j (omega (arith, lt))) as (λ v. HoldsAfterNone m s holds j) [
        | inl below ↦ sooner j below
        | inr e ↦ subst (HoldsAfterNone m s holds) (sym e) (holds_after_none holds k nodes stand none)
      ]

module _ {S : Type 0} (m : Machine S) (s : S) (holds : ℕ → S → Bool) where
  -- before any step
  pub none_yet : (n : ℕ) (firsts : List First) → All (λ first. first ≡ Nowhere) firsts → AreFirsts m s holds 0 n firsts
  none_yet n [] all = tt
  none_yet n (first ∷ firsts) all = (
    subst (IsFirst m s (holds n) 0) (sym (All-head (λ (f : First). f ≡ Nowhere) first firsts all)) (λ k lt. absurd (omega (arith, lt))),
    none_yet (n + 1) firsts (All-tail (λ (f : First). f ≡ Nowhere) first firsts all),
  )

  -- one question more
  pub firsts_push : (steps n : ℕ) (done : List First) (first : First) → AreFirsts m s holds steps n done → IsFirst m s (holds (n + length done)) steps first
      → AreFirsts m s holds steps n (done ++ first ∷ [])
  firsts_push steps n [] first all is = (subst (λ i. IsFirst m s (holds i) steps first) (add_none n) is, tt)
    where
      add_none : (n : ℕ) → n + 0 ≡ n
      add_none n = omega arith
  firsts_push steps n (one ∷ done) first all is = (
    all.0,
    firsts_push steps (n + 1) done first all.1 (subst (λ i. IsFirst m s (holds i) steps first) (along n (length done)) is),
  )
    where
      along : (n k : ℕ) → n + suc k ≡ n + 1 + k
      along n k = omega arith

  -- the question at hand, of those that are left
  pub one_question : (steps question : ℕ) (done rest others new : List First) (first found : First) → question ≡ length done → rest ≡ first ∷ others → new ≡ done ++ found ∷ []
      → (IsFirst m s (holds question) steps first → IsFirst m s (holds question) (steps + 1) found)
      → AreFirsts m s holds (steps + 1) 0 done × AreFirsts m s holds steps (length done) rest
      → AreFirsts m s holds (steps + 1) 0 new × AreFirsts m s holds steps (length new) others
  one_question steps question done rest others new first found at is made more both =
      let here = subst (AreFirsts m s holds steps (length done)) is both.1 in
      let there = more (subst (λ i. IsFirst m s (holds i) steps first) (sym at) here.0) in
      let long : length done + 1 ≡ length new = omega (arith, ap length made, length-append done (found ∷ [])) in (
        subst (AreFirsts m s holds (steps + 1) 0) (sym made)
            (firsts_push (steps + 1) 0 done found both.0 (subst (λ i. IsFirst m s (holds i) (steps + 1) found) (at ∙ sym (zero-add (length done))) there)),
        subst (λ i. AreFirsts m s holds steps i others) long here.1,
      )

  -- the same, by what is known of them
  pub firsts_at : (steps found : ℕ) (firsts told : List First) → AreFirsts m s holds steps 0 firsts → told ≡ firsts → found ≡ steps → AreFirsts m s holds found 0 told
  firsts_at steps found firsts told are same step =
      subst (λ k. AreFirsts m s holds k 0 told) (sym step) (subst (AreFirsts m s holds steps 0) (sym same) are)

pub one_left : (done rest others new firsts : List First) (first found : First) → length done + length rest ≡ length firsts → rest ≡ first ∷ others → new ≡ done ++ found ∷ []
    → length new + length others ≡ length firsts
one_left done rest others new firsts first found count is made = omega (arith, count, ap length is, ap length made, length-append done (found ∷ []))
