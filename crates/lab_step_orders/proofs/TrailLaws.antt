-- The moments that a trail with a visit more leads to, and how long lists are with one element changed.
use Rattle.std.proofs.Common.{◌≡◌, ◌<◌, true, ℕ, suc, List, [], ◌∷◌, ◌++◌, length, map, refl, ap, ◌∙◌, sym}
use Rattle.std.specs.Prelude.{Option, Some, None, slice_set}
use Rattle.std.proofs.lemmas.Bool.{lt-ltb}
use Rattle.std.proofs.lemmas.List.{length-set}
use Rattle.evl_kernel.specs.state.States.{State}
use Rattle.lab_step_orders.specs.Cores.{core_after}
use Rattle.lab_step_orders.specs.Moments.{is_within, trail_after}
use Rattle.lab_step_orders.specs.Visits.{made, state_after, trailed}
use Rattle.lab_step_orders.specs.declared.crews.Crew.{Crew}
use Rattle.lab_step_orders.specs.declared.kernels.Visited.{Visited}
use Rattle.lab_step_orders.specs.declared.steps.CoreChange.{CoreChange}
use Rattle.lab_step_orders.specs.declared.steps.CoreChange.TheVariants.{Same, Takes, Ends, Gives}
use Rattle.lab_step_orders.specs.declared.steps.Taken.{Taken}
use Rattle.lab_step_orders.specs.declared.steps.Visit.{Visit}

trailed_more : (c : Crew) (s : State) (trail : List Visited) (v : Visited) → trailed c s (trail ++ v ∷ []) ≡ made c (trailed c s trail) v
trailed_more c s [] v = refl
trailed_more c s (w ∷ trail) v = trailed_more c (made c s w) trail v

pub trail_state : (c : Crew) (s : State) (trail : List Visited) (k : ℕ) (visit : Option Visit) → trailed c s (trail_after trail k visit) ≡ state_after c (trailed c s trail) k visit
trail_state c s trail k None = refl
trail_state c s trail k (Some visit) = trailed_more c s trail (record { who = k; visit = visit })

-- who has the core after a turn of a caller is one of them
pub core_within : (n k : ℕ) (change : CoreChange) (core : Option Taken) → k < n → is_within n core ≡ true → is_within n (core_after change k core) ≡ true
core_within n k Same core lt e = e
core_within n k Takes core lt e = lt-ltb k n lt
core_within n k Ends core lt e = lt-ltb k n lt
core_within n k Gives core lt e = refl

-- a list that is another with one element changed is as long as that
pub as_long : {A : Type 0} (xs ys : List A) (i n : ℕ) (x : A) → xs ≡ slice_set ys i x → length ys ≡ n → length xs ≡ n
as_long {A} xs ys i n x is long = ap (λ (l : List A). length l) is ∙ (length-set ys i x ∙ long)

mapped : {A B : Type 0} (f : A → B) (xs : List A) → length (map f xs) ≡ length xs
mapped f [] = refl
mapped f (x ∷ xs) = ap suc (mapped f xs)

pub as_long_mapped : {A B : Type 0} (f : A → B) (xs ys : List A) (i n : ℕ) (x : B) → map f xs ≡ slice_set (map f ys) i x → length ys ≡ n → length xs ≡ n
as_long_mapped f xs ys i n x is long = sym (mapped f xs) ∙ as_long (map f xs) (map f ys) i n x is (mapped f ys ∙ long)
