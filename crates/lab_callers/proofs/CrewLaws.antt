-- A caller that leaves its place among the others and comes back.
use Rattle.std.proofs.Common.{◌≡◌, ℕ, zero, suc, ◌<◌, List, [], ◌∷◌, length, take, drop, refl, sym, ◌∙◌, ap, subst, arith}
use Rattle.std.specs.Prelude.{All, Bool, true, false, Result, Ok, Err, IfOk, OnOk, if◌then◌else◌, slice_index_or, slice_set}
use Rattle.std.specs.List.{insert, remove}
use Rattle.std.proofs.lemmas.List.Elements.{All-append, All-cons, All-drop, All-take}
use Rattle.std.proofs.lemmas.Option.{slice_get_read}
use Rattle.lab_callers.specs.Crews.{StepsAt}
use Rattle.evl_machine.specs.callers.Handles.{CallerState}

-- what comes to the place that was left is there instead
comes_back : {X : Type 0} (xs : List X) (k : ℕ) (x : X) → k < length xs → insert (remove xs k) k x ≡ slice_set xs k x
comes_back [] k x lt = absurd (omega arith)
comes_back (y ∷ ys) zero x lt = refl
comes_back {X = X} (y ∷ ys) (suc k) x lt = ap {B = List X} (λ zs. y ∷ zs) (comes_back ys k x (omega arith))

-- so a caller that left its place, did something, and comes back has made a step
pub back_at : {C : Type 0} (xs left later : List (CallerState C)) (k : ℕ) (before after : CallerState C) (does : CallerState C → CallerState C → Type 0) → k < length xs
    → before ≡ slice_index_or xs k before → left ≡ remove xs k → later ≡ insert left k after → does before after → StepsAt xs k does later
back_at xs left later k before after does lt read gone back done = record {
  before = before;
  after = after;
  there = slice_get_read xs (length xs) k before refl lt read;
  others = back ∙ ap (λ (l : List (CallerState _)). insert l k after) gone ∙ comes_back xs k after lt;
  done = done;
}

-- what all others are, and the one that comes to a place among them is, all are, also where there was no room
pub all_back : {X : Type 0} (P : X → Type 0) (xs ys : List X) (k : ℕ) (x : X) (room : Bool) → All P xs → P x → ys ≡ (if room then insert xs k x else xs) → All P ys
all_back P xs ys k x true all one is = subst (All P) (sym is) (All-append P (take k xs) (x ∷ drop k xs) (All-take P k xs all) (All-cons P x (drop k xs) one (All-drop P k xs all)))
all_back P xs ys k x false all one is = subst (All P) (sym is) all

-- from what an answer's value has, another property follows
pub ok_gives : {A E : Type 0} (P Q : A → Type 0) (r : Result A E) → IfOk r P → ((a : A) → P a → Q a) → IfOk r Q
ok_gives P Q (Ok a) has gives = gives a has
ok_gives P Q (Err e) has gives = tt

pub on_ok : {A E : Type 0} (P Q : Type 0) (r : Result A E) → OnOk r P → (P → Q) → OnOk r Q
on_ok P Q (Ok a) has gives = gives has
on_ok P Q (Err e) has gives = tt
