-- Things that are alike are the same.
use Rattle.std.proofs.Common.{◌≡◌, ℕ, ◌==◌, Bool, true, false, ◌&&◌, List, [], ◌∷◌, map, refl}
use Rattle.std.specs.Cmp.{booleans_Decides}
use Rattle.std.specs.Cmp.Lexicographic.{pointwise}
use Rattle.std.proofs.lemmas.Bool.{and_parts}
use Rattle.std.proofs.lemmas.Bool.Decides.{Decides-eqb}
use Rattle.std.proofs.lemmas.Slice.Eq.{slice_eq-Decides}
use Rattle.std.specs.Bool.{beq}
use Rattle.evl_base.specs.declared.numbers.MutexId.{MutexId}
use Rattle.evl_base.specs.declared.numbers.StaxId.{StaxId}
use Rattle.std.specs.Prelude.{Option, Some, None}
use Rattle.lab_step_orders.specs.declared.steps.Place.{Place}
use Rattle.lab_step_orders.specs.declared.steps.Place.TheVariants.{Begins, Found, Left, Claimed}
use Rattle.lab_step_orders.specs.declared.steps.Waiting.{Waiting}
use Rattle.lab_step_orders.specs.declared.steps.Waiting.TheVariants as wait

-- one by one
pub same_mapped : {A B : Type 0} (E : A → A → Bool) (f : A → B) → ((a b : A) → E a b ≡ true → f a ≡ f b) → (xs ys : List A) → pointwise E xs ys ≡ true → map f xs ≡ map f ys
same_mapped E f same [] [] e = refl
same_mapped E f same [] (y ∷ ys) e = cc
same_mapped E f same (x ∷ xs) [] e = cc
same_mapped E f same (x ∷ xs) (y ∷ ys) e =
    let both = and_parts (E x y) (pointwise E xs ys) e in
    cc (same x y both.0, same_mapped E f same xs ys both.1)

pub same_list : {A : Type 0} (E : A → A → Bool) → ((a b : A) → E a b ≡ true → a ≡ b) → (xs ys : List A) → pointwise E xs ys ≡ true → xs ≡ ys
same_list E same [] [] e = refl
same_list E same [] (y ∷ ys) e = cc
same_list E same (x ∷ xs) [] e = cc
same_list E same (x ∷ xs) (y ∷ ys) e =
    let both = and_parts (E x y) (pointwise E xs ys) e in
    cc (same x y both.0, same_list E same xs ys both.1)

pub same_parts : (m n : ℕ) (xs ys : List Bool) → ((m == n) && pointwise beq xs ys) ≡ true → (m ≡ n) × (xs ≡ ys)
same_parts m n xs ys e =
    let both = and_parts (m == n) (pointwise beq xs ys) e in
    ((Decides-eqb m n).0 both.0, (slice_eq-Decides booleans_Decides xs ys (pointwise beq xs ys) refl).0 both.1)

pub same_place : (E : Place → Place → Bool) → ((x y : StaxId) (m n : ℕ) → E (Found x m) (Found y n) ≡ true → Found x m ≡ Found y n) → ((x y : StaxId) → E (Left x) (Left y) ≡ true → Left x ≡ Left y)
    → ((x y : MutexId) → E (Claimed x) (Claimed y) ≡ true → Claimed x ≡ Claimed y)
    → ((y : StaxId) (n : ℕ) → E Begins (Found y n) ≡ false) → ((y : StaxId) → E Begins (Left y) ≡ false) → ((y : MutexId) → E Begins (Claimed y) ≡ false)
    → ((x : StaxId) (m : ℕ) → E (Found x m) Begins ≡ false) → ((x y : StaxId) (m : ℕ) → E (Found x m) (Left y) ≡ false) → ((x : StaxId) (y : MutexId) (m : ℕ) → E (Found x m) (Claimed y) ≡ false)
    → ((x : StaxId) → E (Left x) Begins ≡ false) → ((x y : StaxId) (n : ℕ) → E (Left x) (Found y n) ≡ false) → ((x : StaxId) (y : MutexId) → E (Left x) (Claimed y) ≡ false)
    → ((x : MutexId) → E (Claimed x) Begins ≡ false) → ((x : MutexId) (y : StaxId) (n : ℕ) → E (Claimed x) (Found y n) ≡ false) → ((x : MutexId) (y : StaxId) → E (Claimed x) (Left y) ≡ false)
    → (a b : Place) → E a b ≡ true → a ≡ b
same_place E found left claimed bf bl bc fb fl fc lb lf lc cb cf cl Begins Begins e = refl
same_place E found left claimed bf bl bc fb fl fc lb lf lc cb cf cl Begins (Found y n) e = cc (bf y n, e)
same_place E found left claimed bf bl bc fb fl fc lb lf lc cb cf cl Begins (Left y) e = cc (bl y, e)
same_place E found left claimed bf bl bc fb fl fc lb lf lc cb cf cl Begins (Claimed y) e = cc (bc y, e)
same_place E found left claimed bf bl bc fb fl fc lb lf lc cb cf cl (Found x m) Begins e = cc (fb x m, e)
same_place E found left claimed bf bl bc fb fl fc lb lf lc cb cf cl (Found x m) (Found y n) e = found x y m n e
same_place E found left claimed bf bl bc fb fl fc lb lf lc cb cf cl (Found x m) (Left y) e = cc (fl x y m, e)
same_place E found left claimed bf bl bc fb fl fc lb lf lc cb cf cl (Found x m) (Claimed y) e = cc (fc x y m, e)
same_place E found left claimed bf bl bc fb fl fc lb lf lc cb cf cl (Left x) Begins e = cc (lb x, e)
same_place E found left claimed bf bl bc fb fl fc lb lf lc cb cf cl (Left x) (Found y n) e = cc (lf x y n, e)
same_place E found left claimed bf bl bc fb fl fc lb lf lc cb cf cl (Left x) (Left y) e = left x y e
same_place E found left claimed bf bl bc fb fl fc lb lf lc cb cf cl (Left x) (Claimed y) e = cc (lc x y, e)
same_place E found left claimed bf bl bc fb fl fc lb lf lc cb cf cl (Claimed x) Begins e = cc (cb x, e)
same_place E found left claimed bf bl bc fb fl fc lb lf lc cb cf cl (Claimed x) (Found y n) e = cc (cf x y n, e)
same_place E found left claimed bf bl bc fb fl fc lb lf lc cb cf cl (Claimed x) (Left y) e = cc (cl x y, e)
same_place E found left claimed bf bl bc fb fl fc lb lf lc cb cf cl (Claimed x) (Claimed y) e = claimed x y e

pub same_wait : (E : Option Waiting → Option Waiting → Bool) → ((x y : MutexId) → E (Some (wait.Mutex x)) (Some (wait.Mutex y)) ≡ true → Some (wait.Mutex x) ≡ Some (wait.Mutex y))
    → ((y : MutexId) → E None (Some (wait.Mutex y)) ≡ false) → E None (Some wait.Element) ≡ false → ((x : MutexId) → E (Some (wait.Mutex x)) None ≡ false)
    → ((x : MutexId) → E (Some (wait.Mutex x)) (Some wait.Element) ≡ false) → E (Some wait.Element) None ≡ false → ((y : MutexId) → E (Some wait.Element) (Some (wait.Mutex y)) ≡ false)
    → (a b : Option Waiting) → E a b ≡ true → a ≡ b
same_wait E mutex nm ne mn me en em None None e = refl
same_wait E mutex nm ne mn me en em None (Some (wait.Mutex y)) e = cc (nm y, e)
same_wait E mutex nm ne mn me en em None (Some wait.Element) e = cc (ne, e)
same_wait E mutex nm ne mn me en em (Some (wait.Mutex x)) None e = cc (mn x, e)
same_wait E mutex nm ne mn me en em (Some (wait.Mutex x)) (Some (wait.Mutex y)) e = mutex x y e
same_wait E mutex nm ne mn me en em (Some (wait.Mutex x)) (Some wait.Element) e = cc (me x, e)
same_wait E mutex nm ne mn me en em (Some wait.Element) None e = cc (en, e)
same_wait E mutex nm ne mn me en em (Some wait.Element) (Some (wait.Mutex y)) e = cc (em y, e)
same_wait E mutex nm ne mn me en em (Some wait.Element) (Some wait.Element) e = refl
