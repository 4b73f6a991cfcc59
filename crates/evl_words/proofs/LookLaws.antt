-- Two tokens are one for a moment and two again, and a look owes nothing.
use Rattle.std.proofs.Common.{◌≡◌, ◌≢◌, ◌⊎◌, inl, inr, ⊎_elim, ℕ, ◌+◌, ◌≤◌, eqb, eq-eqb, cond, List, [], ◌∷◌, ◌++◌, set, get_or, refl, sym, ap, ◌∙◌, subst, append_assoc, append-nil, arith}
use mathlib.Core.List.{IsPrefix}
use mathlib.Core.Option.{some}
use lib.ListN.{get_elem?}
use Rattle.atomic_table.specs.Table.{Allows, Me, State, Step, keeps}
use Rattle.atomic_table.proofs.Lists.{set_again}
use Rattle.evl_words.specs.declared.history.Place.{Place}
use Rattle.evl_words.specs.declared.history.View.{View}
use Rattle.evl_words.specs.Hands.{Hand, Deals, places_of}
use Rattle.evl_words.specs.History.{Fits, SeeOneHistory, entries_of}
use Rattle.evl_words.specs.Looks.{TellsOfTwo, looked}
use Rattle.evl_words.proofs.Dealing.{one_if, places_of-cons}
use Rattle.evl_words.proofs.Histories.{entries_of-append}
use Rattle.evl_words.proofs.Sequences.{total_set}

tails : {A : Type 0} {x y : A} {xs ys : List A} → x ∷ xs ≡ y ∷ ys → xs ≡ ys
tails h = cc

heads : {A : Type 0} {x y : A} {xs ys : List A} → x ∷ xs ≡ y ∷ ys → x ≡ y
heads h = cc

-- of two beginnings of a list one is the beginning of the other
pub beginnings : {A : Type 0} (xs us ys vs : List A) → xs ++ us ≡ ys ++ vs → ((ws : List A) × (ys ≡ xs ++ ws)) ⊎ ((ws : List A) × (xs ≡ ys ++ ws))
beginnings [] us ys vs e = inl (ys, refl)
beginnings (x ∷ xs) us [] vs e = inr (x ∷ xs, refl)
beginnings {A} (x ∷ xs) us (y ∷ ys) vs e = ⊎_elim
    (λ (t : (ws : List A) × (ys ≡ xs ++ ws)). inl (t.0, λ i. sym (heads e) i ∷ t.1 i))
    (λ (t : (ws : List A) × (xs ≡ ys ++ ws)). inr (t.0, λ i. heads e i ∷ t.1 i))
    (beginnings xs us ys vs (tails e))

none_more : {A : Type 0} (xs ws vs : List A) → (xs ++ ws) ++ vs ≡ xs → ws ≡ []
none_more [] [] vs e = refl
none_more [] (w ∷ ws) vs e = absurd (cc)
none_more (x ∷ xs) ws vs e = none_more xs ws vs (tails e)

-- All that is picked of a list, piece by piece: where the whole has nothing more of it than a beginning, no longer beginning has
pub picked_before : {A : Type 0} (pick : List A → List A) → ((xs ys : List A) → pick (xs ++ ys) ≡ pick xs ++ pick ys) → (whole less ws vs mine : List A) → whole ≡ (less ++ ws) ++ vs → pick whole ≡ mine → pick less ≡ mine → pick (less ++ ws) ≡ mine
picked_before {A} pick along whole less ws vs mine is all here =
    let split : pick whole ≡ (pick less ++ pick ws) ++ pick vs = ap pick is ∙ (along (less ++ ws) vs ∙ ap (λ (ps : List A). ps ++ pick vs) (along less ws)) in
    let none : pick ws ≡ [] = none_more (pick less) (pick ws) (pick vs) (sym split ∙ (all ∙ sym here)) in
    along less ws ∙ (ap (λ (ps : List A). pick less ++ ps) none ∙ (append-nil (pick less) ∙ here))

-- two seats that fit one history
module _ {E H : Type 0} (author : E → ℕ) where
  fits_longer : (log : List E) (j : ℕ) (u v : View E H) (ws : List E) → Fits author log j u → IsPrefix v.seen log → v.seen ≡ u.seen ++ ws → Fits author v.seen j u
  fits_longer log j u v ws f pre more = record {
    seen = (ws, sym more);
    own = ap (entries_of author j) more ∙ picked_before (entries_of author j) (entries_of-append author j) log u.seen ws pre.0 u.mine (sym pre.1 ∙ ap (λ (es : List E). es ++ pre.0) more) f.own f.known;
    known = f.known;
  }

  pub see_one : (log : List E) (j k : ℕ) (u v : View E H) → Fits author log j u → Fits author log k v → SeeOneHistory author j u k v
  see_one log j k u v f g = ⊎_elim
      (λ (e : (ws : List E) × (v.seen ≡ u.seen ++ ws)). inl (fits_longer log j u v e.0 f g.seen e.1))
      (λ (e : (ws : List E) × (u.seen ≡ v.seen ++ ws)). inr (fits_longer log k v u e.0 g f.seen e.1))
      (beginnings u.seen f.seen.0 v.seen g.seen.0 (f.seen.1 ∙ sym g.seen.1))

set_first : (ws : List ℕ) → set ws 0 (get_or ws 0 0) ≡ ws
set_first [] = refl
set_first (w ∷ ws) = refl

module _ {V : Type 0} where
  -- no seat is twice in a hand
  pub two_apart : (views : List V) (hands : List (Hand V)) (id : ℕ) (p q : Place V) → Deals views hands → get_elem? hands id ≡ some (p ∷ q ∷ []) → p.number ≢ q.number
  two_apart views hands id p q d at same =
      let k = q.number in
      let e = total_set (places_of k) hands id (p ∷ q ∷ []) [] at in
      let one : cond {A = ℕ} (eqb p.number k) 1 0 ≡ 1 = one_if (eqb p.number k) (eq-eqb p.number k same) in
      let two : cond {A = ℕ} (eqb q.number k) 1 0 ≡ 1 = one_if (eqb q.number k) (eq-eqb q.number k refl) in
      let a = places_of-cons k p (q ∷ []) in
      let b = places_of-cons k q [] in
      let o = d.once k in
      absurd (omega arith)

  module _ {S : Type 0} where
    pub looks_so : (holds : State S (Hand V) → Type 0) (together : Place V → Place V → Type 0) → TellsOfTwo holds together → (slots id : ℕ) (me : Me S (Hand V)) (st : Step S) → Allows holds slots id me 0 (λ n. n) (looked together st me)
    looks_so holds together tells slots id me st s kept len at below = (
      me.0,
      keeps,
      tt,
      subst holds (λ i. record { words = sym (set_first s.words) i; homes = s.homes; views = sym (set_again s.views id me.0 at) i }) kept,
      (refl, λ p q e. tells s id p q kept (at ∙ ap (λ (hand : Hand V). some hand) e)),
    )
