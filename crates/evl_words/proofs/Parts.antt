-- A step of a token with one seat on a table of one word owes that word's part of the rule, and parts that lie in a list are changed each by itself.
use Rattle.std.proofs.Common.{◌≡◌, ℕ, zero, suc, ◌+◌, ◌≢◌, List, [], ◌∷◌, set, get_or, refl, sym, ap, ◌∙◌, subst, length-set, get_or-set_same, arith}
use Rattle.atomic_table.specs.Table.{Me, Step, Allows, keeps}
use Rattle.evl_words.specs.Hands.{Hand, Dealt, Told, place, first_view}
use Rattle.evl_words.specs.Parts.{Tells, PartTurns, OneWord, part_in, put_in}
use Rattle.evl_words.proofs.Dealing.{allows_at}

module _ {V : Type 0} (part : ℕ → List V → Type 0) where
  -- the same step, said otherwise
  pub turns_as : (k : ℕ) (v : V) (f g : ℕ → ℕ) (then then' : ℕ → V → Type 0) → ((n : ℕ) → f n ≡ g n) → ((found : ℕ) (u : V) → then found u → then' found u) → PartTurns part k v f then → PartTurns part k v g then'
  turns_as k v f g then then' same weaker turns found views kept at =
      let t = turns found views kept at in
      (t.0, subst (λ n. part n (set views k t.0)) (same found) t.1, weaker found t.0 t.2)

  -- what a step of a token with one seat and no slot owes in a table of one word
  pub allows_part : {S : Type 0} (seats slots id k : ℕ) (d : V) (me : Me S (Hand V)) → me ≡ (place k (first_view d me.0) ∷ [], []) → (f : ℕ → ℕ) (st : Step S) (then : Tells S V)
      → PartTurns part k (first_view d me.0) f (λ found u. then st k (first_view d me.0, []) found (u, []))
      → Allows (Dealt (OneWord part seats)) slots id me 0 f (Told then st me)
  allows_part seats slots id k d me one f st then turns = allows_at (OneWord part seats) slots id k d me one 0 f st then
      (λ words homes views kept len at below.
      let n : ℕ = get_or words 0 0 in
      let t = turns n views kept.kept at in
      let there = kept.one in (
        t.0,
        keeps,
        tt,
        record {
          one = length-set words 0 (f n) ∙ kept.one;
          all = length-set views k t.0 ∙ kept.all;
          kept = subst (λ m. part m (set views k t.0)) (sym (get_or-set_same words 0 (f n) 0 (omega arith))) t.1;
        },
        t.2,
      ))

-- the parts in a list are read and changed each by itself
module _ {P : Type 0} (blank : P) where
  pub part_in-put : (i : ℕ) (ps : List P) (p : P) → part_in blank i (put_in blank i ps p) ≡ p
  part_in-put zero [] p = refl
  part_in-put zero (q ∷ ps) p = refl
  part_in-put (suc i) [] p = part_in-put i [] p
  part_in-put (suc i) (q ∷ ps) p = part_in-put i ps p

  pub part_in-else : (i j : ℕ) (ps : List P) (p : P) → j ≢ i → part_in blank j (put_in blank i ps p) ≡ part_in blank j ps
  part_in-else zero zero ps p ne = absurd (ne refl)
  part_in-else zero (suc j) [] p ne = refl
  part_in-else zero (suc j) (q ∷ ps) p ne = refl
  part_in-else (suc i) zero [] p ne = refl
  part_in-else (suc i) zero (q ∷ ps) p ne = refl
  part_in-else (suc i) (suc j) [] p ne = part_in-else i j [] p (λ e. ne (ap suc e))
  part_in-else (suc i) (suc j) (q ∷ ps) p ne = part_in-else i j ps p (λ e. ne (ap suc e))
