-- One seat adds entries to the common history. Each step on a word adds one entry, or none.
use Rattle.std.proofs.Common.{◌≡◌, ℕ, ◌≤◌, ◌<◌, ◌≢◌, eqb, eq-eqb, ne_eqb, List, [], ◌∷◌, ◌++◌, length, map, set, refl, sym, ap, ◌∙◌, subst, ⊎_elim, append_assoc, append-nil, length-set, arith}
use Rattle.std.proofs.lemmas.List.Elements.{filter-append}
use mathlib.Core.List.{IsPrefix}
use mathlib.Core.Option.{some}
use lib.ListN.{get_elem?}
use Rattle.atomic_table.proofs.Lists.{at_set, set_here}
use Rattle.evl_words.specs.declared.history.View.{View}
use Rattle.evl_words.specs.Machine.{Run}
use Rattle.evl_words.specs.History.{entries_of, Fits, History, Extends, view_of}
use Rattle.evl_words.proofs.Machines.{run_append}
use Rattle.evl_words.proofs.Sequences.{at_below, prefix_refl, prefix_more, map-set, append_same}

module _ {E : Type 0} (author : E → ℕ) where
  -- all entries are of the seat
  abbrev pub AllBy : ℕ → List E → Type 0
  AllBy k [] = Unit {0}
  AllBy k (e ∷ es) = (author e ≡ k) × AllBy k es

  entries_of-own : (k : ℕ) (es : List E) → AllBy k es → entries_of author k es ≡ es
  entries_of-own k [] h = refl
  entries_of-own k (e ∷ es) h = rw (eq-eqb (author e) k h.0) (ap (λ l. e ∷ l) (entries_of-own k es h.1))

  entries_of-other : (k j : ℕ) (es : List E) → AllBy k es → j ≢ k → entries_of author j es ≡ []
  entries_of-other k j [] h ne = refl
  entries_of-other k j (e ∷ es) h ne = rw (ne_eqb (author e) j (λ q. ne (sym q ∙ h.0))) (entries_of-other k j es h.1 ne)

  pub entries_of-append : (k : ℕ) (xs ys : List E) → entries_of author k (xs ++ ys) ≡ entries_of author k xs ++ entries_of author k ys
  entries_of-append k xs ys = filter-append (λ e. eqb (author e) k) xs ys

  module _ {S H : Type 0} (step : S → E → S → Type 0) (opening : S) (tie : S → List H → Type 0) where
    -- A seat adds entries that take the machine from its state to another, and the last state is tied to what the seats then hold
    pub advance : (views : List (View E H)) (log : List E) (state : S) (h : History author step opening tie log state views) (k : ℕ) (v : View E H) → get_elem? views k ≡ some v
        → (es : List E) → AllBy k es → (t : S) → Run step state es t → (held : H) → (tie' : S → List H → Type 0) → tie' t (set (map (λ (w : View E H). w.held) views) k held)
        → History author step opening tie' (log ++ es) t (set views k (view_of (log ++ es) (v.mine ++ es) held))
    advance views log state h k v at es own t run held tie' tied =
        let here : k < length views = at_below views k v at in
        let w = view_of (log ++ es) (v.mine ++ es) held in
        let mine : entries_of author k (log ++ es) ≡ v.mine ++ es = entries_of-append k log es ∙ ap (λ l. l ++ entries_of author k es) (h.fits k v at).own ∙ ap (λ l. v.mine ++ l) (entries_of-own k es own) in record {
          run = run_append step opening state t log es h.run run;
          fits = λ j u at_j. ⊎_elim
              (λ (same : (j ≡ k) × (w ≡ u)). subst (λ (z : View E H). Fits author (log ++ es) j z) same.1 (subst (λ (i : ℕ). Fits author (log ++ es) i w) (sym same.0) record {
                seen = prefix_refl (log ++ es);
                own = mine;
                known = mine;
              }))
              (λ (else : (j ≢ k) × (get_elem? views j ≡ some u)). record {
                seen = prefix_more u.seen log es (h.fits j u else.1).seen;
                own = entries_of-append j log es ∙ ap (λ l. l ++ entries_of author j es) (h.fits j u else.1).own ∙ ap (λ l. u.mine ++ l) (entries_of-other k j es own else.0) ∙ append-nil u.mine;
                known = (h.fits j u else.1).known;
              })
              (at_set views k j w u at_j);
          others = λ j far.
              let far' : length views ≤ j = subst (λ n. n ≤ j) (length-set views k w) far in
              let ne : j ≢ k = λ e. absurd (omega arith) in
              entries_of-append j log es ∙ ap (λ l. l ++ entries_of author j es) (h.others j far') ∙ entries_of-other k j es own ne;
          tied = subst (λ l. tie' t l) (sym (map-set (λ (u : View E H). u.held) views k w)) tied;
        }

-- what the seat that added the entries knows
pub extends_of : {E S H : Type 0} (author : E → ℕ) (step : S → E → S → Type 0) (opening : S) (tie tie' : S → List H → Type 0) (views : List (View E H)) (log : List E) (state t : S) → History author step opening tie log state views
    → (k : ℕ) (v : View E H) → get_elem? views k ≡ some v → (es : List E) (held : H) → History author step opening tie' (log ++ es) t (set views k (view_of (log ++ es) (v.mine ++ es) held))
    → Extends author step opening k v es (view_of (log ++ es) (v.mine ++ es) held)
extends_of author step opening tie tie' views log state t h k v at es held after =
    let pre = (h.fits k v at).seen in
    let u = view_of (log ++ es) (v.mine ++ es) held in record {
      between = pre.0;
      seen = ap (λ l. l ++ es) (sym pre.1);
      legal = (t, after.run);
      mine = refl;
      own = (after.fits k u (set_here views k u (at_below views k v at))).own;
    }

module _ {E S H : Type 0} (author : E → ℕ) (step : S → E → S → Type 0) (opening : S) (k : ℕ) where
  pub seen_before : (v w : View E H) (es : List E) → Extends author step opening k v es w → IsPrefix v.seen w.seen
  seen_before v w es x = (x.between ++ es, sym (append_assoc v.seen x.between es) ∙ sym x.seen)

  -- a look, and then entries
  pub extends_after : (u v w : View E H) (es : List E) → Extends author step opening k u [] v → Extends author step opening k v es w → Extends author step opening k u es w
  extends_after u v w es l a =
      let seen : v.seen ≡ u.seen ++ l.between = l.seen ∙ append-nil (u.seen ++ l.between) in record {
        between = l.between ++ a.between;
        seen = a.seen ∙ ap (λ xs. (xs ++ a.between) ++ es) seen ∙ ap (λ xs. xs ++ es) (append_assoc u.seen l.between a.between);
        legal = a.legal;
        mine = a.mine ∙ ap (λ xs. xs ++ es) (l.mine ∙ append-nil u.mine);
        own = a.own;
      }

-- since a seat last looked, only others made entries
pub rest_by_others : {E H : Type 0} (author : E → ℕ) (k : ℕ) (log : List E) (v : View E H) → (fits : Fits author log k v) → entries_of author k fits.seen.0 ≡ []
rest_by_others author k log v fits =
    let all = sym (entries_of-append author k v.seen fits.seen.0) ∙ ap (entries_of author k) fits.seen.1 ∙ fits.own in
    append_same v.mine (entries_of author k fits.seen.0) (ap (λ l. l ++ entries_of author k fits.seen.0) (sym fits.known) ∙ all)

-- what the steps of others keep, a run without the seat's entries keeps
pub run_of_others : {E S : Type 0} (author : E → ℕ) (step : S → E → S → Type 0) (P : S → Type 0) (k : ℕ) → ((s : S) (e : E) (t : S) → author e ≢ k → P s → step s e t → P t)
    → (s t : S) (es : List E) → entries_of author k es ≡ [] → P s → Run step s es t → P t
run_of_others author step P k keep s t [] none h r = subst P r h
run_of_others author step P k keep s t (e ∷ es) none h r =
    let ne : author e ≢ k = λ same. (let q : e ∷ entries_of author k es ≡ [] = rw (eq-eqb (author e) k same) at none in cc) in
    let rest : entries_of author k es ≡ [] = rw (ne_eqb (author e) k ne) at none in
    run_of_others author step P k keep r.0 t es rest (keep s e r.0 ne h r.1) r.2
