-- Any list of steps keeps what each step of one seat keeps of a world; and each step on a word is one event.
use Rattle.std.proofs.Common.{◌≡◌, ℕ, List, [], ◌∷◌, ◌++◌, map, set, refl, sym, subst}
use mathlib.Core.Option.{some}
use lib.ListN.{get_elem?}
use Rattle.evl_words.specs.declared.history.View.{View}
use Rattle.evl_words.specs.declared.history.WordEntry.{WordEntry}
use Rattle.evl_words.specs.Machine.{Machine, IsStep, Run}
use Rattle.evl_words.specs.History.{Extends, view_of}
use Rattle.evl_words.specs.Events.{World, Steps, Event, Happens, IsWorld, Part, Does, seat_after, world_after}
use Rattle.evl_words.specs.Parts.{PartTurns}
use Rattle.evl_words.proofs.Machines.{run_keeps}
use Rattle.evl_words.proofs.Histories.{AllBy, advance, extends_of}

-- the world after a seat added entries
abbrev pub moved : {E H : Type 0} → World E H → ℕ → View E H → ℕ → List E → H → World E H
moved w k v n es held = record { word = n; log = w.log ++ es; views = set w.views k (view_of (w.log ++ es) (v.mine ++ es) held) }

module _ {E H S : Type 0} (author : E → ℕ) (step : S → E → S → Type 0) (opening : S) (tie : ℕ → S → List H → Type 0) where
  pub stands_moved : (w : World E H) (h : IsWorld author step opening tie w) (k : ℕ) (v : View E H) → get_elem? w.views k ≡ some v → (es : List E) → AllBy author k es → (t : S) → Run step h.state es t
      → (n : ℕ) (held : H) → tie n t (set (map (λ (u : View E H). u.held) w.views) k held) → IsWorld author step opening tie (moved w k v n es held)
  stands_moved w h k v at es own t run n held tied = record { state = t; history = advance author step opening (tie w.word) w.views w.log h.state h.history k v at es own t run held (tie n) tied }

  -- what the seat that added the entries knows
  pub extends_moved : (w : World E H) → IsWorld author step opening tie w → (k : ℕ) (v : View E H) → get_elem? w.views k ≡ some v → (n : ℕ) (es : List E) (held : H)
      → IsWorld author step opening tie (moved w k v n es held) → Extends author step opening k v es (view_of (w.log ++ es) (v.mine ++ es) held)
  extends_moved w h k v at n es held after = extends_of author step opening (tie w.word) (tie n) w.views w.log h.state after.state h.history k v at es held after.history

  module _ {K : Type 0} (steps : Steps E H K)
      (keeps : (w : World E H) → IsWorld author step opening tie w → (k : ℕ) (v : View E H) → get_elem? w.views k ≡ some v → (kind : K) → steps.may k v kind → IsWorld author step opening tie (world_after steps w k v kind)) where
    -- a step on the word is an event, and its seat learns so
    pub does_turn : (k : ℕ) (v : View E H) (kind : K) → steps.may k v kind
        → PartTurns (Part (IsWorld author step opening tie)) k v (λ n. steps.word n k v kind) (Does author step opening tie steps k v kind)
    does_turn k v kind may found views part at =
        let w : World E H = record { word = found; log = part.0; views = views } in
        let after = keeps w part.1 k v at kind may in
        let es = steps.entries found k v kind in (
          seat_after steps found part.0 k v kind,
          (part.0 ++ es, after),
          record {
            event = record { world = w; stands = part.1; at = at; may = may; shows = refl; after = refl };
            held = refl;
            extends = extends_moved w part.1 k v at (steps.word found k v kind) es (steps.held found k v kind) after;
            leads = (after.state, after.history.run, map (λ (u : View E H). u.held) (set views k (seat_after steps found part.0 k v kind)), after.history.tied);
          },
        )

    -- after any list of events
    pub events_keep : (w t : World E H) (events : List (Event K)) → IsWorld author step opening tie w → Run (Happens steps) w events t → IsWorld author step opening tie t
    events_keep w t events h run =
        run_keeps (Happens steps) (IsWorld author step opening tie) (λ s e u kept one. subst (IsWorld author step opening tie) (sym one.changed) (keeps s kept e.by one.view one.at e.kind one.may)) w t events h run

-- a machine's call as one entry
module _ {S C R H : Type 0} (machine : Machine S C R) (opening : S) (tie : ℕ → S → List H → Type 0) where
  abbrev pub by_of : WordEntry C R → ℕ
  by_of e = e.by

  pub call_stands : (w : World (WordEntry C R) H) (h : IsWorld by_of (IsStep machine) opening tie w) (k : ℕ) (v : View (WordEntry C R) H) → get_elem? w.views k ≡ some v
      → (call : C) → machine.may h.state k call → (reply : R) → machine.answer h.state k call ≡ reply → (n : ℕ) (held : H) → tie n (machine.after h.state k call) (set (map (λ (u : View (WordEntry C R) H). u.held) w.views) k held)
      → IsWorld by_of (IsStep machine) opening tie (moved w k v n (record { by = k; call = call; reply = reply } ∷ []) held)
  call_stands w h k v at call may reply answered n held tied =
      let e : WordEntry C R = record { by = k; call = call; reply = reply } in
      let t = machine.after h.state k call in
      let one : IsStep machine h.state e t = record { may = may; answered = sym answered; after = refl } in
      stands_moved by_of (IsStep machine) opening tie w h k v at (e ∷ []) (refl, tt) t (t, one, refl) n held tied
