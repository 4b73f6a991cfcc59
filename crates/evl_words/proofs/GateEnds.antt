-- How a gate is made, and what is known when it is closed.
use Rattle.std.proofs.Common.{◌≡◌, ℕ, ◌*◌, ◌≤◌, List, [], ◌∷◌, cond, length, map, get_or, refl, sym, ap, ◌∙◌, subst, arith}
use Rattle.std.specs.Prelude.{None, is_some, count_by, sum_by, replicate, All}
use Rattle.std.proofs.lemmas.List.{length-replicate}
use Rattle.std.proofs.lemmas.List.Folds.{sum_by-replicate}
use Rattle.std.proofs.lemmas.List.Sums.{sum_by-cons}
use Rattle.std.proofs.lemmas.List.Elements.{All-map}
use Rattle.std.specs.List.{range_with_len}
use mathlib.Core.Option.{some}
use lib.ListN.{get_elem?}
use Rattle.atomic_table.specs.Table.{State, opening}
use Rattle.atomic_table.proofs.Lists.{at_map}
use Rattle.evl_words.specs.declared.gate.GateHold.{GateHold}
use Rattle.evl_words.specs.Machine.{Run}
use Rattle.evl_words.specs.History.{Fits}
use Rattle.evl_words.specs.Hands.{Hand, places_of, AreOf, hand_back}
use Rattle.evl_words.specs.Endings.{Ends, EndsWith}
use Rattle.evl_words.specs.Dealings.{Dealing, DealingEvent, DealingStep, Holds, opened_dealing}
use Rattle.evl_words.specs.Gate.{stage_held, open_gate}
use Rattle.evl_words.specs.GateWorld.{GateView, GateKind, IsGateWorld, gate_steps, gate_author, newcomer, hold}
use Rattle.evl_words.specs.GateRule.{GateRule, all_seats}
use Rattle.evl_words.specs.GateCalls.{SeatState, GateState, IsSeatOf, new_seat, place_of, Closes}
use Rattle.evl_words.proofs.Sequences.{at_replicate, map-replicate}
use Rattle.evl_words.proofs.Dealing.{deals_opening}
use Rattle.evl_words.proofs.Counting.{once_in, each_back, length_back, hand_sum, sum_back}
use Rattle.evl_words.proofs.Dealings.{dealings_hold}
use Rattle.evl_words.proofs.GateSteps.{step_keeps}

gate_opens : (limit seats : ℕ) → limit ≤ 1000 → IsGateWorld limit record { word = 0; log = []; views = replicate seats (newcomer limit) }
gate_opens limit seats bounded =
    let held : map (λ (v : GateView). v.held) (replicate seats (newcomer limit)) ≡ replicate seats (hold limit None) = map-replicate (λ (v : GateView). v.held) seats (newcomer limit) in record {
      state = open_gate;
      history = record {
        run = refl;
        fits = λ seat v at. subst (λ (u : GateView). Fits gate_author [] seat u) (at_replicate seats seat (newcomer limit) v at) record { seen = ([], refl); own = refl; known = refl };
        others = λ seat far. refl;
        tied = record {
          bounded = bounded;
          word = refl;
          holds = λ seat h at. sym (at_replicate seats seat (hold limit None) h (subst (λ l. get_elem? l seat ≡ some h) held at));
          count = let none : count_by (λ (h : GateHold). is_some h.stage) (replicate seats (hold limit None)) ≡ seats * 0 = sum_by-replicate _ seats (hold limit None) in
              let same = ap (λ l. count_by (λ (h : GateHold). is_some h.stage) l) held in omega arith;
        };
      };
    }

pub rule_opens : (limit seats : ℕ) → limit ≤ 1000 → GateRule {S = Unit {0}} limit seats (opening (0 ∷ []) [] (all_seats limit seats))
rule_opens limit seats bounded = record {
  views = replicate seats (newcomer limit);
  deals = deals_opening (replicate seats (newcomer limit));
  kept = record { one = refl; all = length-replicate seats (newcomer limit); kept = ([], gate_opens limit seats bounded) };
}

-- after any list of events from the opening
pub gate_law : (limit seats : ℕ) → limit ≤ 1000 → (events : List (DealingEvent GateKind)) (t : Dealing _ _) → Run (DealingStep gate_steps) (opened_dealing (replicate seats (newcomer limit))) events t → Holds (IsGateWorld limit) t
gate_law limit seats bounded = dealings_hold gate_steps (IsGateWorld limit) (step_keeps limit) (replicate seats (newcomer limit)) (gate_opens limit seats bounded)

-- A closed gate, where these seats were in one hand
pub gate_closes : (gate : GateState) (seats : List SeatState) (s : State (Unit {0}) (Hand GateView)) → (d : GateRule gate.limit gate.seats s) → AreOf d.views (hand_back place_of seats)
    → ((k : ℕ) → places_of k (hand_back place_of seats) ≤ 1) → Closes gate seats (get_or s.words 0 0)
gate_closes gate seats s d there once =
    let log = d.kept.kept.0 in
    let state = d.kept.kept.1.state in
    let h = d.kept.kept.1.history in
    let holds : GateView → ℕ = λ v. cond {A = ℕ} (is_some v.held.stage) 1 0 in record {
      log = log;
      state = state;
      run = h.run;
      word = h.tied.word;
      fits = each_back place_of (λ z. Fits gate_author log z.number z.view) d.views (λ z at. h.fits z.number z.view at) seats there;
      holds = each_back place_of (λ z. z.view.held ≡ hold gate.limit (stage_held z.number state.holders)) d.views (λ z at. h.tied.holds z.number z.view.held (at_map (λ (v : GateView). v.held) d.views z.number z.view at)) seats there;
      strangers = λ k far. h.others k (subst (λ n. n ≤ k) (sym d.kept.all) far);
      count = λ all.
          let enough : length d.views ≤ length (hand_back place_of seats) = omega (arith, d.kept.all, length_back place_of seats) in
          let sums : sum_by holds d.views ≡ sum_by (λ (z : SeatState). holds z.view) seats = sym (hand_sum holds (hand_back place_of seats) once d.views there enough) ∙ sum_back place_of holds seats in
          h.tied.count ∙ count_held d.views ∙ sums;
    }
  where
    count_held : (views : List GateView) → count_by (λ (h : GateHold). is_some h.stage) (map (λ (v : GateView). v.held) views) ≡ sum_by (λ (v : GateView). cond {A = ℕ} (is_some v.held.stage) 1 0) views
    count_held [] = refl
    count_held (v ∷ vs) = omega (
      arith,
      sum_by-cons (λ (h : GateHold). cond {A = ℕ} (is_some h.stage) 1 0) v.held (map (λ (u : GateView). u.held) vs),
      sum_by-cons (λ (u : GateView). cond {A = ℕ} (is_some u.held.stage) 1 0) v vs,
      count_held vs,
    )

pub ends_with : (gate : GateState) (seats : List SeatState) (word : ℕ) → EndsWith (GateRule gate.limit gate.seats) (hand_back place_of seats) word → Closes gate seats word
ends_with gate seats word e =
    let s = e.ends.state in
    let d = e.ends.kept in
    subst (λ n. Closes gate seats n) (sym e.ends.shown) (gate_closes gate seats s d (d.deals.same e.token (hand_back place_of seats) e.there) (once_in d.views s.views d.deals e.token (hand_back place_of seats) e.there))

-- the seats that a gate was made with are its seats
pub all_new : (gate : GateState) (a n : ℕ) → All (λ seat. IsSeatOf seat gate) (map (new_seat gate) (range_with_len a n))
all_new gate a n = All-map (λ seat. IsSeatOf seat gate) (new_seat gate) (range_with_len a n) (λ k d lt. record { table = refl; id = refl; limit = refl })
