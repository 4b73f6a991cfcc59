-- A seat of a gate, as its callers see it, before and after a step.
use Rattle.std.proofs.Common.{◌≡◌, ◌≢◌, ℕ, [], ◌∷◌, get_or, refl, ap, ◌∙◌, subst}
use Rattle.std.specs.Prelude.{Option, Some, None, is_some, false, IsSome, MatchOption}
use Rattle.atomic_table.specs.Table.{Me, Step, Allows}
use Rattle.evl_base.specs.declared.stage.Stage.{Stage}
use Rattle.evl_base.specs.declared.refusal.Refusal.{Refusal}
use Rattle.evl_base.specs.declared.refusal.Refusal.TheVariants.{Again, Busy, Limit, Raced}
use Rattle.evl_words.specs.declared.gate.GateHold.{GateHold}
use Rattle.evl_words.specs.declared.gate.GateCall.{GateCall}
use Rattle.evl_words.specs.declared.gate.GateCall.TheVariants.{Enter}
use Rattle.evl_words.specs.declared.gate.GateReply.{GateReply}
use Rattle.evl_words.specs.declared.gate.GateReply.TheVariants.{Refused}
use Rattle.evl_words.specs.Hands.{Hand, place, Told}
use Rattle.evl_words.specs.Parts.{Tells}
use Rattle.evl_words.specs.Gate.{GateStep, open_gate}
use Rattle.evl_words.specs.GateWord.{word_refusal}
use Rattle.evl_words.specs.GateWorld.{GateView, GateKind, GateDoes, GateLooks, GateAppends, step_may, step_word, gate_author, gate_entry, hold, newcomer}
use Rattle.evl_words.specs.GateRule.{GateRule, GatePart, Shows, Finds, view_in}
use Rattle.evl_words.specs.GateCalls.{SeatState, AreAtGate, IsSameSeat, Calls, Races, FailsToEnter}
use Rattle.evl_words.proofs.Sequences.{prefix_refl, prefix_trans}
use Rattle.evl_words.proofs.Histories.{extends_after, seen_before}
use Rattle.evl_words.proofs.Dealing.{told_at}
use Rattle.evl_words.proofs.Parts.{turns_as, allows_part}
use Rattle.evl_words.specs.Looks.{TellsOfTwo}
use Rattle.evl_words.proofs.LookLaws.{see_one, two_apart}
use Rattle.evl_words.proofs.GateSteps.{gate_turn, holders_agree}

abbrev pub IsOneSeat : ℕ → Me (Unit {0}) (Hand GateView) → Type 0
IsOneSeat k me = me ≡ (place k (view_in me.0) ∷ [], [])

-- a step of this kind by a token with one seat
pub gate_allows : {S : Type 0} (limit seats slots id k : ℕ) (me : Me S (Hand GateView)) → me ≡ (place k (view_in me.0) ∷ [], []) → (kind : GateKind) → step_may k (view_in me.0) kind
    → (f : ℕ → ℕ) → ((n : ℕ) → step_word n k (view_in me.0) kind ≡ f n) → (st : Step S) (then : Tells S GateView)
    → ((found : ℕ) (u : GateView) → GateDoes (view_in me.0).held.limit k (view_in me.0) kind found u → then st k (view_in me.0, []) found (u, []))
    → Allows (GateRule limit seats) slots id me 0 f (Told then st me)
gate_allows limit seats slots id k me one kind may f same st then weaker =
    let v = view_in me.0 in
    allows_part (GatePart limit) seats slots id k (newcomer 0) me one f st then
    (turns_as (GatePart limit) k v (λ n. step_word n k v kind) f (GateDoes v.held.limit k v kind) (λ found u. then st k (v, []) found (u, [])) same weaker (gate_turn limit k v kind may))

pub gate_told : (k : ℕ) (me me' : Me (Unit {0}) (Hand GateView)) (st : Step (Unit {0})) (found : ℕ) (then : Tells (Unit {0}) GateView)
    → ((w : Me (Unit {0}) GateView) → then st k (view_in me.0, []) found w → w.1 ≡ []) → IsOneSeat k me → Told then st me found me'
    → IsOneSeat k me' × then st k (view_in me.0, []) found (view_in me'.0, [])
gate_told k me me' st found then slotless one told = told_at k (newcomer 0) me me' st found then slotless one told

pub races : (old new : SeatState) (stage : Stage) (first second : ℕ) → first ≢ second → word_refusal old.view.held.limit first stage ≡ None → word_refusal old.view.held.limit second stage ≡ None
    → Shows old.view.held.limit old.view.seen first → Finds old.number old.view stage second new.view → Races old stage first second new
races old new stage first second differ first_free second_free shown finds =
    let told : GateLooks old.view.held.limit old.number old.view new.view × Shows old.view.held.limit new.view.seen second =
    subst (λ o. MatchOption o (GateLooks old.view.held.limit old.number old.view new.view × Shows old.view.held.limit new.view.seen second) (λ refusal. GateAppends old.view.held.limit old.number old.view (Enter stage) (Refused refusal) new.view)) second_free finds.1 in record {
      differ = differ;
      first_free = first_free;
      second_free = second_free;
      earlier = old.view.seen;
      first_shown = shown;
      second_shown = told.1;
      seen_before = prefix_refl old.view.seen;
      seen_between = seen_before gate_author (GateStep old.view.held.limit) open_gate old.number old.view new.view [] told.0;
      looks = told.0;
    }

-- a call after a look is one call
pub calls_after : (old mid new : SeatState) (call : GateCall) (reply : GateReply) (stage : Option Stage) → IsSameSeat old mid → GateLooks old.view.held.limit old.number old.view mid.view
    → Calls mid call reply new stage → Calls old call reply new stage
calls_after old mid new call reply stage same look calls =
    let appends : GateAppends old.view.held.limit old.number mid.view call reply new.view = subst (λ (z : ℕ × ℕ). GateAppends z.0 z.1 mid.view call reply new.view) (λ i. (same.limit i, same.number i)) calls.appends in record {
      held = calls.held ∙ ap (λ l. hold l stage) same.limit;
      appends = extends_after gate_author (GateStep old.view.held.limit) open_gate old.number old.view mid.view new.view (gate_entry old.number call reply ∷ []) look appends;
    }

races_after : (old mid new : SeatState) (stage : Stage) (first second : ℕ) → IsSameSeat old mid → GateLooks old.view.held.limit old.number old.view mid.view → Races mid stage first second new → Races old stage first second new
races_after old mid new stage first second same look r = record {
  differ = r.differ;
  first_free = subst (λ l. word_refusal l first stage ≡ None) same.limit r.first_free;
  second_free = subst (λ l. word_refusal l second stage ≡ None) same.limit r.second_free;
  earlier = r.earlier;
  first_shown = subst (λ l. Shows l r.earlier first) same.limit r.first_shown;
  second_shown = subst (λ l. Shows l new.view.seen second) same.limit r.second_shown;
  seen_before = prefix_trans old.view.seen mid.view.seen r.earlier (seen_before gate_author (GateStep old.view.held.limit) open_gate old.number old.view mid.view [] look) r.seen_before;
  seen_between = r.seen_between;
  looks = extends_after gate_author (GateStep old.view.held.limit) open_gate old.number old.view mid.view new.view [] look (subst (λ (z : ℕ × ℕ). GateLooks z.0 z.1 mid.view new.view) (λ i. (same.limit i, same.number i)) r.looks);
}

pub fails_after : (old mid new : SeatState) (stage : Stage) (refusal : Refusal) → IsSameSeat old mid → GateLooks old.view.held.limit old.number old.view mid.view → mid.view.held ≡ old.view.held → old.view.held.stage ≡ None
    → FailsToEnter mid stage new refusal → FailsToEnter old stage new refusal
fails_after old mid new stage Again same look held free f = (free, calls_after old mid new (Enter stage) (Refused Again) None same look f.1)
fails_after old mid new stage Limit same look held free f = (free, calls_after old mid new (Enter stage) (Refused Limit) None same look f.1)
fails_after old mid new stage (Raced first second) same look held free f = (free, f.1 ∙ held, races_after old mid new stage first second same look f.2)
fails_after old mid new stage Busy same look held free f = let some : IsSome old.view.held.stage = subst (λ (h : GateHold). IsSome h.stage) held f.0 in absurd (let none : IsSome {T = Stage} None = rw free at some in cc)
fails_after old mid new stage _ same look held free f = f

pub is_none : (o : Option Stage) → is_some o ≡ false → o ≡ None
is_none None e = refl
is_none (Some s) e = cc

-- two seats of one token see one history, and hold the gate at one stage
pub two_at_gate : {S : Type 0} (limit seats : ℕ) → TellsOfTwo {S = S} (GateRule limit seats) AreAtGate
two_at_gate limit seats s id p q d at =
    let are = d.deals.same id (p ∷ q ∷ []) at in
    let part = d.kept.kept in record {
      apart = two_apart d.views s.views id p q d.deals at;
      history = see_one gate_author part.0 p.number q.number p.view q.view (part.1.history.fits p.number p.view are.0) (part.1.history.fits q.number q.view are.1.0);
      stage = holders_agree limit (record { word = get_or s.words 0 0; log = part.0; views = d.views }) part.1 p.number q.number p.view q.view are.0 are.1.0;
    }
