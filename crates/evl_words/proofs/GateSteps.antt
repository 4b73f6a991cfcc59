-- Each step on a gate's word keeps what holds of its world.
use Rattle.std.proofs.Common.{◌≡◌, ℕ, suc, ◌+◌, ◌-◌, ◌%◌, ◌^◌, ◌<◌, ◌≢◌, eqb, eq-eqb, ne_eqb, Bool, true, false, List, [], ◌∷◌, length, map, set, refl, sym, ap, ◌∙◌, subst, ⊎_elim, arith}
use Rattle.std.specs.Prelude.{Option, Some, None, is_some, IsSome, count_by, All, bit_and, bit_or, MatchBool, MatchOption, ◌==◌, if◌then◌else◌}
use Rattle.std.proofs.lemmas.List.Elements.{All-head, All-tail}
use mathlib.Core.Logic.{dite}
use mathlib.Core.Option.{some}
use native.Mathlib.Decide.{ℕ_discrete}
use lib.ListN.{get_elem?}
use prog.Atomic.{either}
use Rattle.atomic_table.proofs.Lists.{at_set, at_map, set_again}
use Rattle.evl_base.specs.declared.stage.Stage.{Stage}
use Rattle.evl_base.specs.declared.refusal.Refusal.{Refusal}
use Rattle.evl_words.specs.declared.gate.GateHold.{GateHold}
use Rattle.evl_words.specs.declared.gate.GateCall.{GateCall}
use Rattle.evl_words.specs.declared.gate.GateCall.TheVariants.{Enter, Leave, Claim, Unclaim, Peek}
use Rattle.evl_words.specs.declared.gate.GateReply.{GateReply}
use Rattle.evl_words.specs.declared.gate.GateReply.TheVariants.{Entered, Refused, Left, Done, Shown}
use Rattle.evl_words.specs.declared.gate.Left.TheVariants.{Last, Others}
use Rattle.evl_words.specs.History.{Extends}
use Rattle.evl_words.specs.Events.{LeadsTo}
use Rattle.evl_words.specs.Parts.{PartTurns}
use Rattle.evl_words.specs.Gate.{Gate, Holder, GateStep, open_gate, stage_held, gate_machine, gate_may, gate_answer, gate_change, entry_refusal, gate_after, answer_to}
use Rattle.evl_words.specs.GateWord.{packed_gate, word_of, word_refusal, entered_word, left_in, count_in, stage_in, mark_in}
use Rattle.evl_words.specs.GateWorld.{GateView, GateWorld, GateTie, GateKind, IsGateWorld, GateDoes, GateLooks, GateAppends, looks, exchanges, leaves, claims, unclaims, peeks, step_may, step_word, refused_entries, gate_steps, gate_author, gate_entry, hold}
use Rattle.evl_words.specs.GateRule.{GatePart, Shows, Finds, Enters}
use Rattle.evl_words.proofs.Sequences.{total_set}
use Rattle.evl_words.proofs.Events.{moved, stands_moved, call_stands, does_turn}
use Rattle.evl_words.proofs.GateWords.{count_in-packed, stage_in-packed, mark_in-packed, bit_or-packed, bit_and-packed, minus_one-packed}
use Rattle.evl_words.proofs.GateLaws.{IsSound, run_sound, length-without, stage_held-without, stage_held-change, length-change, one_for}

module _ (limit : ℕ) where
  tie_after : (found : ℕ) (g : Gate) (held : List GateHold) (k : ℕ) (old : GateHold) → get_elem? held k ≡ some old → GateTie limit found g held
      → (t : Gate) (n : ℕ) → n ≡ word_of t → ((j : ℕ) → j ≢ k → stage_held j t.holders ≡ stage_held j g.holders)
      → length t.holders + one_for (stage_held k g.holders) ≡ length g.holders + one_for (stage_held k t.holders)
      → GateTie limit n t (set held k (hold limit (stage_held k t.holders)))
  tie_after found g held k old at tie t n shows others changes =
      let new = hold limit (stage_held k t.holders) in
      let was : one_for old.stage ≡ one_for (stage_held k g.holders) = ap (λ (h : GateHold). one_for h.stage) (tie.holds k old at) in record {
        bounded = tie.bounded;
        word = shows;
        holds = λ j h at_j. ⊎_elim
            (λ (same : (j ≡ k) × (new ≡ h)). sym same.1 ∙ ap (λ (i : ℕ). hold limit (stage_held i t.holders)) (sym same.0))
            (λ (other : (j ≢ k) × (get_elem? held j ≡ some h)). tie.holds j h other.1 ∙ ap (λ s. hold limit s) (sym (others j other.0)))
            (at_set held k j new h at_j);
        count = let e = total_set (λ (h : GateHold). one_for h.stage) held k old new at in let c = tie.count in omega arith;
      }

  module _ (w : GateWorld) (h : IsGateWorld limit w) where
    abbrev g : Gate
    g = h.state

    sound : IsSound limit g
    sound = run_sound limit g w.log h.history.run

    small : length g.holders < 65536
    small = let b = h.history.tied.bounded in omega (arith, sound.within)

    shown : w.word ≡ word_of g
    shown = h.history.tied.word

    pub count_found : count_in w.word ≡ length g.holders
    count_found = ap (λ n. count_in n) shown ∙ count_in-packed (length g.holders) g.stage g.marked small

    pub stage_found : stage_in w.word ≡ g.stage
    stage_found = ap (λ n. stage_in n) shown ∙ stage_in-packed (length g.holders) g.stage g.marked small

    mark_found : mark_in w.word ≡ g.marked
    mark_found = ap (λ n. mark_in n) shown ∙ mark_in-packed (length g.holders) g.stage g.marked small

    module _ (k : ℕ) (v : GateView) (at : get_elem? w.views k ≡ some v) where
      held_at : get_elem? (map (λ (u : GateView). u.held) w.views) k ≡ some v.held
      held_at = at_map (λ (u : GateView). u.held) w.views k v at

      -- what the seat holds is what the history says
      holding : v.held ≡ hold limit (stage_held k g.holders)
      holding = h.history.tied.holds k v.held held_at

      pub limit_is : v.held.limit ≡ limit
      limit_is = ap (λ (z : GateHold). z.limit) holding

      pub stage_is : v.held.stage ≡ stage_held k g.holders
      stage_is = ap (λ (z : GateHold). z.stage) holding

      -- what the word says of a seat that wants in is what the gate says
      refusal_found : (stage : Stage) → word_refusal v.held.limit w.word stage ≡ entry_refusal limit (length g.holders) g.stage stage
      refusal_found stage = λ i. entry_refusal (limit_is i) (count_found i) (stage_found i) stage

      -- a call adds its entry
      adds : (call : GateCall) → gate_may g k call → (reply : GateReply) → gate_answer limit g k call ≡ reply → (n : ℕ) → n ≡ word_of (gate_change limit g k call)
          → (held : GateHold) → hold limit (stage_held k (gate_change limit g k call).holders) ≡ held → IsGateWorld limit (moved w k v n (gate_entry k call reply ∷ []) held)
      adds call may reply answered n shows held same =
          let t = gate_change limit g k call in
          call_stands (gate_machine limit) open_gate (GateTie limit) w h k v at call may reply answered n held
          (subst (λ z. GateTie limit n t (set (map (λ (u : GateView). u.held) w.views) k z)) same
          (tie_after w.word g (map (λ (u : GateView). u.held) w.views) k v.held held_at h.history.tied t n shows (λ j ne. stage_held-change limit g k j call ne) (length-change limit g k call may sound)))

      -- the seat sees the history so far, and the word stays
      sees : IsGateWorld limit (moved w k v w.word [] v.held)
      sees = stands_moved gate_author (GateStep limit) open_gate (GateTie limit) w h k v at [] tt g refl w.word v.held
          (subst (λ l. GateTie limit w.word g l) (sym (set_again (map (λ (u : GateView). u.held) w.views) k v.held held_at)) h.history.tied)

      free : v.held.stage ≡ None → stage_held k g.holders ≡ None
      free none = sym stage_is ∙ none

      abbrev entering : Stage → Gate
      entering stage = record { stage = stage; holders = record { seat = k; stage = stage } ∷ g.holders; marked = g.marked }

      abbrev finding : Stage → Option Refusal → GateWorld
      finding stage r = moved w k v w.word (refused_entries k stage r) v.held

      finds : (stage : Stage) → v.held.stage ≡ None → IsGateWorld limit (finding stage (word_refusal v.held.limit w.word stage))
      finds stage none = go (entry_refusal limit (length g.holders) g.stage stage) refl
        where
          go : (r : Option Refusal) → entry_refusal limit (length g.holders) g.stage stage ≡ r → IsGateWorld limit (finding stage (word_refusal v.held.limit w.word stage))
          go None e = subst (λ o. IsGateWorld limit (finding stage o)) (sym (refusal_found stage ∙ e)) sees
          go (Some refusal) e =
              let stays : gate_change limit g k (Enter stage) ≡ g = ap (λ o. gate_after o g (entering stage)) e in
              subst (λ o. IsGateWorld limit (finding stage o)) (sym (refusal_found stage ∙ e))
              (adds (Enter stage) (free none) (Refused refusal) (ap answer_to e) w.word (shown ∙ ap word_of (sym stays)) v.held (ap (λ (z : Gate). hold limit (stage_held k z.holders)) stays ∙ sym holding))

      -- the exchange of the word that was found
      enters : (stage : Stage) → v.held.stage ≡ None → word_refusal v.held.limit w.word stage ≡ None
          → IsGateWorld limit (moved w k v (entered_word w.word stage) (gate_entry k (Enter stage) Entered ∷ []) (hold v.held.limit (Some stage)))
      enters stage none fits =
          let e : entry_refusal limit (length g.holders) g.stage stage ≡ None = sym (refusal_found stage) ∙ fits in
          let new : gate_change limit g k (Enter stage) ≡ entering stage = ap (λ o. gate_after o g (entering stage)) e in
          let count : count_in w.word + 1 ≡ suc (length g.holders) = let c = count_found in omega arith in
          let here : stage_held k (entering stage).holders ≡ Some stage = rw (eq-eqb k k refl) refl in
          let back = limit_is in
          adds (Enter stage) (free none) Entered (ap answer_to e) (entered_word w.word stage) ((λ i. packed_gate (count i) stage (mark_found i)) ∙ ap word_of (sym new)) (hold v.held.limit (Some stage))
          (ap (λ (z : Gate). hold limit (stage_held k z.holders)) new ∙ (λ i. hold (sym back i) (here i)))

      abbrev exchanged : Stage → ℕ → Bool → GateWorld
      exchanged stage old b =
          moved w k v (either b (entered_word old stage) w.word) (if b then gate_entry k (Enter stage) Entered ∷ [] else refused_entries k stage (word_refusal v.held.limit w.word stage)) (if b then hold v.held.limit (Some stage) else v.held)

      exchange_keeps : (stage : Stage) (old : ℕ) → v.held.stage ≡ None → word_refusal v.held.limit old stage ≡ None → IsGateWorld limit (exchanged stage old (eqb w.word old))
      exchange_keeps stage old none fits = dite (ℕ_discrete w.word old)
          (λ (hit : w.word ≡ old). subst (λ b. IsGateWorld limit (exchanged stage old b)) (sym (eq-eqb w.word old hit))
          (subst (λ n. IsGateWorld limit (moved w k v (entered_word n stage) (gate_entry k (Enter stage) Entered ∷ []) (hold v.held.limit (Some stage)))) hit
          (enters stage none (subst (λ n. word_refusal v.held.limit n stage ≡ None) (sym hit) fits))))
          (λ (miss : w.word ≢ old). subst (λ b. IsGateWorld limit (exchanged stage old b)) (sym (ne_eqb w.word old miss)) (finds stage none))

      leave_keeps : IsSome v.held.stage → IsGateWorld limit (moved w k v ((w.word + (2 ^ 64 - 1)) % 2 ^ 64) (gate_entry k Leave (Left (left_in w.word)) ∷ []) (hold v.held.limit None))
      leave_keeps holds =
          let may : IsSome (stage_held k g.holders) = subst IsSome stage_is holds in
          let t = gate_change limit g k Leave in
          let fewer : length t.holders + 1 ≡ length g.holders = length-without k g.holders sound.distinct may in
          let below = small in
          let shows : (w.word + (2 ^ 64 - 1)) % 2 ^ 64 ≡ word_of t =
          ap (λ n. (n + (2 ^ 64 - 1)) % 2 ^ 64) (shown ∙ ap (λ n. packed_gate n g.stage g.marked) (sym fewer)) ∙ minus_one-packed (length t.holders) g.stage g.marked (omega arith) in
          let count = count_found in
          let mark = mark_found in
          let back = limit_is in
          let reply : gate_answer limit g k Leave ≡ Left (left_in w.word) = sym (λ i. Left (if count i == 1 then Last (mark i) else Others)) in
          adds Leave may (Left (left_in w.word)) reply ((w.word + (2 ^ 64 - 1)) % 2 ^ 64) shows (hold v.held.limit None) (λ i. hold (sym back i) (stage_held-without k g.holders i))

      pub step_keeps : (kind : GateKind) → step_may k v kind → IsGateWorld limit (Rattle.evl_words.specs.Events.world_after gate_steps w k v kind)
      step_keeps (looks stage) may = finds stage may
      step_keeps (exchanges stage old) may = exchange_keeps stage old may.0 may.1
      step_keeps leaves may = leave_keeps may
      step_keeps claims may =
          adds Claim tt Done refl (bit_or w.word 2147483648) (ap (λ n. bit_or n 2147483648) shown ∙ bit_or-packed (length g.holders) g.stage g.marked small) v.held (sym holding)
      step_keeps unclaims may =
          adds Unclaim tt Done refl (bit_and w.word 18446744071562067967) (ap (λ n. bit_and n 18446744071562067967) shown ∙ bit_and-packed (length g.holders) g.stage g.marked small) v.held (sym holding)
      step_keeps peeks may =
          let count = count_found in
          let stage = stage_found in
          adds Peek tt (Shown (count_in w.word) (stage_in w.word)) (sym (λ i. Shown (count i) (stage i))) w.word shown v.held (sym holding)

-- each step on a gate's word is a step of its part, and an event
pub gate_turn : (limit k : ℕ) (v : GateView) (kind : GateKind) → step_may k v kind → PartTurns (GatePart limit) k v (λ n. step_word n k v kind) (GateDoes v.held.limit k v kind)
gate_turn limit k v kind may found views part at =
    let t = does_turn gate_author (GateStep limit) open_gate (GateTie limit) gate_steps (step_keeps limit) k v kind may found views part at in
    let same = limit_is limit record { word = found; log = part.0; views = views } part.1 k v at in
    (t.0, t.1, subst (λ l. GateDoes l k v kind found t.0) (sym same) t.2)

module _ (k : ℕ) (v u : GateView) (stage : Stage) (found : ℕ) where
  finds_of : u.held ≡ v.held → Extends gate_author (GateStep v.held.limit) open_gate k v (refused_entries k stage (word_refusal v.held.limit found stage)) u → LeadsTo gate_author (GateStep v.held.limit) open_gate (GateTie v.held.limit) found u.seen
      → Finds k v stage found u
  finds_of held more leads = (held, go (word_refusal v.held.limit found stage) refl)
    where
      go : (r : Option Refusal) → word_refusal v.held.limit found stage ≡ r
          → MatchOption (word_refusal v.held.limit found stage) (GateLooks v.held.limit k v u × Shows v.held.limit u.seen found) (λ refusal. GateAppends v.held.limit k v (Enter stage) (Refused refusal) u)
      go None e = subst (λ o. MatchOption o (GateLooks v.held.limit k v u × Shows v.held.limit u.seen found) (λ refusal. GateAppends v.held.limit k v (Enter stage) (Refused refusal) u)) (sym e)
          (subst (λ o. Extends gate_author (GateStep v.held.limit) open_gate k v (refused_entries k stage o) u) e more, (leads.0, leads.1, leads.3.word))
      go (Some refusal) e = subst (λ o. MatchOption o (GateLooks v.held.limit k v u × Shows v.held.limit u.seen found) (λ refusal. GateAppends v.held.limit k v (Enter stage) (Refused refusal) u)) (sym e)
          (subst (λ o. Extends gate_author (GateStep v.held.limit) open_gate k v (refused_entries k stage o) u) e more)

  pub looks_finds : GateDoes v.held.limit k v (looks stage) found u → Finds k v stage found u
  looks_finds d = finds_of d.held d.extends d.leads

  pub exchange_enters : (old : ℕ) → GateDoes v.held.limit k v (exchanges stage old) found u → Enters k v stage old found u
  exchange_enters old d = dite (ℕ_discrete found old)
      (λ (hit : found ≡ old). let all : Facts true = subst Facts (eq-eqb found old hit) (d.held, d.extends, d.leads) in subst Goal (sym (eq-eqb found old hit)) (all.0, all.1))
      (λ (miss : found ≢ old). let all : Facts false = subst Facts (ne_eqb found old miss) (d.held, d.extends, d.leads) in subst Goal (sym (ne_eqb found old miss)) (finds_of all.0 all.1 all.2))
    where
      Facts : Bool → Type 0
      Facts b = (u.held ≡ (if b then hold v.held.limit (Some stage) else v.held))
          × Extends gate_author (GateStep v.held.limit) open_gate k v (if b then gate_entry k (Enter stage) Entered ∷ [] else refused_entries k stage (word_refusal v.held.limit found stage)) u
          × LeadsTo gate_author (GateStep v.held.limit) open_gate (GateTie v.held.limit) (either b (entered_word old stage) found) u.seen

      Goal : Bool → Type 0
      Goal b = MatchBool b ((u.held ≡ hold v.held.limit (Some stage)) × GateAppends v.held.limit k v (Enter stage) Entered u) (Finds k v stage found u)

held_is_gates : (s : Stage) (k : ℕ) (hs : List Holder) (t : Stage) → All (λ z. z.stage ≡ s) hs → stage_held k hs ≡ Some t → t ≡ s
held_is_gates s k [] t all e = absurd (cc)
held_is_gates s k (x ∷ xs) t all e = dite (ℕ_discrete x.seat k)
    (λ (same : x.seat ≡ k). let e' : Some x.stage ≡ Some t = rw (eq-eqb x.seat k same) at e in let here : x.stage ≡ t = cc in sym here ∙ All-head (λ (z : Holder). z.stage ≡ s) x xs all)
    (λ (ne : x.seat ≢ k). held_is_gates s k xs t (All-tail (λ (z : Holder). z.stage ≡ s) x xs all) (rw (ne_eqb x.seat k ne) at e))

-- two seats that hold a gate hold it at one stage
pub holders_agree : (limit : ℕ) (w : GateWorld) → IsGateWorld limit w → (j k : ℕ) (u v : GateView) → get_elem? w.views j ≡ some u → get_elem? w.views k ≡ some v
    → (s t : Stage) → u.held.stage ≡ Some s → v.held.stage ≡ Some t → s ≡ t
holders_agree limit w h j k u v at_j at_k s t holds_j holds_k =
    let one = (run_sound limit h.state w.log h.history.run).one_stage in
    let first = held_is_gates h.state.stage j h.state.holders s one (sym (stage_is limit w h j u at_j) ∙ holds_j) in
    let second = held_is_gates h.state.stage k h.state.holders t one (sym (stage_is limit w h k v at_k) ∙ holds_k) in
    first ∙ sym second

-- the word counts the seats that hold the gate, and shows their stage
pub word_shows : (limit : ℕ) (w : GateWorld) → IsGateWorld limit w
    → (count_in w.word ≡ count_by (λ h. is_some h.stage) (map (λ v. v.held) w.views)) × ((k : ℕ) (v : GateView) (s : Stage) → get_elem? w.views k ≡ some v → v.held.stage ≡ Some s → s ≡ stage_in w.word)
word_shows limit w h = (
  count_found limit w h ∙ h.history.tied.count,
  λ k v s at holds. held_is_gates h.state.stage k h.state.holders s (run_sound limit h.state w.log h.history.run).one_stage (sym (stage_is limit w h k v at) ∙ holds) ∙ sym (stage_found limit w h),
)
