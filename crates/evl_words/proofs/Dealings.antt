-- All that each step of one seat keeps of a world holds also while hands of seats are split and joined.
use Rattle.std.proofs.Common.{◌≡◌, ℕ, List, [], ◌∷◌, ◌++◌, sym, ◌∙◌, subst}
use mathlib.Core.Option.{some}
use lib.ListN.{get_elem?}
use Rattle.atomic_table.proofs.Lists.{set_else}
use Rattle.evl_words.specs.declared.history.View.{View}
use Rattle.evl_words.specs.Machine.{Run}
use Rattle.evl_words.specs.Hands.{place}
use Rattle.evl_words.specs.Events.{World, Steps, seat_after, world_after}
use Rattle.evl_words.specs.Dealings.{Dealing, DealingEvent, DealingStep, Holds, acts, cuts, gathers, opened_dealing}
use Rattle.evl_words.proofs.Machines.{run_keeps}
use Rattle.evl_words.proofs.Dealing.{deals_turn, deals_split, deals_join, deals_opening}

module _ {E H K : Type 0} (steps : Steps E H K) (Stands : World E H → Type 0)
    (keeps : (w : World E H) → Stands w → (k : ℕ) (v : View E H) → get_elem? w.views k ≡ some v → (kind : K) → steps.may k v kind → Stands (world_after steps w k v kind)) where
  dealing_keeps : (d : Dealing E H) (e : DealingEvent K) (t : Dealing E H) → Holds Stands d → DealingStep steps d e t → Holds Stands t
  dealing_keeps d (acts id kind) t h (k, v, at, may, changed) =
      let here : get_elem? d.world.views k ≡ some v = (h.1.same id (place k v ∷ []) at).0 in
      subst (Holds Stands) (sym changed) (keeps d.world h.0 k v here kind may, deals_turn d.world.views d.hands id k v (seat_after steps d.world.word d.world.log k v kind) h.1 at)
  dealing_keeps d (cuts id) t h (hand, at, changed) = subst (Holds Stands) (sym changed) (h.0, deals_split d.world.views d.hands id hand h.1 at)
  dealing_keeps d (gathers id other) t h (hand, theirs, at, ne, at', changed) =
      subst (Holds Stands) (sym changed) (h.0, deals_join d.world.views d.hands id other hand theirs h.1 at ne (set_else d.hands id other (hand ++ theirs) ne ∙ at'))

  -- after any list of events from the opening
  pub dealings_hold : (views : List (View E H)) → Stands (opened_dealing views).world → (events : List (DealingEvent K)) (t : Dealing E H) → Run (DealingStep steps) (opened_dealing views) events t → Holds Stands t
  dealings_hold views first events t run = run_keeps (DealingStep steps) (Holds Stands) dealing_keeps (opened_dealing views) t events (first, deals_opening views) run
