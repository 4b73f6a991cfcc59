-- All that holds of the core's world holds after any list of atomic steps, and while hands of threads are split and joined.
use Rattle.std.proofs.Common.{◌≡◌, ℕ, List, [], ◌∷◌, ◌++◌, set, Some, None, true, false, refl, sym, ◌∙◌, subst, ⊎_elim}
use mathlib.Core.Option.{some, none}
use lib.ListN.{get_elem?}
use Rattle.atomic_table.proofs.Lists.{set_again, set_else}
use Rattle.evl_kernel.specs.histories.Histories.{History, IsLegal}
use Rattle.evl_words.specs.Machine.{Run}
use Rattle.evl_words.specs.Events.{Event}
use Rattle.evl_words.specs.Hands.{place}
use Rattle.evl_words.specs.Dealings.{DealingEvent, acts, cuts, gathers}
use Rattle.evl_words.proofs.Machines.{run_keeps}
use Rattle.evl_words.proofs.Dealing.{deals_turn, deals_split, deals_join, deals_opening}
use Rattle.evl_core.specs.declared.views.CorePart.{CorePart}
use Rattle.evl_core.specs.declared.views.LockCall.TheVariants.{Take}
use Rattle.evl_core.specs.declared.views.LockReply.TheVariants.{Got, Lost}
use Rattle.evl_core.specs.accounts.Accounts.{GoesOn, threads_of}
use Rattle.evl_core.specs.lock.Lock.{LockEntry, LockView, give_entry, lock_entry, lock_view}
use Rattle.evl_core.specs.rule.CoreRule.{CoreKept, CoreStands, IsFree, IsTaken, MayGive, after_loss, after_take}
use Rattle.evl_core.specs.worlds.CoreWorld.{CoreWorld, CoreKind, CoreHappens, CoreDealing, CoreDealingStep, IsCoreWorld, Slot, StandsDealt, takes, gives, moves_out, moves_in, opened_core, step_may, step_part, world_after}
use Rattle.evl_core.proofs.rule.Noting.{lost_core}
use Rattle.evl_core.proofs.lock.LockSteps.{given_kept, got_kept, lock_opens, lost_kept}
use Rattle.evl_core.proofs.rule.CoreSteps.{taken_core, given_core, holder_is, opens_core, only_slot}

module _ {S B : Type 0} (past : S → History) (room : S → ℕ) (comes : B → S → Type 0) (first : B) where
  abbrev pub Stands : CoreWorld S B → Type 0
  Stands = IsCoreWorld past room comes first

  -- a step that changes nothing
  stays : (w : CoreWorld S B) → Stands w → (k : ℕ) (c : CorePart B) → get_elem? w.views k ≡ some c → Stands record { word = w.word; slot = w.slot; log = w.log; views = set w.views k c }
  stays w r k c at = subst (λ (l : List (CorePart B)). CoreStands past comes first w.log w.word (w.slot ∷ []) l) (sym (set_again w.views k c at)) r

  take_keeps : (w : CoreWorld S B) → Stands w → (k : ℕ) (c : CorePart B) → get_elem? w.views k ≡ some c → c.taken ≡ None → Stands (world_after past room comes w k c takes)
  take_keeps w (r, lock) k c at rests = ⊎_elim
      (λ (f : IsFree past comes first r.history w.word (w.slot ∷ []) w.views).
      let y = f.kernel in
      let slot : w.slot ≡ some (Some y) = only_slot w.slot (some (Some y)) f.slot_is in
      let known : LockView = lock_view w.log (lock_entry k Take Got) c.lock true in
      let now : CoreKept past comes first 1 (none ∷ []) (set w.views k (after_take (past y) (room y) known c)) =
      subst (λ (h : History). CoreKept past comes first 1 (none ∷ []) (set w.views k (after_take h (room y) known c))) (sym f.past_is) (taken_core past comes first (room y) w.word (w.slot ∷ []) w.views k c known r at f.nobody) in
      let both : CoreStands past comes first (w.log ++ lock_entry k Take Got ∷ []) 1 (none ∷ []) (set w.views k (after_take (past y) (room y) known c)) = (now, got_kept w.log w.word w.views k c lock at (past y) (room y) f.word_is) in
      subst (λ (z : ℕ × Slot S). Stands (world_after past room comes record { word = z.0; slot = z.1; log = w.log; views = w.views } k c takes)) (λ i. (sym f.word_is i, sym slot i)) both)
      (λ (t : IsTaken r.history w.word (w.slot ∷ []) w.views).
      let e : LockEntry = lock_entry k Take Lost in
      let known : LockView = lock_view w.log e c.lock false in
      let both : CoreStands past comes first (w.log ++ e ∷ []) w.word (w.slot ∷ []) (set w.views k (after_loss known c)) = (lost_core past comes first w.word (w.slot ∷ []) w.views k c known r at, lost_kept w.log w.word w.views k c lock at t.word_is rests) in
      subst (λ (n : ℕ). Stands (world_after past room comes record { word = n; slot = w.slot; log = w.log; views = w.views } k c takes)) (sym t.word_is)
      (subst (λ (n : ℕ). Stands record { word = n; slot = w.slot; log = w.log ++ e ∷ []; views = set w.views k (after_loss known c) }) t.word_is both))
      r.who

  give_keeps : (w : CoreWorld S B) → Stands w → (k : ℕ) (c : CorePart B) → get_elem? w.views k ≡ some c → (y : S) → MayGive k c (past y) → comes c.first y → Stands (world_after past room comes w k c (gives y))
  give_keeps w (r, lock) k c at y m from =
      let x = holder_is past comes first w.word (w.slot ∷ []) w.views k c m.before r at m.taken in
      let longer : GoesOn r.history m.added (past y) = subst (λ (h : History). GoesOn h m.added (past y)) (sym x.1) m.longer in
      (given_core past comes first w.word (w.slot ∷ []) w.views k c (lock_view w.log (give_entry k) c.lock false) m.added y r at m.own longer (subst (λ (b : B). comes b y) (r.knows k c at) from) x.2, given_kept w.log w.word w.views k c lock at (past y) (Some m.before) m.taken refl)

  pub step_keeps : (w : CoreWorld S B) → Stands w → (k : ℕ) (c : CorePart B) → get_elem? w.views k ≡ some c → (kind : CoreKind S) → step_may past room comes k c kind → Stands (world_after past room comes w k c kind)
  step_keeps w r k c at takes may = take_keeps w r k c at may
  step_keeps w r k c at (gives y) (may, from) = give_keeps w r k c at y may from
  step_keeps w r k c at moves_out may = stays w r k c at
  step_keeps w r k c at moves_in may = stays w r k c at

  -- after any list of events
  pub events_keep : (w t : CoreWorld S B) (events : List (Event (CoreKind S))) → Stands w → Run (CoreHappens past room comes) w events t → Stands t
  events_keep w t events stands run =
      run_keeps (CoreHappens past room comes) Stands (λ s e u kept one. subst Stands (sym one.changed) (step_keeps s kept e.by one.view one.at e.kind one.may)) w t events stands run

  dealing_keeps : (d : CoreDealing S B) (e : DealingEvent (CoreKind S)) (t : CoreDealing S B) → StandsDealt past room comes first d → CoreDealingStep past room comes d e t → StandsDealt past room comes first t
  dealing_keeps d (acts id kind) t h (k, c, at, may, changed) =
      let here = (h.1.same id (place k c ∷ []) at).0 in
      subst (StandsDealt past room comes first) (sym changed)
      (step_keeps d.world h.0 k c here kind may, deals_turn d.world.views d.hands id k c (step_part past room comes d.world.word d.world.slot d.world.log k c kind) h.1 at)
  dealing_keeps d (cuts id) t h (hand, at, changed) = subst (StandsDealt past room comes first) (sym changed) (h.0, deals_split d.world.views d.hands id hand h.1 at)
  dealing_keeps d (gathers id other) t h (hand, theirs, at, ne, at', changed) =
      subst (StandsDealt past room comes first) (sym changed) (h.0, deals_join d.world.views d.hands id other hand theirs h.1 at ne (set_else d.hands id other (hand ++ theirs) ne ∙ at'))

  -- after any list of events from the opening
  pub dealings_keep : (y : S) → IsLegal (past y) → (past y).entries ≡ [] → comes first y → (events : List (DealingEvent (CoreKind S))) (t : CoreDealing S B)
      → Run (CoreDealingStep past room comes) (opened_core past room comes first y) events t → StandsDealt past room comes first t
  dealings_keep y legal none_yet from events t run =
      let d = opened_core past room comes first y in
      run_keeps (CoreDealingStep past room comes) (StandsDealt past room comes first) dealing_keeps d t events ((opens_core past comes first y (threads_of (past y)) refl legal none_yet from, lock_opens (past y) first (threads_of (past y))), deals_opening d.world.views) run
