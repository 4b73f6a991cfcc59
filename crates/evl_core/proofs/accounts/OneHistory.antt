-- All that two callers of one machine know together: two tokens are one for a moment, in which the rule says that their threads fit one history.
use Rattle.std.proofs.Common.{◌≡◌, ◌≢◌, inl, inr, ⊎_elim, ℕ, ◌+◌, ◌<◌, List, [], ◌∷◌, ◌++◌, length, map, get_or, refl, sym, ap, ◌∙◌, subst, append_assoc, arith}
use mathlib.Core.Option.{some}
use lib.ListN.{get_elem?}
use Rattle.atomic_table.proofs.Lists.{at_map}
use Rattle.evl_base.specs.declared.entry.Entry.{Entry}
use Rattle.evl_base.specs.declared.play.Play.{Play}
use Rattle.evl_kernel.specs.state.States.{State}
use Rattle.evl_kernel.specs.state.Openings.{opening}
use Rattle.evl_kernel.specs.histories.Histories.{History, Run, IsLegal, opened_kernel}
use Rattle.evl_kernel.specs.state.KernelViews.{KernelView}
use Rattle.evl_kernel.proofs.histories.Determined.{run_one_way}
use Rattle.evl_words.specs.Hands.{place}
use Rattle.evl_words.specs.Looks.{TellsOfTwo}
use Rattle.evl_words.specs.Looks as looks
use Rattle.evl_words.specs.MutexCalls.{AreAtMutex}
use Rattle.evl_words.proofs.LookLaws.{beginnings, picked_before, see_one, two_apart}
use Rattle.evl_words.proofs.MutexSeats.{at_mutex}
use Rattle.evl_core.specs.declared.views.Account.{Account}
use Rattle.evl_core.specs.accounts.Accounts.{Fits, GoesOn, IsAccount, calls_by}
use Rattle.evl_core.specs.rule.ThreadRule.{core_of, mutex_of}
use Rattle.evl_words.specs.History as word
use Rattle.evl_words.specs.MutexWorld.{MutexView}
use Rattle.evl_words.specs.declared.history.Place.{Place}
use Rattle.evl_core.specs.declared.views.ThreadView.{ThreadView}
use Rattle.evl_words.specs.Machine as machine
use Rattle.evl_words.proofs.Machines.{run_split}
use Rattle.evl_core.specs.lock.Lock.{LockStep, idle, lock_author, lock_of}
use Rattle.evl_core.specs.rule.Known.{ComesFrom, KeptKnown, ceilings_of, mutex_count, past_of, room_of, seen}
use Rattle.evl_core.specs.worlds.OneWorld.{looks}
use Rattle.evl_core.proofs.worlds.OneTurns.{event_of, look_event}
use Rattle.evl_core.specs.accounts.OneHistory.{AreTogether, OneHistory}
use Rattle.evl_core.proofs.accounts.Accounts.{calls_by-append}

run_splits : (old : State) (xs ys : List Entry) (plays : List Play) (new : State) → Run old (xs ++ ys) plays new → (ps qs : List Play) × (mid : State) × (plays ≡ ps ++ qs) × Run old xs ps mid × Run mid ys qs new
run_splits old [] ys plays new r = ([], plays, old, refl, (refl, refl), r)
run_splits old (x ∷ xs) ys plays new (own, rest, next, split, step, run) =
    let t = run_splits next xs ys rest new run in
    (own ++ t.0, t.1, t.2, split ∙ (ap (λ (rs : List Play). own ++ rs) t.3 ∙ sym (append_assoc own t.0 t.1)), (own, t.0, next, refl, step, t.4), t.5)

-- a legal history with the entries of another, and more, goes on from it
goes_on : (old new : History) (ws : List Entry) → IsLegal old → IsLegal new → new.board ≡ old.board → new.bank ≡ old.bank → new.entries ≡ old.entries ++ ws → GoesOn old ws new
goes_on old new ws legal longer board bank more =
    let run : Run (opened_kernel old) (old.entries ++ ws) new.plays new.state = subst (λ (z : State × List Entry). Run z.0 z.1 new.plays new.state) (λ i. (opening (board i) (bank i), more i)) longer in
    let t = run_splits (opened_kernel old) old.entries ws new.plays new.state run in
    let same = run_one_way (opened_kernel old) old.entries old.entries t.0 old.plays t.2 old.state refl t.4 legal in record {
      plays = t.1;
      board = board;
      bank = bank;
      entries_are = more;
      plays_are = t.3 ∙ ap (λ (ps : List Play). ps ++ t.1) same.1;
      run = subst (λ (s : State). Run s ws t.1 new.state) same.2 t.5;
    }

-- an account of which the other's history is the longer one fits it
fits_other : (h : History) (a b : Account) (ws : List Entry) → IsAccount a → IsAccount b → Fits h a → Fits h b → b.seen.entries ≡ a.seen.entries ++ ws → Fits b.seen a
fits_other h a b ws is other f g more = record {
  seen = (ws, goes_on a.seen b.seen ws is.legal other.legal (sym g.seen.1.board ∙ f.seen.1.board) (sym g.seen.1.bank ∙ f.seen.1.bank) more);
  mine = ap (calls_by a.thread) more
      ∙ picked_before (calls_by a.thread) (calls_by-append a.thread) h.entries a.seen.entries ws g.seen.0 a.mine (g.seen.1.entries_are ∙ ap (λ (es : List Entry). es ++ g.seen.0) more) f.mine is.mine;
}

pub one_history : (h : History) (a b : Account) → a.thread ≢ b.thread → IsAccount a → IsAccount b → Fits h a → Fits h b → OneHistory a b
one_history h a b apart is other f g = record {
  apart = apart;
  one = is;
  other = other;
  longer = ⊎_elim
      (λ (e : (ws : List Entry) × (b.seen.entries ≡ a.seen.entries ++ ws)). inl (fits_other h a b e.0 is other f g e.1))
      (λ (e : (ws : List Entry) × (a.seen.entries ≡ b.seen.entries ++ ws)). inr (fits_other h b a e.0 other is g f e.1))
      (beginnings a.seen.entries f.seen.0 b.seen.entries g.seen.0 (sym f.seen.1.entries_are ∙ g.seen.1.entries_are));
}

module _ {C : Type 0} where
  -- the threads of a token that has two fit one history of the kernel, and are together at each mutex's word
  pub two_known : (first : KernelView C) → TellsOfTwo (KeptKnown first) AreTogether
  two_known first s id p q d at =
      let are = d.deals.same id (p ∷ q ∷ []) at in
      let kept = d.kept.locked.1 in
      let apart = two_apart d.views s.views id p q d.deals at in record {
        apart = apart;
        history = kept.history;
        one = kept.fits p.number p.view.core (at_map core_of d.views p.number p.view are.0);
        other = kept.fits q.number q.view.core (at_map core_of d.views q.number q.view are.1.0);
        lock = record {
          longer = see_one lock_author d.kept.locked.0 p.number q.number p.view.core.lock q.view.core.lock (its_lock p are.0) (its_lock q are.1.0);
          one = legal_lock p are.0;
          other = legal_lock q are.1.0;
        };
        look = (get_or s.words 0 0, event_of past_of room_of ComesFrom ceilings_of mutex_count first p.number p.view (looks 0) (get_or s.words 0 0) p.view (kept.knows p.number p.view.core (at_map core_of d.views p.number p.view are.0)) (look_event past_of room_of ComesFrom ceilings_of mutex_count first s.words s.homes d.views d.kept p.number p.view are.0 0 (omega arith)));
        mutexes = λ i within. on_word i (subst (λ (f : KernelView C). i < mutex_count f) (kept.knows p.number p.view.core (at_map core_of d.views p.number p.view are.0)) within) apart are.0 are.1.0;
      }
    where
      its_lock : (x : Place (ThreadView (KernelView C) MutexView)) → get_elem? d.views x.number ≡ some x.view → word.Fits lock_author d.kept.locked.0 x.number x.view.core.lock
      its_lock x at = d.kept.locked.2.world.history.fits x.number x.view.core.lock (at_map lock_of (map core_of d.views) x.number x.view.core (at_map core_of d.views x.number x.view at))

      legal_lock : (x : Place (ThreadView (KernelView C) MutexView)) → get_elem? d.views x.number ≡ some x.view → machine.IsLegal LockStep idle x.view.core.lock.seen
      legal_lock x at =
          let world = d.kept.locked.2.world in
          let pre = (its_lock x at).seen in
          let r = run_split LockStep idle world.state x.view.core.lock.seen pre.0 (subst (λ l. machine.Run LockStep idle l world.state) (sym pre.1) world.history.run) in
          (r.0, r.1)

      on_word : (i : ℕ) → i < mutex_count first → p.number ≢ q.number → get_elem? d.views p.number ≡ some p.view → get_elem? d.views q.number ≡ some q.view → AreAtMutex (place p.number (mutex_of i p.view)) (place q.number (mutex_of i q.view))
      on_word i within apart here there =
          let long = d.kept.long in
          let lt : 1 + i < length s.words = omega arith in
          let part = d.kept.parts i lt in
          at_mutex (record { word = get_or s.words (1 + i) 0; log = part.0; views = map (mutex_of i) d.views }) part.1 p.number q.number (mutex_of i p.view) (mutex_of i q.view) apart (at_map (mutex_of i) d.views p.number p.view here) (at_map (mutex_of i) d.views q.number q.view there)
