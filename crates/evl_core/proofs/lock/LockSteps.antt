-- Each take and each give keeps the lock's own history, and what each thread knows of it.
use Rattle.std.proofs.Common.{◌≡◌, ◌≢◌, eqb, ne_eqb, ℕ, ◌+◌, Bool, true, false, true≢false, List, [], ◌∷◌, ◌++◌, length, map, set, Option, Some, None, is_some, refl, sym, ap, ◌∙◌, subst, ⊎_elim, length-append, arith}
use Rattle.std.specs.Prelude.{replicate}
use mathlib.Core.Option.{some}
use lib.ListN.{get_elem?}
use Rattle.atomic_table.proofs.Lists.{at_map, at_set, set_again}
use Rattle.evl_kernel.specs.histories.Histories.{History}
use Rattle.evl_words.specs.History.{view_of}
use Rattle.evl_words.specs.Machine.{Run}
use Rattle.evl_words.proofs.Events.{call_stands, moved}
use Rattle.evl_words.proofs.Sequences.{at_replicate, map-replicate, map-set}
use Rattle.evl_core.specs.declared.views.CorePart.{CorePart}
use Rattle.evl_core.specs.declared.views.LockCall.TheVariants.{Take, Give}
use Rattle.evl_core.specs.declared.views.LockReply.{LockReply}
use Rattle.evl_core.specs.declared.views.LockReply.TheVariants.{Got, Lost, Done}
use Rattle.evl_core.specs.lock.Lock.{IsLockWorld, KnowsLock, LockEntry, LockKept, LockState, LosesTo, LockStep, LockTie, LockView, LockWorld, busy, count_replies, give_entry, has_it, idle, is_got, is_lost, lock_author, lock_change, lock_answer, lock_entry, lock_machine, lock_of, lock_view, lock_word, new_lock}
use Rattle.evl_core.specs.rule.CoreRule.{after_give, after_loss, after_take, newcomer_part}

idle_is : (s : LockState) → 0 ≡ lock_word s → s ≡ idle
idle_is idle e = refl
idle_is (busy j) e = absurd (omega arith)

busy_is : (s : LockState) → 1 ≡ lock_word s → (j : ℕ) × (s ≡ busy j)
busy_is idle e = absurd (omega arith)
busy_is (busy j) e = (j, refl)

holder_has : (s : LockState) (k : ℕ) → has_it s k ≡ true → (j : ℕ) × (s ≡ busy j) × (eqb j k ≡ true)
holder_has idle k e = absurd (cc)
holder_has (busy j) k e = (j, refl, e)

same_number : (j k : ℕ) → eqb j k ≡ true → (i : ℕ) → i ≢ k → eqb j i ≡ false
same_number j k same i ne = ne_eqb j i (λ e. true≢false (sym same ∙ ne_eqb j k (λ q. ne (sym e ∙ q))))

pub counted-append : (f : LockReply → ℕ) (xs ys : List LockEntry) → count_replies f (xs ++ ys) ≡ count_replies f xs + count_replies f ys
counted-append f [] ys = omega arith
counted-append f (x ∷ xs) ys = omega (arith, counted-append f xs ys)

pub one_more : (f : LockReply → ℕ) (xs : List LockEntry) (e : LockEntry) → count_replies f (xs ++ e ∷ []) ≡ count_replies f xs + f e.reply
one_more f xs e = omega (arith, counted-append f xs (e ∷ []))

module _ (w : LockWorld) (h : IsLockWorld w) (k : ℕ) (v : LockView) (at : get_elem? w.views k ≡ some v) where
  abbrev held : List Bool
  held = map (λ (u : LockView). u.held) w.views

  held_at : get_elem? (map (λ (u : LockView). u.held) w.views) k ≡ some v.held
  held_at = at_map (λ (u : LockView). u.held) w.views k v at

  -- a take of the idle lock
  tie_got : (s : LockState) → s ≡ idle → LockTie w.word s held → LockTie 1 (lock_change s k Take) (set held k true)
  tie_got s is tie = subst (λ (z : LockState). LockTie w.word z held → LockTie 1 (lock_change z k Take) (set held k true)) (sym is) (λ t. record {
    word = refl;
    holder = λ i has there. ⊎_elim
        (λ (e : (i ≡ k) × (true ≡ has)). Rattle.std.proofs.Common.eq-eqb k i (sym e.0) ∙ e.1)
        (λ (e : (i ≢ k) × (get_elem? held i ≡ some has)). ne_eqb k i (λ q. e.0 (sym q)) ∙ t.holder i has e.1)
        (at_set held k i true has there);
  }) tie

  pub lock_got : w.word ≡ 0 → IsLockWorld (moved w k v 1 (lock_entry k Take Got ∷ []) true)
  lock_got free =
      let tie = h.history.tied in
      let is : h.state ≡ idle = idle_is h.state (sym free ∙ tie.word) in
      call_stands lock_machine idle LockTie w h k v at Take (ap (λ s. has_it s k) is) Got (ap (λ s. lock_answer s k Take) is) 1 true (tie_got h.state is tie)

  -- a take of a thread that has nothing, while another has the kernel
  tie_lost : (s : LockState) → (j : ℕ) → s ≡ busy j → v.held ≡ false → LockTie w.word s held → LockTie w.word (lock_change s k Take) (set held k false)
  tie_lost s j is none tie = subst (λ (z : LockState). LockTie w.word z held → LockTie w.word (lock_change z k Take) (set held k false)) (sym is) (λ t. record {
    word = t.word;
    holder = λ i has there. ⊎_elim
        (λ (e : (i ≡ k) × (false ≡ has)). ap (λ n. eqb j n) e.0 ∙ t.holder k v.held held_at ∙ none ∙ e.1)
        (λ (e : (i ≢ k) × (get_elem? held i ≡ some has)). t.holder i has e.1)
        (at_set held k i false has there);
  }) tie

  pub lock_lost : w.word ≡ 1 → v.held ≡ false → IsLockWorld (moved w k v w.word (lock_entry k Take Lost ∷ []) false)
  lock_lost one none =
      let tie = h.history.tied in
      let is = busy_is h.state (sym one ∙ tie.word) in
      call_stands lock_machine idle LockTie w h k v at Take (tie.holder k v.held held_at ∙ none) Lost (ap (λ s. lock_answer s k Take) is.1) w.word false (tie_lost h.state is.0 is.1 none tie)

  -- a give of the thread that has the kernel
  tie_given : (s : LockState) → (j : ℕ) → s ≡ busy j → eqb j k ≡ true → LockTie w.word s held → LockTie 0 (lock_change s k Give) (set held k false)
  tie_given s j is same tie = subst (λ (z : LockState). LockTie w.word z held → LockTie 0 (lock_change z k Give) (set held k false)) (sym is) (λ t. record {
    word = refl;
    holder = λ i has there. ⊎_elim
        (λ (e : (i ≡ k) × (false ≡ has)). e.1)
        (λ (e : (i ≢ k) × (get_elem? held i ≡ some has)). sym (same_number j k same i e.0) ∙ t.holder i has e.1)
        (at_set held k i false has there);
  }) tie

  pub lock_given : v.held ≡ true → IsLockWorld (moved w k v 0 (lock_entry k Give Done ∷ []) false)
  lock_given some_ =
      let tie = h.history.tied in
      let mine : has_it h.state k ≡ true = tie.holder k v.held held_at ∙ some_ in
      let is = holder_has h.state k mine in
      call_stands lock_machine idle LockTie w h k v at Give mine Done refl 0 false (tie_given h.state is.0 is.1 is.2 tie)

module _ {B : Type 0} where
  abbrev world_of : List LockEntry → ℕ → List (CorePart B) → LockWorld
  world_of log n cores = record { word = n; log = log; views = map lock_of cores }

  -- one thread's part changes, and with it the lock's history
  pub lock_set : (log log' : List LockEntry) (n n' : ℕ) (cores : List (CorePart B)) (k : ℕ) (c : CorePart B) → LockKept log n cores → KnowsLock c → IsLockWorld (record { word = n'; log = log'; views = set (map lock_of cores) k c.lock }) → LockKept log' n' (set cores k c)
  lock_set log log' n n' cores k c kept knows now = record {
    world = subst (λ (vs : List LockView). IsLockWorld (record { word = n'; log = log'; views = vs })) (sym (map-set lock_of cores k c)) now;
    knows = λ i u there. ⊎_elim
        (λ (e : (i ≡ k) × (c ≡ u)). subst KnowsLock e.1 knows)
        (λ (e : (i ≢ k) × (get_elem? cores i ≡ some u)). kept.knows i u e.1)
        (at_set cores k i c u there);
  }

  module _ (log : List LockEntry) (n : ℕ) (cores : List (CorePart B)) (k : ℕ) (c : CorePart B) (kept : LockKept log n cores) (at : get_elem? cores k ≡ some c) where
    at_lock : get_elem? (map lock_of cores) k ≡ some c.lock
    at_lock = at_map lock_of cores k c at

    -- a thread's part changes in what the lock doesn't read
    pub lock_stays : (d : CorePart B) → d.lock ≡ c.lock → d.taken ≡ c.taken → d.found ≡ c.found → d.lost ≡ c.lost → LockKept log n (set cores k d)
    lock_stays d lock taken found lost =
        let old = kept.knows k c at in
        lock_set log log n n cores k d kept
        (record {
          has = ap (λ (v : LockView). v.held) lock ∙ old.has ∙ sym (ap is_some taken);
          found = ap length found ∙ old.found ∙ sym (ap (λ (v : LockView). count_replies is_got v.mine) lock);
          lost = lost ∙ old.lost ∙ sym (ap (λ (v : LockView). count_replies is_lost v.mine) lock);
        })
        (subst (λ (vs : List LockView). IsLockWorld (record { word = n; log = log; views = vs })) (sym (ap (set (map lock_of cores) k) lock ∙ set_again (map lock_of cores) k c.lock at_lock)) kept.world)

    pub got_kept : (h : History) (room : ℕ) → n ≡ 0 → LockKept (log ++ lock_entry k Take Got ∷ []) 1 (set cores k (after_take h room (lock_view log (lock_entry k Take Got) c.lock true) c))
    got_kept h room free =
        let old = kept.knows k c at in
        let e = lock_entry k Take Got in
        lock_set log (log ++ e ∷ []) n 1 cores k (after_take h room (lock_view log e c.lock true) c) kept
        (record {
          has = refl;
          found = length-append c.found (room ∷ []) ∙ (let a = old.found in let b = one_more is_got c.lock.mine e in omega arith);
          lost = old.lost ∙ (let b = one_more is_lost c.lock.mine e in omega arith);
        })
        (lock_got (world_of log n cores) kept.world k c.lock at_lock free)

    pub lost_kept : n ≡ 1 → c.taken ≡ None → LockKept (log ++ lock_entry k Take Lost ∷ []) n (set cores k (after_loss (lock_view log (lock_entry k Take Lost) c.lock false) c))
    lost_kept one none =
        let old = kept.knows k c at in
        let e = lock_entry k Take Lost in
        lock_set log (log ++ e ∷ []) n n cores k (after_loss (lock_view log e c.lock false) c) kept
        (record {
          has = sym (ap is_some none);
          found = old.found ∙ (let b = one_more is_got c.lock.mine e in omega arith);
          lost = let a = old.lost in let b = one_more is_lost c.lock.mine e in omega arith;
        })
        (lock_lost (world_of log n cores) kept.world k c.lock at_lock one (old.has ∙ ap is_some none))

    pub given_kept : (h : History) (taken : Option History) → c.taken ≡ taken → is_some taken ≡ true → LockKept (log ++ give_entry k ∷ []) 0 (set cores k (after_give h k (lock_view log (give_entry k) c.lock false) c))
    given_kept h taken is some_ =
        let old = kept.knows k c at in
        let e = give_entry k in
        lock_set log (log ++ e ∷ []) n 0 cores k (after_give h k (lock_view log e c.lock false) c) kept
        (record {
          has = refl;
          found = old.found ∙ (let b = one_more is_got c.lock.mine e in omega arith);
          lost = old.lost ∙ (let b = one_more is_lost c.lock.mine e in omega arith);
        })
        (lock_given (world_of log n cores) kept.world k c.lock at_lock (old.has ∙ ap is_some is ∙ some_))

    another_has : (s : LockState) → n ≡ lock_word s → n ≢ 0 → has_it s k ≡ false → (j : ℕ) × (j ≢ k) × (s ≡ busy j)
    another_has idle word ne not_mine = absurd (ne word)
    another_has (busy j) word ne not_mine = (j, (λ same. true≢false (sym (Rattle.std.proofs.Common.eq-eqb j k same) ∙ not_mine)), refl)

    -- a take of a thread that has nothing, on a word that isn't 0, is lost to another
    pub loses_to : n ≢ 0 → c.taken ≡ None → (new : LockView) → new ≡ lock_view log (lock_entry k Take Lost) c.lock false → LosesTo k c.lock new
    loses_to ne none new is =
        let h = kept.world.history in
        let pre = (h.fits k c.lock at_lock).seen in
        let other = another_has kept.world.state h.tied.word ne (h.tied.holder k c.lock.held (at_map (λ (u : LockView). u.held) (map lock_of cores) k c.lock at_lock) ∙ (kept.knows k c at).has ∙ ap is_some none) in record {
          between = pre.0;
          holder = other.0;
          another = other.1;
          has = subst (λ (z : List LockEntry × LockState). Run LockStep idle z.0 z.1) (λ i. (sym pre.1 i, other.2 i)) h.run;
          seen = ap (λ (u : LockView). u.seen) is ∙ ap (λ l. l ++ lock_entry k Take Lost ∷ []) (sym pre.1);
          mine = ap (λ (u : LockView). u.mine) is;
        }

  -- at the opening nobody has made a step on the lock
  pub lock_opens : (h : History) (first : B) (n : ℕ) → LockKept [] 0 (replicate n (newcomer_part h first))
  lock_opens h first n = let one = newcomer_part h first in record {
    world = record {
      state = idle;
      history = record {
        run = refl;
        fits = λ k v there. subst (λ (u : LockView). Rattle.evl_words.specs.History.Fits lock_author [] k u) (at_replicate n k new_lock v (sym (ap (λ vs. get_elem? vs k) (map-replicate lock_of n one)) ∙ there)) (record { seen = ([], refl); own = refl; known = refl });
        others = λ k far. refl;
        tied = record {
          word = refl;
          holder = λ k has there.
              let held : map (λ (u : LockView). u.held) (map lock_of (replicate n one)) ≡ replicate n false = ap (map (λ (u : LockView). u.held)) (map-replicate lock_of n one) ∙ map-replicate (λ (u : LockView). u.held) n new_lock in
              at_replicate n k false has (sym (ap (λ (hs : List Bool). get_elem? hs k) held) ∙ there);
        };
      };
    };
    knows = λ k c there. subst KnowsLock (at_replicate n k one c there) (record { has = refl; found = refl; lost = refl });
  }
