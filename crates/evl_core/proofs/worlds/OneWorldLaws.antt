-- All that holds of the one table's world holds after any list of atomic steps, and while hands of threads are split and joined.
use Rattle.std.proofs.Common.{◌≡◌, ◌≢◌, ⊎_elim, Some, eq-eqb, ne_eqb, ℕ, ◌<◌, ◌≤◌, ◌==◌, if◌then◌else◌, Bool, true, false, List, [], ◌∷◌, ◌++◌, map, set, get_or, refl, sym, ap, ◌∙◌, subst, length-set, get_or-set_same, get_or-set_other, arith, None, is_some, zero, suc}
use Rattle.std.specs.Prelude.{MatchBool, replicate}
use Rattle.std.proofs.lemmas.List.{length-replicate}
use mathlib.Core.Option.{some, none, some-injective, some-ne-none}
use mathlib.Core.Logic.{dite}
use native.Mathlib.Decide.{ℕ_discrete}
use lib.ListN.{get_elem?}
use Rattle.atomic_table.proofs.Lists.{at_map, set_again, set_else}
use Rattle.evl_base.specs.Limits.{thread_limit}
use Rattle.evl_kernel.specs.histories.Histories.{History, IsLegal}
use Rattle.evl_words.specs.Machine.{Run}
use Rattle.evl_words.specs.Events.{seat_after, world_after}
use Rattle.evl_words.specs.Hands.{Deals, Hand, place}
use Rattle.evl_words.specs.Dealings.{DealingEvent, acts, cuts, gathers}
use Rattle.evl_words.specs.Mutex.{MutexEntry}
use Rattle.evl_words.specs.MutexWorld as mutex
use Rattle.evl_words.specs.MutexWorld.{MutexKind, MutexView, IsMutexWorld, mutex_steps, newcomer, tries, unlocks, claims, settles, offers, frees, asks, forgets, awaits, accepts}
use Rattle.evl_words.proofs.Machines.{run_keeps}
use Rattle.evl_words.proofs.Sequences.{at_below, map-set, map-replicate}
use Rattle.evl_words.proofs.Dealing.{deals_turn, deals_split, deals_join, deals_opening}
use Rattle.evl_words.proofs.MutexSteps as steps
use Rattle.evl_words.proofs.MutexEnds.{mutex_opens}
use Rattle.evl_core.specs.declared.views.CorePart.{CorePart}
use Rattle.evl_core.specs.declared.views.LockCall.TheVariants.{Take}
use Rattle.evl_core.specs.declared.views.LockReply.TheVariants.{Got, Lost}
use Rattle.evl_core.specs.declared.views.ThreadView.{ThreadView}
use Rattle.evl_core.specs.accounts.Accounts.{threads_of}
use Rattle.evl_core.specs.lock.Lock.{LockKept, LockView, give_entry, lock_entry, lock_of, lock_view}
use Rattle.evl_core.specs.rule.CoreRule.{CoreKept, CoreStands, IsFree, IsTaken, after_loss, newcomer_part}
use Rattle.evl_core.specs.worlds.CoreWorld as core
use Rattle.evl_core.specs.worlds.CoreWorld.{CoreKind, Slot, takes, gives, moves_out, moves_in}
use Rattle.evl_core.specs.rule.ThreadRule.{core_of, put_core, mutex_of, put_mutex, newcomer_view}
use Rattle.evl_core.specs.worlds.OneWorld.{OneWorld, OneKind, OneDealing, OneDealingStep, IsOneWorld, StandsInOne, HasFor, is_unlocking, mutex_world, noted_if, looks, on_lock, on_word, one_after, one_may, opened_one, view_after}
use Rattle.evl_core.specs.rule.Ties.{MutexTied}
use Rattle.evl_core.proofs.rule.CoreSteps.{holder_is, none_some, only_slot, opens_core}
use Rattle.evl_core.proofs.lock.LockSteps.{lock_opens}
use Rattle.evl_core.proofs.lock.LockLaws.{IsOurs, no_false_loss, ours_free, ours_held}
use Rattle.evl_core.proofs.worlds.CoreLaws as core_laws
use Rattle.evl_core.proofs.rule.ThreadSteps.{parts_apart, at_blank, zeros}
use Rattle.evl_core.proofs.rule.TieRule.{lock_marked, log_marked, tie_giving, tie_losing, tie_marking, tie_stepping, tie_taking, ties_beside}
use Rattle.evl_core.proofs.ties.TieSteps.{StaysPlain, try_stays, unlock_stays}

-- what is in a list of what is read of each is read of one of them
at_of_map : {A C : Type 0} (f : A → C) (xs : List A) (j : ℕ) (c : C) → get_elem? (map f xs) j ≡ some c → (x : A) × (get_elem? xs j ≡ some x) × (f x ≡ c)
at_of_map f [] j c at = absurd (some-ne-none c (sym at))
at_of_map f (x ∷ xs) zero c at = (x, refl, some-injective (f x) c at)
at_of_map f (x ∷ xs) (suc j) c at = at_of_map f xs j c at

module _ {S B : Type 0} (past : S → History) (room : S → ℕ) (comes : B → S → Type 0) (first : B) (ceilings : ℕ → Bool) (m : ℕ) where
  abbrev pub Stands : OneWorld S B → Type 0
  Stands = IsOneWorld past room comes ceilings m first

  abbrev TieOf : ℕ → ℕ → List (Slot S) → List (CorePart B) → ℕ → Type 0
  TieOf = MutexTied past ceilings

  module _ (w : OneWorld S B) (h : Stands w) (k : ℕ) (v : ThreadView B MutexView) (at : get_elem? w.views k ≡ some v) where
    cores : List (CorePart B)
    cores = map core_of w.views

    core_at : get_elem? (map core_of w.views) k ≡ some (core_of v)
    core_at = at_map core_of w.views k v at

    -- the parts of a view that has another core
    parts_stay : (c : CorePart B) (i : ℕ) → map (mutex_of i) (set w.views k (put_core v c)) ≡ map (mutex_of i) w.views
    parts_stay c i = map-set (mutex_of i) w.views k (put_core v c) ∙ set_again (map (mutex_of i) w.views) k (mutex_of i v) (at_map (mutex_of i) w.views k v at)

    cores_now : (c : CorePart B) → map core_of (set w.views k (put_core v c)) ≡ set (map core_of w.views) k c
    cores_now c = map-set core_of w.views k (put_core v c)

    -- the ties after a step on the lock
    lock_ties : (kind : CoreKind S) → one_may past room comes ceilings m k v (on_lock kind) → (i word : ℕ) → TieOf i w.word (w.slot ∷ []) (map core_of w.views) word
        → TieOf i (core.step_word past room comes w.word kind) (core.step_slot past room comes w.word w.slot kind ∷ []) (set (map core_of w.views) k (core.step_part past room comes w.word w.slot w.log k (core_of v) kind)) word
    lock_ties takes may i word tied = ⊎_elim
        (λ (f : IsFree past comes first h.locked.0.history w.word (w.slot ∷ []) (map core_of w.views)).
        let slot : w.slot ≡ some (Some f.kernel) = only_slot w.slot (some (Some f.kernel)) f.slot_is in
        let known : LockView = lock_view w.log (lock_entry k Take Got) (core_of v).lock true in
        let now = tie_taking past comes first ceilings room k (core_of v) f.kernel known (map core_of w.views) (subst (λ (z : ℕ × Slot S). CoreKept past comes first z.0 (z.1 ∷ []) (map core_of w.views)) (λ j. (f.word_is j, slot j)) h.locked.0) core_at i word
        (subst (λ (z : ℕ × Slot S). TieOf i z.0 (z.1 ∷ []) (map core_of w.views) word) (λ j. (f.word_is j, slot j)) tied) in
        subst (λ (z : ℕ × Slot S). TieOf i (core.step_word past room comes z.0 takes) (core.step_slot past room comes z.0 z.1 takes ∷ []) (set (map core_of w.views) k (core.step_part past room comes z.0 z.1 w.log k (core_of v) takes)) word) (λ j. (sym f.word_is j, sym slot j)) now)
        (λ (t : IsTaken h.locked.0.history w.word (w.slot ∷ []) (map core_of w.views)).
        let known : LockView = lock_view w.log (lock_entry k Take Lost) (core_of v).lock false in
        let same : TieOf i w.word (w.slot ∷ []) (set (map core_of w.views) k (after_loss known (core_of v))) word = tie_losing past comes first ceilings k (core_of v) known w.word (w.slot ∷ []) (map core_of w.views) core_at i word tied in
        let one : TieOf i 1 (w.slot ∷ []) (set (map core_of w.views) k (after_loss known (core_of v))) word = subst (λ n. TieOf i n (w.slot ∷ []) (set (map core_of w.views) k (after_loss known (core_of v))) word) t.word_is same in
        subst (λ n. TieOf i (core.step_word past room comes n takes) (core.step_slot past room comes n w.slot takes ∷ []) (set (map core_of w.views) k (core.step_part past room comes n w.slot w.log k (core_of v) takes)) word) (sym t.word_is) one)
        h.locked.0.who
    lock_ties (gives y) ((may, from), settled) i word tied =
        let x = holder_is past comes first w.word (w.slot ∷ []) (map core_of w.views) k (core_of v) may.before h.locked.0 core_at may.taken in
        let slot : w.slot ≡ none = only_slot w.slot none x.0.slot_is in
        tie_giving past comes first ceilings k (core_of v) y may.before may.taken (settled may.before may.taken) (lock_view w.log (give_entry k) (core_of v).lock false) (map core_of w.views) (subst (λ (z : ℕ × Slot S). CoreKept past comes first z.0 (z.1 ∷ []) (map core_of w.views)) (λ j. (x.0.word_is j, slot j)) h.locked.0) core_at i word
        (subst (λ (z : ℕ × Slot S). TieOf i z.0 (z.1 ∷ []) (map core_of w.views) word) (λ j. (x.0.word_is j, slot j)) tied)
    lock_ties moves_out may i word tied = subst (λ cs. TieOf i w.word (w.slot ∷ []) cs word) (sym (set_again (map core_of w.views) k (core_of v) core_at)) tied
    lock_ties moves_in may i word tied = subst (λ cs. TieOf i w.word (w.slot ∷ []) cs word) (sym (set_again (map core_of w.views) k (core_of v) core_at)) tied

    lock_keeps : (kind : CoreKind S) → one_may past room comes ceilings m k v (on_lock kind) → Stands (one_after past room comes ceilings m w k v (on_lock kind))
    lock_keeps kind may =
        let c = core.step_part past room comes w.word w.slot w.log k (core_of v) kind in record {
          count = h.count;
          locked = subst (λ cs. CoreStands past comes first (core.step_log past room comes w.word w.log k kind) (core.step_word past room comes w.word kind) (core.step_slot past room comes w.word w.slot kind ∷ []) cs) (sym (cores_now c))
              (core_laws.step_keeps past room comes first (record { word = w.word; slot = w.slot; log = w.log; views = map core_of w.views }) h.locked k (core_of v) core_at kind may.0);
          parts = λ i within. subst (λ vs. IsMutexWorld (record { word = get_or w.mutexes i 0; log = w.logs i; views = vs })) (sym (parts_stay c i)) (h.parts i within);
          ties = λ i within. subst (λ cs. TieOf i (core.step_word past room comes w.word kind) (core.step_slot past room comes w.word w.slot kind ∷ []) cs (get_or w.mutexes i 0)) (sym (cores_now c)) (lock_ties kind may i (get_or w.mutexes i 0) (h.ties i within));
        }

    -- a step on a mutex's word
    module _ (i : ℕ) (within : i < m) (kind : MutexKind) (may : mutex.step_may k (mutex_of i v) kind) where
      found : ℕ
      found = get_or w.mutexes i 0

      left : ℕ
      left = mutex.step_word (get_or w.mutexes i 0) k (mutex_of i v) kind

      abbrev part : MutexView
      part = seat_after mutex_steps (get_or w.mutexes i 0) (w.logs i) k (mutex_of i v) kind

      part_at : get_elem? (map (mutex_of i) w.views) k ≡ some (mutex_of i v)
      part_at = at_map (mutex_of i) w.views k v at

      part_now : IsMutexWorld (world_after mutex_steps (mutex_world past room comes ceilings m w i) k (mutex_of i v) kind)
      part_now = steps.step_keeps (mutex_world past room comes ceilings m w i) (h.parts i within) k (mutex_of i v) part_at kind may

      near : k < thread_limit
      near =
          let few = (h.parts i within).history.tied.few in
          let held = map (λ (x : MutexView). x.held) (map (mutex_of i) w.views) in
          let here = at_below held k (mutex_of i v).held (at_map (λ (x : MutexView). x.held) (map (mutex_of i) w.views) k (mutex_of i v) part_at) in
          omega arith

      -- with the core that the thread has then, where the lock and the ties stand over it
      word_keeps : (c : CorePart B) → CoreStands past comes first w.log w.word (w.slot ∷ []) (set (map core_of w.views) k c)
          → TieOf i w.word (w.slot ∷ []) (set (map core_of w.views) k c) (mutex.step_word (get_or w.mutexes i 0) k (mutex_of i v) kind)
          → ((j word : ℕ) → j ≢ i → TieOf j w.word (w.slot ∷ []) (map core_of w.views) word → TieOf j w.word (w.slot ∷ []) (set (map core_of w.views) k c) word)
          → Stands (record {
            word = w.word;
            slot = w.slot;
            log = w.log;
            mutexes = set w.mutexes i (mutex.step_word (get_or w.mutexes i 0) k (mutex_of i v) kind);
            logs = λ j. if j == i then w.logs i ++ mutex.step_entries (get_or w.mutexes i 0) k (mutex_of i v) kind else w.logs j;
            views = set w.views k (put_core (put_mutex i v part) c);
          })
      word_keeps c locked mine others = record {
        count = length-set w.mutexes i n ∙ h.count;
        locked = subst (λ cs. CoreStands past comes first w.log w.word (w.slot ∷ []) cs) (sym cores_are) locked;
        parts = λ j inside. dite (ℕ_discrete j i)
            (λ (e : j ≡ i). subst (λ (x : ℕ). IsMutexWorld (record { word = get_or (set w.mutexes i n) x 0; log = log_at x; views = map (mutex_of x) (set w.views k u) })) (sym e)
            (subst (λ (z : (ℕ × List MutexEntry) × List MutexView). IsMutexWorld (record { word = z.0.0; log = z.0.1; views = z.1 })) (λ q. ((sym word_same q, sym log_same q), sym views_same q)) part_now))
            (λ (ne : j ≢ i). subst (λ (z : (ℕ × List MutexEntry) × List MutexView). IsMutexWorld (record { word = z.0.0; log = z.0.1; views = z.1 })) (λ q. ((sym (word_else j ne) q, sym (log_else j ne) q), sym (views_else j ne) q)) (h.parts j inside));
        ties = λ j inside. dite (ℕ_discrete j i)
            (λ (e : j ≡ i). subst (λ (x : ℕ). TieOf x w.word (w.slot ∷ []) (map core_of (set w.views k u)) (get_or (set w.mutexes i n) x 0)) (sym e)
            (subst (λ (z : List (CorePart B) × ℕ). TieOf i w.word (w.slot ∷ []) z.0 z.1) (λ q. (sym cores_are q, sym word_same q)) mine))
            (λ (ne : j ≢ i). subst (λ (z : List (CorePart B) × ℕ). TieOf j w.word (w.slot ∷ []) z.0 z.1) (λ q. (sym cores_are q, sym (word_else j ne) q)) (others j (get_or w.mutexes j 0) ne (h.ties j inside)));
      }
        where
          n : ℕ
          n = mutex.step_word (get_or w.mutexes i 0) k (mutex_of i v) kind

          u : ThreadView B MutexView
          u = put_core (put_mutex i v part) c

          log_at : ℕ → List MutexEntry
          log_at j = if j == i then w.logs i ++ mutex.step_entries (get_or w.mutexes i 0) k (mutex_of i v) kind else w.logs j

          cores_are : map core_of (set w.views k u) ≡ set (map core_of w.views) k c
          cores_are = map-set core_of w.views k u

          word_same : get_or (set w.mutexes i n) i 0 ≡ n
          word_same = get_or-set_same w.mutexes i n 0 (let all = h.count in omega arith)

          word_else : (j : ℕ) → j ≢ i → get_or (set w.mutexes i n) j 0 ≡ get_or w.mutexes j 0
          word_else j ne = get_or-set_other w.mutexes i j n 0 ne

          log_same : log_at i ≡ w.logs i ++ mutex.step_entries (get_or w.mutexes i 0) k (mutex_of i v) kind
          log_same = ap (λ b. if b then w.logs i ++ mutex.step_entries (get_or w.mutexes i 0) k (mutex_of i v) kind else w.logs i) (eq-eqb i i refl)

          log_else : (j : ℕ) → j ≢ i → log_at j ≡ w.logs j
          log_else j ne = ap (λ b. if b then w.logs i ++ mutex.step_entries (get_or w.mutexes i 0) k (mutex_of i v) kind else w.logs j) (ne_eqb j i ne)

          views_same : map (mutex_of i) (set w.views k u) ≡ set (map (mutex_of i) w.views) k part
          views_same = map-set (mutex_of i) w.views k u ∙ ap (λ p. set (map (mutex_of i) w.views) k p) (parts_apart.part_put i v part)

          views_else : (j : ℕ) → j ≢ i → map (mutex_of j) (set w.views k u) ≡ map (mutex_of j) w.views
          views_else j ne = map-set (mutex_of j) w.views k u ∙ ap (λ p. set (map (mutex_of j) w.views) k p) (parts_apart.part_else i j v part ne) ∙ set_again (map (mutex_of j) w.views) k (mutex_of j v) (at_map (mutex_of j) w.views k v at)

      again : set (map core_of w.views) k (core_of v) ≡ map core_of w.views
      again = set_again (map core_of w.views) k (core_of v) core_at

      -- by the thread that has the kernel
      by_holder : HasFor i (core_of v) → Stands (record {
        word = w.word;
        slot = w.slot;
        log = w.log;
        mutexes = set w.mutexes i (mutex.step_word (get_or w.mutexes i 0) k (mutex_of i v) kind);
        logs = λ j. if j == i then w.logs i ++ mutex.step_entries (get_or w.mutexes i 0) k (mutex_of i v) kind else w.logs j;
        views = set w.views k (put_core (put_mutex i v part) (noted_if true i (mutex.step_word (get_or w.mutexes i 0) k (mutex_of i v) kind) (core_of v)));
      })
      by_holder (g, has, about) =
          let n = mutex.step_word (get_or w.mutexes i 0) k (mutex_of i v) kind in
          word_keeps (noted_if true i n (core_of v))
          (lock_marked past comes first ceilings i k (core_of v) g has about w.word (w.slot ∷ []) (map core_of w.views) h.locked.0 core_at n, log_marked past comes first ceilings i k (core_of v) g has about w.word (w.slot ∷ []) (map core_of w.views) h.locked.0 core_at n w.log h.locked.1)
          (tie_marking past comes first ceilings i k (core_of v) g has about w.word (w.slot ∷ []) (map core_of w.views) h.locked.0 core_at n)
          (λ j word ne tied. ties_beside past comes first ceilings i k (core_of v) g has about w.word (w.slot ∷ []) (map core_of w.views) h.locked.0 core_at n j word ne tied)

      -- by anybody, where the tie holds over the word that is left
      by_anybody : TieOf i w.word (w.slot ∷ []) (map core_of w.views) (mutex.step_word (get_or w.mutexes i 0) k (mutex_of i v) kind) → Stands (record {
        word = w.word;
        slot = w.slot;
        log = w.log;
        mutexes = set w.mutexes i (mutex.step_word (get_or w.mutexes i 0) k (mutex_of i v) kind);
        logs = λ j. if j == i then w.logs i ++ mutex.step_entries (get_or w.mutexes i 0) k (mutex_of i v) kind else w.logs j;
        views = set w.views k (put_core (put_mutex i v part) (core_of v));
      })
      by_anybody mine =
          word_keeps (core_of v) (subst (λ cs. CoreStands past comes first w.log w.word (w.slot ∷ []) cs) (sym again) h.locked)
          (subst (λ cs. TieOf i w.word (w.slot ∷ []) cs (mutex.step_word (get_or w.mutexes i 0) k (mutex_of i v) kind)) (sym again) mine)
          (λ j word ne tied. subst (λ cs. TieOf j w.word (w.slot ∷ []) cs word) (sym again) tied)

      stepping : ceilings i ≡ false → StaysPlain (get_or w.mutexes i 0) (mutex.step_word (get_or w.mutexes i 0) k (mutex_of i v) kind) → TieOf i w.word (w.slot ∷ []) (map core_of w.views) (mutex.step_word (get_or w.mutexes i 0) k (mutex_of i v) kind)
      stepping free_of plain = tie_stepping past comes first ceilings i w.word (w.slot ∷ []) (map core_of w.views) (get_or w.mutexes i 0) (mutex.step_word (get_or w.mutexes i 0) k (mutex_of i v) kind) free_of plain (h.ties i within)

    word_step : (i : ℕ) (kind : MutexKind) → one_may past room comes ceilings m k v (on_word i kind) → Stands (one_after past room comes ceilings m w k v (on_word i kind))
    word_step i claims (within, may, who) = by_holder i within claims may who
    word_step i settles (within, may, who) = by_holder i within settles may who
    word_step i (offers next more) (within, may, who) = by_holder i within (offers next more) may who
    word_step i frees (within, may, who) = by_holder i within frees may who
    word_step i forgets (within, may, who) = by_holder i within forgets may who
    word_step i awaits (within, may, who) = by_holder i within awaits may who
    word_step i accepts (within, may, who) = by_holder i within accepts may who
    word_step i asks (within, may, who) = by_anybody i within asks may (h.ties i within)
    word_step i unlocks (within, may, who) = by_anybody i within unlocks may (stepping i within unlocks may (who refl) (unlock_stays (get_or w.mutexes i 0) k (near i within unlocks may)))
    word_step i tries (within, may, who) = by (ceilings i) refl who
      where
        by : (b : Bool) → ceilings i ≡ b → MatchBool b (HasFor i (core_of v)) (is_unlocking tries ≡ true → ceilings i ≡ false)
            → Stands (record {
              word = w.word;
              slot = w.slot;
              log = w.log;
              mutexes = set w.mutexes i (mutex.step_word (get_or w.mutexes i 0) k (mutex_of i v) tries);
              logs = λ j. if j == i then w.logs i ++ mutex.step_entries (get_or w.mutexes i 0) k (mutex_of i v) tries else w.logs j;
              views = set w.views k (put_core (put_mutex i v (seat_after mutex_steps (get_or w.mutexes i 0) (w.logs i) k (mutex_of i v) tries)) (noted_if b i (mutex.step_word (get_or w.mutexes i 0) k (mutex_of i v) tries) (core_of v)));
            })
        by true e who = by_holder i within tries may who
        by false e who = by_anybody i within tries may (stepping i within tries may e (try_stays (get_or w.mutexes i 0) k (near i within tries may)))

    pub one_keeps : (kind : OneKind S) → one_may past room comes ceilings m k v kind → Stands (one_after past room comes ceilings m w k v kind)
    one_keeps (on_lock kind) may = lock_keeps kind may
    one_keeps (on_word i kind) may = word_step i kind may
    one_keeps (looks n) may = h

  -- a step by a token of one thread
  acting_keeps : (d : OneDealing S B) (id k : ℕ) (v : ThreadView B MutexView) (kind : OneKind S) → StandsInOne past room comes ceilings m first d → get_elem? d.hands id ≡ some (place k v ∷ []) → one_may past room comes ceilings m k v kind
      → (one_after past room comes ceilings m d.world k v kind).views ≡ set d.world.views k (view_after past room comes ceilings m d.world k v kind)
      → StandsInOne past room comes ceilings m first (record { world = one_after past room comes ceilings m d.world k v kind; hands = set d.hands id (place k (view_after past room comes ceilings m d.world k v kind) ∷ []) })
  acting_keeps d id k v kind h at may now =
      let here = (h.1.same id (place k v ∷ []) at).0 in
      let u = view_after past room comes ceilings m d.world k v kind in
      (one_keeps d.world h.0 k v here kind may, subst (λ vs. Deals vs (set d.hands id (place k u ∷ []))) (sym now) (deals_turn d.world.views d.hands id k v u h.1 at))

  acts_by : (d : OneDealing S B) (id k : ℕ) (v : ThreadView B MutexView) (kind : OneKind S) (others : Hand (ThreadView B MutexView)) → others ≡ []
      → ◌≡◌ {A = OneDealing S B} (record { world = one_after past room comes ceilings m d.world k v kind; hands = set d.hands id (place k (view_after past room comes ceilings m d.world k v kind) ∷ others) })
      (record { world = one_after past room comes ceilings m d.world k v kind; hands = set d.hands id (place k (view_after past room comes ceilings m d.world k v kind) ∷ []) })
  acts_by d id k v kind others alone = ap (λ (hand : Hand (ThreadView B MutexView)). record { world = one_after past room comes ceilings m d.world k v kind; hands = set d.hands id (place k (view_after past room comes ceilings m d.world k v kind) ∷ hand) }) alone

  dealing_keeps : (d : OneDealing S B) (e : DealingEvent (OneKind S)) (t : OneDealing S B) → StandsInOne past room comes ceilings m first d → OneDealingStep past room comes ceilings m d e t → StandsInOne past room comes ceilings m first t
  dealing_keeps d (acts id (on_lock kind)) t h (k, v, others, at, alone, may, changed) =
      subst (StandsInOne past room comes ceilings m first) (sym (changed ∙ acts_by d id k v (on_lock kind) others alone))
      (acting_keeps d id k v (on_lock kind) h (at ∙ ap (λ hand. some (place k v ∷ hand)) alone) may refl)
  dealing_keeps d (acts id (on_word i kind)) t h (k, v, others, at, alone, may, changed) =
      subst (StandsInOne past room comes ceilings m first) (sym (changed ∙ acts_by d id k v (on_word i kind) others alone))
      (acting_keeps d id k v (on_word i kind) h (at ∙ ap (λ hand. some (place k v ∷ hand)) alone) may refl)
  dealing_keeps d (acts id (looks n)) t h (k, v, others, at, alone, may, changed) =
      subst (StandsInOne past room comes ceilings m first) (sym (changed ∙ ap (λ hands. record { world = d.world; hands = hands }) (set_again d.hands id (place k v ∷ others) at))) h
  dealing_keeps d (cuts id) t h (hand, at, changed) = subst (StandsInOne past room comes ceilings m first) (sym changed) (h.0, deals_split d.world.views d.hands id hand h.1 at)
  dealing_keeps d (gathers id other) t h (hand, theirs, at, ne, at', changed) =
      subst (StandsInOne past room comes ceilings m first) (sym changed) (h.0, deals_join d.world.views d.hands id other hand theirs h.1 at ne (set_else d.hands id other (hand ++ theirs) ne ∙ at'))

  -- at the opening each word is tied to what is recorded
  abbrev pub OpensTied : S → Type 0
  OpensTied y = (i : ℕ) → i < m → TieOf i 0 (some (Some y) ∷ []) (replicate (threads_of (past y)) (newcomer_part (past y) first)) 0

  -- there are at most 256 threads, where there are mutexes
  opens_one : (y : S) → ((i : ℕ) → i < m → threads_of (past y) ≤ thread_limit) → IsLegal (past y) → (past y).entries ≡ [] → comes first y → OpensTied y → Stands ((opened_one past room comes ceilings m first y).world)
  opens_one y few legal none_yet from tied =
      let n = threads_of (past y) in
      let one = newcomer_view (past y) first m n in record {
        count = length-replicate m 0;
        locked = subst (λ cs. CoreStands past comes first [] 0 (some (Some y) ∷ []) cs) (sym (map-replicate core_of n one)) (opens_core past comes first y n refl legal none_yet from, lock_opens (past y) first n);
        parts = λ i lt.
            let blank : map (mutex_of i) (replicate n one) ≡ replicate n (newcomer n) = map-replicate (mutex_of i) n one ∙ ap (replicate n) (at_blank past room comes (λ _ _ _ _ _. Unit {0}) first m (newcomer n) (newcomer 0) m i lt) in
            subst (λ (z : ℕ × List MutexView). IsMutexWorld (record { word = z.0; log = []; views = z.1 })) (λ j. (sym (zeros past room comes (λ _ _ _ _ _. Unit {0}) first m m i) j, sym blank j)) (mutex_opens n (few i lt));
        ties = λ i lt. subst (λ (z : List (CorePart B) × ℕ). TieOf i 0 (some (Some y) ∷ []) z.0 z.1) (λ j. (sym (map-replicate core_of n one) j, sym (zeros past room comes (λ _ _ _ _ _. Unit {0}) first m m i) j)) (tied i lt);
      }

  -- after any list of events from the opening
  pub one_dealings_keep : (y : S) → ((i : ℕ) → i < m → threads_of (past y) ≤ thread_limit) → IsLegal (past y) → (past y).entries ≡ [] → comes first y → OpensTied y → (events : List (DealingEvent (OneKind S))) (t : OneDealing S B)
      → Run (OneDealingStep past room comes ceilings m) (opened_one past room comes ceilings m first y) events t → StandsInOne past room comes ceilings m first t
  one_dealings_keep y few legal none_yet from tied events t run =
      let d = opened_one past room comes ceilings m first y in
      run_keeps (OneDealingStep past room comes ceilings m) (StandsInOne past room comes ceilings m first) dealing_keeps d t events (opens_one y few legal none_yet from tied, deals_opening d.world.views) run

  -- no other thread has the kernel
  abbrev pub NoOther : OneWorld S B → ℕ → Type 0
  NoOther w k = (j : ℕ) (x : ThreadView B MutexView) → j ≢ k → get_elem? w.views j ≡ some x → x.core.taken ≡ None

  -- so the lock's last state is that of this thread or of none
  ours : (w : OneWorld S B) (stands : Stands w) (k : ℕ) (u : ThreadView B MutexView) → get_elem? w.views k ≡ some u → NoOther w k → IsOurs k stands.locked.1.world.state
  ours w stands k u there none_else =
      let lock = stands.locked.1 in
      let tied = lock.world.history.tied in ⊎_elim
      (λ (f : IsFree past comes first stands.locked.0.history w.word (w.slot ∷ []) (map core_of w.views)). ours_free k lock.world.state (sym f.word_is ∙ tied.word))
      (λ (t : IsTaken stands.locked.0.history w.word (w.slot ∷ []) (map core_of w.views)).
      let at = at_map core_of w.views k u there in
      let mine : t.holder ≡ k = dite (ℕ_discrete t.holder k) (λ same. same) (λ ne. absurd (none_some _ t.holds.0.taken t.holds.2 (by t.holder t.holds.0 ne t.holds.1))) in
      let core : t.holds.0 ≡ u.core = some-injective t.holds.0 u.core (sym t.holds.1 ∙ ap (get_elem? (map core_of w.views)) mine ∙ at) in
      let held = tied.holder k u.core.lock.held (at_map (λ (x : LockView). x.held) (map lock_of (map core_of w.views)) k u.core.lock (at_map lock_of (map core_of w.views) k u.core at)) in
      ours_held k lock.world.state (held ∙ (lock.knows k u.core at).has ∙ ap (λ (c : CorePart B). is_some c.taken) (sym core) ∙ ap is_some t.holds.2))
      stands.locked.0.who
    where
      by : (j : ℕ) (c : CorePart B) → j ≢ k → get_elem? (map core_of w.views) j ≡ some c → c.taken ≡ None
      by j c ne at =
          let some_ = at_of_map core_of w.views j c at in
          subst (λ (x : CorePart B). x.taken ≡ None) some_.2 (none_else j some_.0 ne some_.1)

  -- while no other thread has the kernel, nothing that one thread may come to know instead has another number of lost takes
  pub none_turned_away : (w t : OneWorld S B) → Stands w → Stands t → (k : ℕ) (u v : ThreadView B MutexView) → get_elem? w.views k ≡ some u → NoOther w k → t.views ≡ set w.views k v → v.core.lost ≡ u.core.lost
  none_turned_away w t stands now k u v there none_else changed =
      no_false_loss w.log t.log w.word t.word (map core_of w.views) k u.core v.core stands.locked.1
      (subst (λ cs. LockKept t.log t.word cs) (ap (map core_of) changed ∙ map-set core_of w.views k v) now.locked.1)
      (ours w stands k u there none_else)
      (at_map core_of w.views k u there)
