-- The ranks that are kept are the effective ranks, and what is known of them after each change.
use Rattle.std.proofs.Common.{◌≡◌, ◌≢◌, ℕ, zero, suc, max, ◌<◌, ◌==◌, Bool, true, false, not, ◌||◌, ◌⊎◌, inl, inr, List, [], ◌∷◌, length, map, slice_get, slice_set, slice_index, slice_index_or, replicate, Option, Some, None, is_some, if◌then◌else◌, refl, sym, ap, ◌∙◌, subst, arith}
use Rattle.std.specs.Option.{option_and, option_map_or}
use Rattle.std.proofs.lemmas.Bool.{false≢true, eqb-true}
use Rattle.std.proofs.lemmas.List.{length-set, get_or-set_same, get_or-set_other}
use Rattle.evl_base.proofs.Plain.{eqb-same as same}
use Rattle.evl_base.specs.declared.mutex_kind.MutexKind.{MutexKind}
use Rattle.evl_mutex.specs.declared.waiter.Waiter.{Waiter}
use Rattle.evl_mutex.specs.declared.mutex_record.MutexRecord.{MutexRecord}
use Rattle.evl_mutex.specs.Queues.{is_nobody, stands_in, AreApart}
use Rattle.evl_mutex.specs.Mutexes as mutex
use Rattle.evl_mutex.specs.Mutexes.{Mutex, has_ceiling, ceiling_of, drop_waiter, is_waited_for_by, opened_mutex, released_mutex}
use Rattle.evl_mutex.specs.Chains.{waits_for, Follows}
use Rattle.evl_mutex.specs.Ranks.{ceiling_for, ceilings}
use Rattle.evl_mutex.specs.Owners.{Owners, IsSound, rank_of}
use Rattle.evl_mutex.specs.Lending.{IsNearlyRight, IsOrderly, IsRight, rank_at}
use Rattle.evl_mutex.specs.Views.{ahead_in, mutex_of, mutexes_of, AreNoted, AreStored, OwnersAreThere, looked_up, looked_up_at, noted_behind, unnoted}
use Rattle.evl_mutex.proofs.ListLaws.{map-set}
use Rattle.evl_mutex.proofs.MutexLaws.{waits-first, first_of, drop-owner, waits-moved, stands-queues}
use Rattle.evl_mutex.proofs.NotedLaws.{behind-at, inherited-alike, not_noted}
use Rattle.evl_mutex.proofs.SoundLaws.{all-set, all-at, here, stood}
use Rattle.evl_mutex.proofs.HandingLaws.{ceilings-unowned, unowned-opened}
use Rattle.evl_mutex.proofs.CallLaws.{low_wait, there}
use Rattle.evl_mutex.proofs.CeilingLaws.{ceiling-away, ceiling-none, ceilings-set, looked-at, count-looked, count-looked_at}
use Rattle.evl_mutex.proofs.LendingLaws.{lent-is, lent-based, lent-joined, lent-moved, same_or_not}

set-same : {X : Type 0} (xs : List X) (n : ℕ) (x : X) → slice_get xs n ≡ Some x → slice_set xs n x ≡ xs
set-same [] n x e = refl
set-same (y ∷ ys) zero x e = ap (λ z. z ∷ ys) (one e)
  where
    one : Some y ≡ Some x → x ≡ y
    one e = cc
set-same (y ∷ ys) (suc n) x e = ap (λ zs. y ∷ zs) (set-same ys n x e)

get-set : {X : Type 0} (xs : List X) (n : ℕ) (x y : X) → slice_get xs n ≡ Some x → slice_get (slice_set xs n y) n ≡ Some y
get-set [] n x y e = cc
get-set (z ∷ zs) zero x y e = refl
get-set (z ∷ zs) (suc n) x y e = get-set zs n x y e

-- the recorded owners are threads

pub owner-there : (n t to : ℕ) (ms : List Mutex) → OwnersAreThere n ms → waits_for ms t ≡ Some to → to < n
owner-there n t to [] h e = cc
owner-there n t to (m ∷ ms) h e = by_test (is_waited_for_by t m) (λ e. owner-there n t to ms h.1 e) (sym (waits-first m ms t) ∙ e)
  where
    by_test : (b : Bool) → (waits_for ms t ≡ Some to → to < n) → first_of b m.owner ms t ≡ Some to → to < n
    by_test true rest e = h.0 to e
    by_test false rest e = rest e

pub there-dropped : (n u : ℕ) (ms : List Mutex) → OwnersAreThere n ms → OwnersAreThere n (map (drop_waiter u) ms)
there-dropped n u [] h = tt
there-dropped n u (m ∷ ms) h = (λ owner e. h.0 owner (drop-owner u m owner e), there-dropped n u ms h.1)

pub there-opened : (n : ℕ) (kinds : List MutexKind) → OwnersAreThere n (map opened_mutex kinds)
there-opened n [] = tt
there-opened n (k ∷ ks) = (λ owner e. nobody e, there-opened n ks)
  where
    nobody : {owner : ℕ} → None ≡ Some owner → owner < n
    nobody e = cc

-- whom each thread waits for, as it is noted, is orderly

follows-alike : (f g : ℕ → Option ℕ) → ((t : ℕ) → f t ≡ g t) → (between : List ℕ) (from to : ℕ) → Follows f between from to → Follows g between from to
follows-alike f g h [] from to e = sym (h from) ∙ e
follows-alike f g h (mid ∷ others) from to e = (sym (h from) ∙ e.0, follows-alike f g h others mid to e.1)

pub orderly : (o : Owners) → IsSound o → (ahead : List (Option ℕ)) → AreNoted ahead o.mutexes → OwnersAreThere (length o.base) o.mutexes → IsOrderly (length o.base) (ahead_in ahead)
orderly o is ahead noted owners = record {
  no_ring = λ t h. is.no_ring t (record { between = h.between; path = follows-alike (ahead_in ahead) (waits_for o.mutexes) noted h.between t t h.path });
  waiters = λ from to e. low_wait o is from to (sym (noted from) ∙ e);
  owners = λ from to e. owner-there (length o.base) from to o.mutexes owners (sym (noted from) ∙ e);
}

-- of so many as are kept
pub orderly-by : (base : List ℕ) (ms : List Mutex) (ahead : List (Option ℕ)) → IsSound (record { base = base; mutexes = ms }) → AreNoted ahead ms → OwnersAreThere (length base) ms
    → (n : ℕ) → n ≡ length base → IsOrderly n (ahead_in ahead)
orderly-by base ms ahead is noted owners n count =
    let P : ℕ → Type 0 = λ k. IsOrderly k (ahead_in ahead) in
    subst P (sym count) (orderly (record { base = base; mutexes = ms }) is ahead noted owners)

-- the ranks that are kept are the effective ranks
pub rank-stored : (o : Owners) (ahead : List (Option ℕ)) (lent raised : List ℕ) → IsSound o → AreNoted ahead o.mutexes → AreStored o.base o.mutexes ahead lent raised
    → (t : ℕ) → rank_at lent raised t ≡ rank_of o t
rank-stored o ahead lent raised is noted stored t =
    let n = length o.base in
    omega (
      arith,
      lent-is n (slice_index o.base) (ahead_in ahead) (slice_index lent) (orderly o is ahead noted stored.there) stored.lent_right t,
      inherited-alike (ahead_in ahead) (waits_for o.mutexes) noted n (slice_index o.base) t n,
      stored.raised_right t,
    )

-- what is lent after each change of the notes

module _ (base : ℕ → ℕ) (lent : ℕ → ℕ) (ahead : List (Option ℕ)) where
  abbrev next : ℕ → Option ℕ
  next = ahead_in ahead

  -- a thread waits no more: nothing changes but for whom it waited for
  pub right-left : (u t : ℕ) → (next u ≡ Some t → ⊥) → IsRight base next lent t → IsRight base (ahead_in (slice_set ahead u None)) lent t
  right-left u t away is = lent-moved base next (ahead_in (slice_set ahead u None)) lent t (lent t) came goes is
    where
      came : (from : ℕ) → ahead_in (slice_set ahead u None) from ≡ Some t → next from ≡ Some t
      came from e = elim (same_or_not from u) [
        | inl here ↦ absurd (nothing (ap (ahead_in (slice_set ahead u None)) here ∙ not_noted ahead u) e)
        | inr ne ↦ sym (get_or-set_other ahead u from None None ne) ∙ e
      ]
        where
          nothing : {o : Option ℕ} → o ≡ None → o ≡ Some t → ⊥
          nothing a b = cc

      goes : (from : ℕ) → next from ≡ Some t → ahead_in (slice_set ahead u None) from ≡ Some t
      goes from e = get_or-set_other ahead u from None None (λ here. away (ap next (sym here) ∙ e)) ∙ e

  -- where it is one of those that wait
  pub right-unnoted : (u : ℕ) (b : Bool) → ((t : ℕ) → IsRight base next lent t) → (t : ℕ) → (option_and (if b then Some u else None) (next u) ≡ Some t → ⊥)
      → IsRight base (ahead_in (unnoted ahead (if b then Some u else None))) lent t
  right-unnoted u true right t away = right-left u t away (right t)
  right-unnoted u false right t away = right t

  -- a thread begins to wait: nothing changes but for whom it waits for
  module _ (waiter owner : ℕ) (none : next waiter ≡ None) (there : waiter < length ahead) where
    abbrev joined : ℕ → Option ℕ
    joined = ahead_in (slice_set ahead waiter (Some owner))

    pub joined-now : joined waiter ≡ Some owner
    joined-now = get_or-set_same ahead waiter (Some owner) None there

    joined-others : (t : ℕ) → t ≢ waiter → joined t ≡ next t
    joined-others t ne = get_or-set_other ahead waiter t (Some owner) None ne

    pub right-joined : (t : ℕ) → t ≢ owner → IsRight base next lent t → IsRight base joined lent t
    right-joined t ne is = lent-moved base next joined lent t (lent t) came goes is
      where
        came : (from : ℕ) → joined from ≡ Some t → next from ≡ Some t
        came from e = elim (same_or_not from waiter) [
          | inl here ↦ absurd (ne (one (sym joined-now ∙ ap joined (sym here) ∙ e)))
          | inr away ↦ sym (joined-others from away) ∙ e
        ]
          where
            one : Some owner ≡ Some t → t ≡ owner
            one e = cc

        goes : (from : ℕ) → next from ≡ Some t → joined from ≡ Some t
        goes from e = joined-others from (λ here. nothing (sym none ∙ ap next (sym here) ∙ e)) ∙ e
          where
            nothing : None ≡ Some t → ⊥
            nothing e = cc

    pub nearly-joined : (n : ℕ) → IsOrderly n joined → owner < n → ((t : ℕ) → IsRight base next lent t) → IsNearlyRight n base joined lent owner (max (lent owner) (lent waiter))
    nearly-joined n is low right = record {
      orderly = is;
      there = low;
      here = lent-joined base next joined lent waiter owner none joined-now joined-others (right owner);
      others = λ t ne. right-joined t ne (right t);
    }

  -- a mutex goes to its first waiter: nothing changes but for that and for whom it waited for
  module _ (o : Owners) (n : ℕ) (m : Mutex) (at : slice_get o.mutexes n ≡ Some m) (is : IsSound o) (was : AreNoted ahead o.mutexes) (all : length ahead ≡ length o.base) where
    standing : (t : ℕ) → is_waited_for_by t m ≡ true → next t ≡ m.owner
    standing t e =
        let P : List Mutex → Type 0 = λ ms. waits_for ms t ≡ m.owner in
        was t ∙ subst P (set-same o.mutexes n m at) (waits-moved t m m e e o.mutexes n at (is.once t))

    module _ (w : Waiter) (ws : List Waiter) (is_queue : m.waiters ≡ w ∷ ws) where
      abbrev handed : ℕ → Option ℕ
      handed = ahead_in (noted_behind ws (Some w.thread) (slice_set ahead w.thread None))

      low : (t : ℕ) → stands_in t ws ≡ true → t < length (slice_set ahead w.thread None)
      low t e = omega (arith, length-set ahead w.thread None, all, is.low t (stands-queues t o.mutexes n m at (stood o n m at is w ws is_queue t ∙ or_later (w.thread == t) e)))
        where
          or_later : (a : Bool) {b : Bool} → b ≡ true → (a || b) ≡ true
          or_later true e = refl
          or_later false e = e

      handed-at : (t : ℕ) → handed t ≡ (if stands_in t ws then Some w.thread else ahead_in (slice_set ahead w.thread None) t)
      handed-at t = behind-at ws (Some w.thread) (slice_set ahead w.thread None) low t

      first_gone : handed w.thread ≡ None
      first_gone =
          handed-at w.thread ∙ ap (λ b. if b then Some w.thread else ahead_in (slice_set ahead w.thread None) w.thread) ((let P : List Waiter → Type 0 = AreApart in subst P is_queue (here o n m at is).apart).0)
          ∙ not_noted ahead w.thread

      pub right-handed : (t : ℕ) → ((from : ℕ) → stands_in from ws ≡ true → t ≢ w.thread) → (m.owner ≡ Some t → ⊥) → IsRight base next lent t → IsRight base handed lent t
      right-handed t ne away right = lent-moved base next handed lent t (lent t) came goes right
        where
          came : (from : ℕ) → handed from ≡ Some t → next from ≡ Some t
          came from e = by_test (stands_in from ws) refl (same_or_not from w.thread) (sym (handed-at from) ∙ e)
            where
              one : Some w.thread ≡ Some t → t ≡ w.thread
              one e = cc

              nothing : {p : Option ℕ} → p ≡ None → p ≡ Some t → ⊥
              nothing a b = cc

              by_test : (b : Bool) → stands_in from ws ≡ b → (from ≡ w.thread) ⊎ (from ≢ w.thread)
                  → (if stands_in from ws then Some w.thread else ahead_in (slice_set ahead w.thread None) from) ≡ Some t → next from ≡ Some t
              by_test true at_behind self e = absurd (ne from at_behind (one (ap (λ b. if b then Some w.thread else ahead_in (slice_set ahead w.thread None) from) (sym at_behind) ∙ e)))
              by_test false at_behind (inl self) e =
                  absurd (nothing (ap (ahead_in (slice_set ahead w.thread None)) self ∙ not_noted ahead w.thread) (ap (λ b. if b then Some w.thread else ahead_in (slice_set ahead w.thread None) from) (sym at_behind) ∙ e))
              by_test false at_behind (inr differs) e =
                  sym (get_or-set_other ahead w.thread from None None differs) ∙ ap (λ b. if b then Some w.thread else ahead_in (slice_set ahead w.thread None) from) (sym at_behind) ∙ e

          goes : (from : ℕ) → next from ≡ Some t → handed from ≡ Some t
          goes from e = by_test (stands_in from ws) refl (same_or_not from w.thread)
            where
              queued : is_waited_for_by from m ≡ true → ⊥
              queued stands = away (sym (standing from stands) ∙ e)

              or_later : (a : Bool) {b : Bool} → b ≡ true → (a || b) ≡ true
              or_later true e = refl
              or_later false e = e

              by_test : (b : Bool) → stands_in from ws ≡ b → (from ≡ w.thread) ⊎ (from ≢ w.thread) → handed from ≡ Some t
              by_test true at_behind self = absurd (queued (stood o n m at is w ws is_queue from ∙ or_later (w.thread == from) at_behind))
              by_test false at_behind (inl self) =
                  absurd (queued (stood o n m at is w ws is_queue from ∙ ap (λ k. (w.thread == k) || stands_in from ws) self ∙ ap (λ b. b || stands_in from ws) (same w.thread)))
              by_test false at_behind (inr differs) =
                  handed-at from ∙ ap (λ b. if b then Some w.thread else ahead_in (slice_set ahead w.thread None) from) at_behind ∙ get_or-set_other ahead w.thread from None None differs ∙ e

    -- all but the next owner, where more wait, and the one before
    pub right-released : ((t : ℕ) → IsRight base next lent t) → (t : ℕ) → ((if (released_mutex m).more then (released_mutex m).next else None) ≡ Some t → ⊥) → (option_and (released_mutex m).next m.owner ≡ Some t → ⊥)
        → IsRight base (ahead_in (noted_behind (released_mutex m).after.waiters (released_mutex m).next (unnoted ahead (released_mutex m).next))) lent t
    right-released right t not_served away = by_queue m.waiters refl not_served away
      where
        by_queue : (ws : List Waiter) → m.waiters ≡ ws → ((if (mutex.handed_to m ws).more then (mutex.handed_to m ws).next else None) ≡ Some t → ⊥) → (option_and (mutex.handed_to m ws).next m.owner ≡ Some t → ⊥)
            → IsRight base (ahead_in (noted_behind (mutex.handed_to m ws).after.waiters (mutex.handed_to m ws).next (unnoted ahead (mutex.handed_to m ws).next))) lent t
        by_queue [] e not_served away = right t
        by_queue (w ∷ []) e not_served away = right-handed w [] e t (λ from stands. absurd (false≢true stands)) away (right t)
        by_queue (w ∷ v ∷ vs) e not_served away = right-handed w (v ∷ vs) e t (λ from stands here. not_served (ap Some (sym here))) away (right t)

    -- the next owner is a thread, and waits for nobody
    pub released-next : (t : ℕ) → (released_mutex m).next ≡ Some t
        → (t < length o.base) × (ahead_in (noted_behind (released_mutex m).after.waiters (released_mutex m).next (unnoted ahead (released_mutex m).next)) t ≡ None)
    released-next t e = by_queue m.waiters refl e
      where
        by_queue : (ws : List Waiter) → m.waiters ≡ ws → (mutex.handed_to m ws).next ≡ Some t
            → (t < length o.base) × (ahead_in (noted_behind (mutex.handed_to m ws).after.waiters (mutex.handed_to m ws).next (unnoted ahead (mutex.handed_to m ws).next)) t ≡ None)
        by_queue [] q e = cc
        by_queue (w ∷ ws) q e =
            let P : ℕ → Type 0 = λ k. (k < length o.base) × (handed w ws q k ≡ None) in
            subst P (one e)
            (is.low w.thread (stands-queues w.thread o.mutexes n m at (stood o n m at is w ws q w.thread ∙ ap (λ b. b || stands_in w.thread ws) (same w.thread))), first_gone w ws q)
          where
            one : Some w.thread ≡ Some t → w.thread ≡ t
            one e = cc

-- who is recorded of a mutex that is handed on
pub released-owner : (m : Mutex) (t : ℕ) → (released_mutex m).after.owner ≡ Some t → (released_mutex m).next ≡ Some t
released-owner m t e = by_queue m.waiters e
  where
    by_test : (b : Bool) (w : ℕ) → (if b then Some w else None) ≡ Some t → Some w ≡ Some t
    by_test true w e = e
    by_test false w e = cc

    by_queue : (ws : List Waiter) → (mutex.handed_to m ws).after.owner ≡ Some t → (mutex.handed_to m ws).next ≡ Some t
    by_queue [] e = cc
    by_queue (w ∷ ws) e = by_test (not (is_nobody ws) || has_ceiling m) w.thread e

pub released-kind : (m : Mutex) → (released_mutex m).after.kind ≡ m.kind
released-kind m = by_queue m.waiters
  where
    by_queue : (ws : List Waiter) → (mutex.handed_to m ws).after.kind ≡ m.kind
    by_queue [] = refl
    by_queue (w ∷ ws) = refl

-- one mutex is written

module _ (base : List ℕ) (ms : List Mutex) (n : ℕ) (m m2 : Mutex) (at : slice_get ms n ≡ Some m) (kind : m2.kind ≡ m.kind) (ahead : List (Option ℕ)) (lent raised : List ℕ)
    (was : AreStored base ms ahead lent raised) (owner_there : (owner : ℕ) → m2.owner ≡ Some owner → owner < length base) where
  abbrev now : List Mutex
  now = slice_set ms n m2

  pub there-now : OwnersAreThere (length base) now
  there-now = all-set (λ m. (owner : ℕ) → m.owner ≡ Some owner → owner < length base) ms n m2 was.there owner_there

  -- its ceiling counts for nobody else
  ceilings-apart : (t : ℕ) → (m.owner ≡ Some t → ⊥) → (m2.owner ≡ Some t → ⊥) → slice_index raised t ≡ ceilings t now
  ceilings-apart t before after = was.raised_right t ∙ sym (ceilings-set t m m2 (ceiling-away t m2 after ∙ sym (ceiling-away t m before)) ms n at)

  ceilings-same : (t : ℕ) → has_ceiling m2 ≡ false → slice_index raised t ≡ ceilings t now
  ceilings-same t none =
      was.raised_right t ∙ sym (ceilings-set t m m2 (ceiling-none t m2 none ∙ sym (ceiling-none t m (ap (λ k. is_some (ceiling_of k)) (sym kind) ∙ none))) ms n at)

  -- the ceilings of one thread are looked up
  raised-once : (thread : Option ℕ) → ((u : ℕ) → thread ≡ Some u → u < length base) → ((t : ℕ) → m.owner ≡ Some t → thread ≡ Some t) → ((t : ℕ) → m2.owner ≡ Some t → thread ≡ Some t)
      → (t : ℕ) → slice_index (looked_up_at (slice_get now n) now raised thread) t ≡ ceilings t now
  raised-once thread low before after t =
      ap (λ p. slice_index (looked_up_at p now raised thread) t) (get-set ms n m m2 at) ∙ by_test (has_ceiling m2) refl
    where
      by_test : (b : Bool) → has_ceiling m2 ≡ b → slice_index (if b then looked_up now raised thread else raised) t ≡ ceilings t now
      by_test true e = looked-at now raised (length base) was.raised_all thread low t (λ away. ceilings-apart t (λ h. away (before t h)) (λ h. away (after t h)))
      by_test false e = ceilings-same t e

  -- those of two
  raised-twice : (first second : Option ℕ) → ((u : ℕ) → first ≡ Some u → u < length base) → ((u : ℕ) → second ≡ Some u → u < length base)
      → ((t : ℕ) → m.owner ≡ Some t → first ≡ Some t) → ((t : ℕ) → m2.owner ≡ Some t → second ≡ Some t)
      → (t : ℕ) → slice_index (looked_up_at (slice_get now n) now (looked_up_at (slice_get now n) now raised first) second) t ≡ ceilings t now
  raised-twice first second low_first low_second before after t =
      ap (λ p. slice_index (looked_up_at p now (looked_up_at p now raised first) second) t) (get-set ms n m m2 at) ∙ by_test (has_ceiling m2) refl
    where
      by_test : (b : Bool) → has_ceiling m2 ≡ b → slice_index (if b then looked_up now (if b then looked_up now raised first else raised) second else (if b then looked_up now raised first else raised)) t ≡ ceilings t now
      by_test true e =
          looked-at now (looked_up now raised first) (length base) (count-looked now raised first ∙ was.raised_all) second low_second t
          (λ not_second. looked-at now raised (length base) was.raised_all first low_first t (λ not_first. ceilings-apart t (λ h. not_first (before t h)) (λ h. not_second (after t h))))
      by_test false e = ceilings-same t e

  -- what is kept then, with what is lent by what is noted
  module _ (noted : List (Option ℕ)) (lends : List ℕ) (all : length lends ≡ length base) (right : (t : ℕ) → IsRight (slice_index base) (ahead_in noted) (slice_index lends) t) where
    pub stored-once : (thread : Option ℕ) → ((u : ℕ) → thread ≡ Some u → u < length base) → ((t : ℕ) → m.owner ≡ Some t → thread ≡ Some t) → ((t : ℕ) → m2.owner ≡ Some t → thread ≡ Some t)
        → (ranks : List ℕ) → ranks ≡ looked_up_at (slice_get now n) now raised thread → AreStored base now noted lends ranks
    stored-once thread low before after ranks e = record {
      there = there-now;
      lent_all = all;
      raised_all = ap length e ∙ count-looked_at (slice_get now n) now raised thread ∙ was.raised_all;
      lent_right = right;
      raised_right = λ t. ap (λ l. slice_index l t) e ∙ raised-once thread low before after t;
    }

    pub stored-twice : (first second : Option ℕ) → ((u : ℕ) → first ≡ Some u → u < length base) → ((u : ℕ) → second ≡ Some u → u < length base)
        → ((t : ℕ) → m.owner ≡ Some t → first ≡ Some t) → ((t : ℕ) → m2.owner ≡ Some t → second ≡ Some t)
        → (between ranks : List ℕ) → between ≡ looked_up_at (slice_get now n) now raised first → ranks ≡ looked_up_at (slice_get now n) now between second → AreStored base now noted lends ranks
    stored-twice first second low_first low_second before after between ranks e f =
        let whole : ranks ≡ looked_up_at (slice_get now n) now (looked_up_at (slice_get now n) now raised first) second = f ∙ ap (λ l. looked_up_at (slice_get now n) now l second) e in
        record {
          there = there-now;
          lent_all = all;
          raised_all = ap length f ∙ count-looked_at (slice_get now n) now between second ∙ ap length e ∙ count-looked_at (slice_get now n) now raised first ∙ was.raised_all;
          lent_right = right;
          raised_right = λ t. ap (λ l. slice_index l t) whole ∙ raised-twice first second low_first low_second before after t;
        }

    pub stored-same : ((t : ℕ) → ceiling_for t m2 ≡ ceiling_for t m) → AreStored base now noted lends raised
    stored-same alike = record {
      there = there-now;
      lent_all = all;
      raised_all = was.raised_all;
      lent_right = right;
      raised_right = λ t. was.raised_right t ∙ sym (ceilings-set t m m2 (alike t) ms n at);
    }

-- one record is written
module _ {A : Type 0} (base : List ℕ) (ms : List (MutexRecord A)) (n : ℕ) (old new : MutexRecord A) (at : old ≡ slice_index_or ms n old) (inside : n < length ms) (kind : new.kind ≡ old.kind)
    (ahead : List (Option ℕ)) (lent raised : List ℕ) (was : AreStored base (mutexes_of ms) ahead lent raised) (owner_there : (owner : ℕ) → new.owner ≡ Some owner → owner < length base) where
  seen : slice_get (mutexes_of ms) n ≡ Some (mutex_of old)
  seen = there base ms n old new at inside

  pub written-there : OwnersAreThere (length base) (mutexes_of (slice_set ms n new))
  written-there =
      let P : List Mutex → Type 0 = λ l. OwnersAreThere (length base) l in
      subst P (sym (map-set mutex_of ms n new)) (there-now base (mutexes_of ms) n (mutex_of old) (mutex_of new) seen kind ahead lent raised was owner_there)

  module _ (noted : List (Option ℕ)) (lends : List ℕ) (all : length lends ≡ length base) (right : (t : ℕ) → IsRight (slice_index base) (ahead_in noted) (slice_index lends) t) where
    abbrev IsAfter : List Mutex → List ℕ → Type 0
    IsAfter l ranks = AreStored base l noted lends ranks

    pub written-once : (thread : Option ℕ) → ((u : ℕ) → thread ≡ Some u → u < length base) → ((t : ℕ) → old.owner ≡ Some t → thread ≡ Some t) → ((t : ℕ) → new.owner ≡ Some t → thread ≡ Some t)
        → (ranks : List ℕ) → ranks ≡ looked_up_at (slice_get (mutexes_of (slice_set ms n new)) n) (mutexes_of (slice_set ms n new)) raised thread
        → AreStored base (mutexes_of (slice_set ms n new)) noted lends ranks
    written-once thread low before after ranks e =
        let P : List Mutex → Type 0 = λ l. IsAfter l ranks in
        subst P (sym (map-set mutex_of ms n new))
        (stored-once base (mutexes_of ms) n (mutex_of old) (mutex_of new) seen kind ahead lent raised was owner_there noted lends all right thread low before after ranks
        (e ∙ ap (λ l. looked_up_at (slice_get l n) l raised thread) (map-set mutex_of ms n new)))

    pub written-twice : (first second : Option ℕ) → ((u : ℕ) → first ≡ Some u → u < length base) → ((u : ℕ) → second ≡ Some u → u < length base)
        → ((t : ℕ) → old.owner ≡ Some t → first ≡ Some t) → ((t : ℕ) → new.owner ≡ Some t → second ≡ Some t)
        → (between ranks : List ℕ) → between ≡ looked_up_at (slice_get (mutexes_of (slice_set ms n new)) n) (mutexes_of (slice_set ms n new)) raised first
        → ranks ≡ looked_up_at (slice_get (mutexes_of (slice_set ms n new)) n) (mutexes_of (slice_set ms n new)) between second
        → AreStored base (mutexes_of (slice_set ms n new)) noted lends ranks
    written-twice first second low_first low_second before after between ranks e f =
        let P : List Mutex → Type 0 = λ l. IsAfter l ranks in
        subst P (sym (map-set mutex_of ms n new))
        (stored-twice base (mutexes_of ms) n (mutex_of old) (mutex_of new) seen kind ahead lent raised was owner_there noted lends all right first second low_first low_second before after between ranks
        (e ∙ ap (λ l. looked_up_at (slice_get l n) l raised first) (map-set mutex_of ms n new)) (f ∙ ap (λ l. looked_up_at (slice_get l n) l between second) (map-set mutex_of ms n new)))

    pub written-same : ((t : ℕ) → ceiling_for t (mutex_of new) ≡ ceiling_for t (mutex_of old)) → AreStored base (mutexes_of (slice_set ms n new)) noted lends raised
    written-same alike =
        let P : List Mutex → Type 0 = λ l. IsAfter l raised in
        subst P (sym (map-set mutex_of ms n new))
        (stored-same base (mutexes_of ms) n (mutex_of old) (mutex_of new) seen kind ahead lent raised was owner_there noted lends all right alike)

pub and-is : (t : ℕ) (p q : Option ℕ) → option_and p q ≡ Some t → q ≡ Some t
and-is t None q e = cc
and-is t (Some u) q e = e

-- who is recorded of a mutex that is there
pub owner-at : (n place : ℕ) (m : Mutex) (ms : List Mutex) → slice_get ms place ≡ Some m → OwnersAreThere n ms → (owner : ℕ) → m.owner ≡ Some owner → owner < n
owner-at n place m ms at h = all-at (λ m. (owner : ℕ) → m.owner ≡ Some owner → owner < n) ms place m at h

pub owned-is : (thread t : ℕ) (owner : Option ℕ) → option_map_or (λ o. o == thread) owner false ≡ true → owner ≡ Some t → Some thread ≡ Some t
owned-is thread t None e h = cc
owned-is thread t (Some o) e h = ap Some (sym (eqb-true o thread e)) ∙ h

pub open-is : (thread t : ℕ) (owner : Option ℕ) → option_map_or (λ o. o == thread) owner true ≡ true → owner ≡ Some t → Some thread ≡ Some t
open-is thread t None e h = cc
open-is thread t (Some o) e h = ap Some (sym (eqb-true o thread e)) ∙ h

pub free-is : (t : ℕ) (owner other : Option ℕ) → is_some owner ≡ false → owner ≡ Some t → other ≡ Some t
free-is t None other e h = cc
free-is t (Some o) other e h = absurd (false≢true (sym e))

-- where nobody waits or owns anything, all lend nothing

nothing_there : (n t : ℕ) → slice_index (replicate n 0) t ≡ 0
nothing_there zero t = refl
nothing_there (suc n) zero = refl
nothing_there (suc n) (suc t) = nothing_there n t

nobody_ahead : (n t : ℕ) → ahead_in (replicate n None) t ≡ None
nobody_ahead zero t = refl
nobody_ahead (suc n) zero = refl
nobody_ahead (suc n) (suc t) = nobody_ahead n t

pub stored-fresh : (threads : ℕ) (kinds : List MutexKind) → AreStored (replicate threads 0) (map opened_mutex kinds) (replicate threads None) (replicate threads 0) (replicate threads 0)
stored-fresh threads kinds = record {
  there = there-opened (length (replicate threads 0)) kinds;
  lent_all = refl;
  raised_all = refl;
  lent_right = λ t. record {
    own = omega arith;
    behind = λ from e. absurd (nothing (nobody_ahead threads from) e);
    counts = inl refl;
  };
  raised_right = λ t. nothing_there threads t ∙ sym (ceilings-unowned (map opened_mutex kinds) (unowned-opened kinds) t);
}
  where
    nothing : {t : ℕ} {p : Option ℕ} → p ≡ None → p ≡ Some t → ⊥
    nothing a b = cc

-- a base rank

pub right-based : (base : List ℕ) (next : ℕ → Option ℕ) (lent : ℕ → ℕ) (u rank t : ℕ) → t ≢ u → IsRight (slice_index base) next lent t → IsRight (slice_index (slice_set base u rank)) next lent t
right-based base next lent u rank t ne is = lent-based (slice_index base) (slice_index (slice_set base u rank)) next lent t (lent t) (get_or-set_other base u t rank 0 ne) is
