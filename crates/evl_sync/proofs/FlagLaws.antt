-- Flag groups after each change.
use Rattle.std.proofs.Common.{◌≡◌, ℕ, ◌==◌, ◌≤◌, Bool, false, List, [], ◌∷◌, Option, Some, None, Result, Ok, if◌then◌else◌, refl}
use Rattle.std.specs.List.{AllByRecursion}
use Rattle.std.specs.Option.{option_map_or}
use Rattle.std.proofs.lemmas.Bool.{or_from, or_parts}
use Rattle.evl_base.specs.declared.refusal.Refusal.{Refusal}
use Rattle.evl_base.specs.declared.refusal.Refusal.TheVariants.{Invalid}
use Rattle.evl_sync.specs.declared.flag_waiter.FlagWaiter.{FlagWaiter}
use Rattle.evl_sync.specs.Queues.{enqueued_by, stands_in, AreRanked, IsKept}
use Rattle.evl_sync.specs.Steps.{unless}
use Rattle.evl_sync.specs.FlagGroups.{FlagGroup, bits_taken, left_of, is_empty_mask, take_refusal, begin_take, with_waiter, without_bits, waiter_passed, walk_of}
use Rattle.evl_sync.proofs.QueueLaws.{came_before}

abbrev thread : FlagWaiter → ℕ
thread w = w.thread

abbrev rank : FlagWaiter → ℕ
rank w = w.rank

-- each thread that isn't served at once waits
pub begun : (w : FlagWaiter) (bits : ℕ) (ws after : List FlagWaiter) → after ≡ enqueued_by (λ v. v.rank) w ws → is_empty_mask w.kind ≡ false → bits_taken w.kind bits ≡ None
    → ◌≡◌ {A = Result (Option ℕ × FlagGroup) Refusal} (Ok (None, record { bits = bits; waiters = after })) (unless (take_refusal w.kind) (Ok (begin_take w (record { bits = bits; waiters = ws }))))
begun w bits ws after e m t = by (is_empty_mask w.kind) (bits_taken w.kind bits) m t
  where
    by : (b : Bool) (got : Option ℕ) → b ≡ false → got ≡ None
        → ◌≡◌ {A = Result (Option ℕ × FlagGroup) Refusal} (Ok (None, record { bits = bits; waiters = after }))
        (unless (if b then Some Invalid else None) (Ok (got, option_map_or (without_bits (record { bits = bits; waiters = ws })) got (with_waiter w (record { bits = bits; waiters = ws })))))
    by b got m t = rw (m, t, e) refl

-- who goes on waiting after a walk stood in the queue before it
all-walked : (P : FlagWaiter → Type 0) (ws : List FlagWaiter) (bits : ℕ) → AllByRecursion P ws → AllByRecursion P (walk_of ws bits).waiting
all-walked P [] bits h = tt
all-walked P (w ∷ ws) bits h = by (bits_taken w.kind bits) (all-walked P ws (left_of bits (bits_taken w.kind bits)) h.1)
  where
    by : (o : Option ℕ) → AllByRecursion P (walk_of ws (left_of bits o)).waiting → AllByRecursion P (waiter_passed w o (walk_of ws (left_of bits o))).waiting
    by None r = (h.0, r)
    by (Some got) r = r

away-walked : (q : ℕ) (ws : List FlagWaiter) (bits : ℕ) → stands_in thread q ws ≡ false → stands_in thread q (walk_of ws bits).waiting ≡ false
away-walked q [] bits e = refl
away-walked q (w ∷ ws) bits e = by (bits_taken w.kind bits) (away-walked q ws (left_of bits (bits_taken w.kind bits)) ((or_parts (w.thread == q) (stands_in thread q ws) e).1))
  where
    by : (o : Option ℕ) → stands_in thread q (walk_of ws (left_of bits o)).waiting ≡ false → stands_in thread q (waiter_passed w o (walk_of ws (left_of bits o))).waiting ≡ false
    by None r = or_from (w.thread == q) (stands_in thread q (walk_of ws (left_of bits None)).waiting) ((or_parts (w.thread == q) (stands_in thread q ws) e).0) r
    by (Some got) r = r

ranked-walked : (ws : List FlagWaiter) (bits : ℕ) → AreRanked thread rank ws → AreRanked thread rank (walk_of ws bits).waiting
ranked-walked [] bits h = tt
ranked-walked (w ∷ ws) bits h = by (bits_taken w.kind bits) (ranked-walked ws (left_of bits (bits_taken w.kind bits)) h.2)
  where
    by : (o : Option ℕ) → AreRanked thread rank (walk_of ws (left_of bits o)).waiting → AreRanked thread rank (waiter_passed w o (walk_of ws (left_of bits o))).waiting
    by None r = (all-walked (λ v. rank v ≤ rank w) ws (left_of bits None) h.0, away-walked (thread w) ws (left_of bits None) h.1, r)
    by (Some got) r = r

pub kept-walked : (ws : List FlagWaiter) (bits : ℕ) → IsKept thread rank ws → IsKept thread rank (walk_of ws bits).waiting
kept-walked ws bits h = record {
  ranked = ranked-walked ws bits h.ranked;
  few = λ q e. h.few q (came_before thread (walk_of ws bits).waiting ws q (away-walked q ws bits) e);
}
