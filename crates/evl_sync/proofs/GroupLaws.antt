-- All that is known of a flag group after each change.
use Rattle.std.proofs.Common.{◌≡◌, ◌<◌, ℕ, bit_xor, false, List, Some, None, sym}
use Rattle.evl_base.specs.Limits.{thread_limit}
use Rattle.evl_base.specs.declared.take.Take.{Take}
use Rattle.evl_sync.specs.declared.flag_waiter.FlagWaiter.{FlagWaiter}
use Rattle.evl_sync.specs.Queues.{enqueued_by, dropped_by, stands_in, IsKept}
use Rattle.evl_sync.specs.FlagGroups.{IsSoundGroup, after_walk, bits_taken, walk_of}
use Rattle.evl_sync.proofs.QueueLaws.{all-enqueued, all-dropped, kept-enqueued, kept-dropped}
use Rattle.evl_sync.proofs.FlagLaws.{kept-walked}
use Rattle.evl_sync.proofs.RestLaws.{rests-taken, rests-walked}

pub sound_taken : (kind : Take) (bits got : ℕ) (ws : List FlagWaiter) → Some got ≡ bits_taken kind bits
    → IsSoundGroup (record { bits = bits; waiters = ws }) → IsSoundGroup (record { bits = bit_xor bits got; waiters = ws })
sound_taken kind bits got ws e h = record { rests = rests-taken kind ws bits got (sym e) h.rests; queue = h.queue }

pub sound-begun : (w : FlagWaiter) (bits : ℕ) (ws : List FlagWaiter) → stands_in (λ v. v.thread) w.thread ws ≡ false → w.thread < thread_limit → bits_taken w.kind bits ≡ None
    → IsSoundGroup (record { bits = bits; waiters = ws }) → IsSoundGroup (record { bits = bits; waiters = enqueued_by (λ v. v.rank) w ws })
sound-begun w bits ws away below e h = record {
  rests = all-enqueued (λ v. bits_taken v.kind bits ≡ None) (λ v. v.rank) w ws e h.rests;
  queue = kept-enqueued (λ v. v.thread) (λ v. v.rank) w ws away below h.queue;
}

pub sound-walked : (ws : List FlagWaiter) (bits : ℕ) → IsKept (λ v. v.thread) (λ v. v.rank) ws → IsSoundGroup (after_walk (walk_of ws bits))
sound-walked ws bits h = record { rests = rests-walked ws bits; queue = kept-walked ws bits h }

pub sound-dropped : (t bits : ℕ) (ws : List FlagWaiter)
    → IsSoundGroup (record { bits = bits; waiters = ws }) → IsSoundGroup (record { bits = bits; waiters = dropped_by (λ v. v.thread) t ws })
sound-dropped t bits ws h = record {
  rests = all-dropped (λ v. bits_taken v.kind bits ≡ None) (λ v. v.thread) t ws h.rests;
  queue = kept-dropped (λ v. v.thread) (λ v. v.rank) t ws h.queue;
}
