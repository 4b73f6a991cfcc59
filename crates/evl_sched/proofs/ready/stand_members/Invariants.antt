use Rattle.std.proofs.Common.{◌≡◌, ℕ, false, true, length}
use Rattle.evl_bitmap.specs.NumberSet.{contains}
use Rattle.evl_sched.specs.Places.{rank_in}
use Rattle.evl_sched.specs.Wanted.{names_group, wanted_rank}
use Rattle.evl_sched.proofs.ready.stand_members.Given as goal

abbrev pub invariant-loop-thread : goal.invariant-loop-thread
invariant-loop-thread g l = record {
  ready : l.order.ready ≡ l.fn.order.ready;
  many : length l.order.places ≡ length l.fn.order.places;
  others : (t : ℕ) → names_group l.seats.items t ≡ false
      → rank_in l.order.places t ≡ wanted_rank (record { sched = record { seats = l.seats.items; ready = l.fn.order.ready; groups = l.groups.items }; given = l.given.items }) t;
  passed : (t : ℕ) → names_group l.seats.items t ≡ true → contains l.members.members t ≡ false → (contains l.next.members t ≡ true)
      × (rank_in l.order.places t ≡ wanted_rank (record { sched = record { seats = l.seats.items; ready = l.fn.order.ready; groups = l.groups.items }; given = l.given.items }) t);
  limit : l.members.limit ≡ l.fn.members.limit;
  same : l.next.limit ≡ l.fn.next.limit;
}

abbrev pub decreases-loop-thread : goal.decreases-loop-thread
decreases-loop-thread g l = length l.members.members
