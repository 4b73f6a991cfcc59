-- Which threads stand in queues, and by which rank. No public clause speaks of it.
use Rattle.std.specs.Prelude.{ℕ, ◌≡◌, ◌<◌, Bool, false, List, length, Option, Some, None, is_some, slice_index_or, if◌then◌else◌}
use Rattle.std.specs.Option.{option_map_or}
use Rattle.evl_sched.specs.declared.place.Place.{Place}
use Rattle.evl_sched.specs.declared.seat.Seat.{Seat}
use Rattle.evl_sched.specs.Policies.{group_of}
use Rattle.evl_sched.specs.Picks.{may_run}
use Rattle.evl_sched.specs.Places.{rank_in}
use Rattle.evl_sched.specs.Ranks.{IsSoundSched, Ranked, rank_of}
use Rattle.evl_sched.specs.Threads.{is_ready}

-- the policy of a thread names a group
abbrev pub names_group : List (Option Seat) → ℕ → Bool
names_group seats thread = option_map_or (λ seat. is_some (group_of seat.policy)) (slice_index_or seats thread None) false

-- the rank of a thread that may run
abbrev pub rank_to_run : Ranked → ℕ → Option ℕ
rank_to_run r thread = if may_run r.sched thread then Some (rank_of r thread) else None

-- the rank of a ready thread that may run: a group without budget keeps its threads out of the queues
abbrev pub wanted_rank : Ranked → ℕ → Option ℕ
wanted_rank r thread = if is_ready r.sched thread then rank_to_run r thread else None

-- what every call keeps: the ready threads that may run stand in the queues of their ranks
pub record IsStood (r : Ranked) (places : List (Option Place)) : Type 0 where
  pub sound : IsSoundSched r
  pub many : length r.sched.seats ≡ length places
  pub few : length r.sched.seats < 65536
  pub stood : (thread : ℕ) → rank_in places thread ≡ wanted_rank r thread
