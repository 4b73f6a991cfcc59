-- The threads whose policies name a group.
use Rattle.std.specs.Prelude.{ℕ, ◌≡◌, ◌≤◌, true, List, length, Option}
use Rattle.evl_bitmap.specs.NumberSet.{NumberSet, contains}
use Rattle.evl_bitmap.specs.Numbers.{Bounded}
use Rattle.evl_sched.specs.declared.seat.Seat.{Seat}
use Rattle.evl_sched.specs.Wanted.{names_group}

-- each thread whose policy names a group is among them
abbrev pub AreMembers : List (Option Seat) → NumberSet → Type 0
AreMembers seats members = (thread : ℕ) → names_group seats thread ≡ true → contains members thread ≡ true

-- what every call keeps of them, and of the set to which a walk over them hands them on
pub record AreListed (seats : List (Option Seat)) (members next : Bounded) : Type 0 where
  pub named : AreMembers seats members.members
  pub room : length seats ≤ members.limit
  pub same : next.limit ≡ members.limit
