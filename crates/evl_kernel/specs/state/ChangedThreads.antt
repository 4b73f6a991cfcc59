-- The threads whose effective rank may be another one than the scheduler was given.
use Rattle.std.specs.Prelude.{◌≡◌, ◌||◌, ◌/◌, ◌%◌, ℕ, nat_lt, not, Bool, true, false, List, [], slice_index_or}
use Rattle.std.specs.Option.{option_map_or}
use Rattle.evl_base.specs.Limits.{thread_limit}
use Rattle.evl_bitmap.specs.NumberSet.{NumberSet, contains, least, remove}
use Rattle.evl_sched.specs.Ranks as ranks
use Rattle.evl_sched.specs.Ranks.{Ranked}
use Rattle.evl_sched.specs.Threads.{is_attached}
use Rattle.evl_mutex.specs.Owners as owners
use Rattle.evl_mutex.specs.Owners.{Owners}

-- of the threads of a word those that are noted, by their places in it
abbrev pub of_word : List NumberSet → ℕ → NumberSet
of_word words n = slice_index_or words n []

-- These are noted. A number of no thread of any board counts as noted.
abbrev pub is_noted : List NumberSet → ℕ → Bool
is_noted words thread = contains (of_word words (thread / 32)) (thread % 32) || not (nat_lt thread thread_limit)

abbrev pub without_least : NumberSet → NumberSet
without_least set = option_map_or (remove set) (least set) set

-- each attached thread that isn't noted is picked by its effective rank
abbrev pub AreGivenBut : (ℕ → Bool) → Ranked → Owners → Type 0
AreGivenBut noted r o = (thread : ℕ) → noted thread ≡ false → is_attached r.sched thread ≡ true → ranks.rank_of r thread ≡ owners.rank_of o thread
