use Rattle.std.proofs.Common.{ℕ, ◌≡◌, ◌≤◌, ◌+◌, ◌-◌, List, length}
use Rattle.evl_base.specs.Limits.{thread_limit}
use Rattle.evl_sync.specs.declared.flag_waiter.FlagWaiter.{FlagWaiter}
use Rattle.evl_sync.specs.FlagGroups.{Rests, Walk, walk_of}
use Rattle.evl_sync.proofs.WalkLaws.{walking}
use Rattle.evl_sync.proofs.flag_group.walk.Given as goal

-- what was served and passed so far, and then what the rest comes to
pub record Walks (all now : Walk) (ws : List FlagWaiter) (served waiting place : ℕ) : Type 0 where
  pub within : place ≤ waiting
  pub few : served + waiting ≤ thread_limit
  pub whole : now ≡ all
  pub rests : Rests 0 ws

abbrev pub invariant-loop-place : goal.invariant-loop-place
invariant-loop-place l =
    Walks (walk_of l.initial.waiters.items l.fn.bits) (walking l.told.items l.waiters.items l.place l.left) l.waiters.items (length l.told.items) (length l.waiters.items) l.place

abbrev pub decreases-loop-place : goal.decreases-loop-place
decreases-loop-place l = length l.waiters.items - l.place
