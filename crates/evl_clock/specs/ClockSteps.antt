-- The meaning of the next due item to the clock: a timer is called, or a deadline is gone.
use Rattle.std.specs.Prelude.{◌≡◌, ℕ, ◌≤◌, true, length, Option, Some, None}
use Rattle.evl_pipeline.specs.declared.answer.Answer.{Answer}
use Rattle.evl_pipeline.specs.declared.fire.Fire.{Fire}
use Rattle.evl_pipeline.specs.declared.plan.Plan.{Plan}
use Rattle.evl_pipeline.specs.Limits.{action_limit}
use Rattle.evl_pipeline.specs.Plans.{PostsNoOob}
use Rattle.evl_clock.specs.declared.due.Due.{Due}
use Rattle.evl_clock.specs.declared.due.Due.TheVariants as due
use Rattle.evl_clock.specs.declared.timer.Timer.{Timer}
use Rattle.evl_clock.specs.Timers.{HasFired, after_fire, is_timer_allowed}
use Rattle.evl_clock.specs.Clocks.{Clock, timer_at, with_timer, with_deadline}
use Rattle.evl_clock.specs.declared.due.Item.{Item}
use Rattle.evl_clock.specs.declared.due.Item.TheVariants as item
use Rattle.evl_clock.specs.Dues.{next_due, timer, deadline}

-- what fell due, without what came of it
abbrev pub item_of : Due → Item
item_of (due.Timer id fire misses answer) = item.Timer id
item_of (due.Deadline thread) = item.Deadline thread

module _ {C : Type 0} where
  -- a timer fired: it is what it is after its fire before its callback's actions are carried out
  abbrev pub fired : Clock C → ℕ → Timer C → Clock C
  fired c n t = with_timer c n (Some (after_fire c.now t))

  -- the timer of this number fires
  pub record Fires (declared : C → ℕ) (plan : C → Plan) (gives : C → Fire → Answer → Type 0) (old : Clock C) (n : ℕ) (fire : Fire) (misses : ℕ) (answer : Answer) (new : Clock C) : Type 0 where
    pub at : Timer C
    pub stands : timer_at old n ≡ Some at
    pub has_fired : HasFired declared plan gives old.now at fire misses answer
    pub after : new ≡ fired old n at

  -- what `next_due` gives, and what it leaves: nothing exactly where nothing is due
  abbrev pub FallsDue : (C → ℕ) → (C → Plan) → (C → Fire → Answer → Type 0) → Clock C → Option Due → Clock C → Type 0
  FallsDue declared plan gives old None new = (next_due old ≡ None) × (new ≡ old)
  FallsDue declared plan gives old (Some (due.Timer id fire misses answer)) new =
      (next_due old ≡ Some (timer id.0)) × Fires declared plan gives old id.0 fire misses answer new
  FallsDue declared plan gives old (Some (due.Deadline thread)) new =
      (next_due old ≡ Some (deadline thread.0)) × (new ≡ with_deadline old thread.0 None)

  -- each timer's callback declares only kinds that are allowed for timers
  abbrev pub AreAllowed : (C → ℕ) → Clock C → Type 0
  AreAllowed declared c = (n : ℕ) (at : Timer C) → timer_at c n ≡ Some at → is_timer_allowed (declared at.callback) ≡ true

  -- The bounds on the plays of the layer above: an answer has few actions, and where the kinds of all callbacks are
  -- allowed, no answer of a timer posts an out-of-band line.
  abbrev pub IsBounded : (C → ℕ) → Clock C → Option Due → Type 0
  IsBounded declared old None = Unit {0}
  IsBounded declared old (Some (due.Deadline thread)) = Unit {0}
  IsBounded declared old (Some (due.Timer id fire misses answer)) =
      (length answer.actions.items ≤ action_limit) × (AreAllowed declared old → PostsNoOob answer.actions.items)
