-- All that a caller has in hand once it took the kernel, and what it is once it gave it back.
use Rattle.std.specs.Prelude.{◌≡◌}
use Rattle.atomic_table.specs.Seated.{TableId}
use Rattle.evl_base.specs.declared.numbers.ThreadId.{ThreadId}
use Rattle.evl_kernel.specs.state.KernelViews.{KernelView}
use Rattle.evl_core.specs.declared.views.Account.{Account}
use Rattle.evl_core.specs.accounts.Accounts.{Fits, IsAccount, lost_one, saw, up_to_date}
use Rattle.evl_machine.specs.callers.Actors.{AreHeldAt, IsActor, SeatedActor, acting}
use Rattle.evl_core.specs.accounts.Seats.{IsCaller, IsHeld, account_of, resting}
use Rattle.evl_core.specs.worlds.Events.{FailsToTake, Gives, Takes}
use Rattle.evl_core.specs.rule.Known.{ComesFrom, KernelMe, first_of, lock_in, seen}
use Rattle.evl_core.specs.words.Noted.{HasTaken, IsSettled}

module _ {C : Type 0} where
  -- a seat has taken this kernel, whose history fits the account that the seat had
  pub record Opens (first : KernelView C) (a : Account) (thread : ThreadId) (me : KernelMe C) (k : KernelView C) : Type 0 where
    pub held : IsHeld (seen me) thread k
    pub first_is : first_of me.0 ≡ first
    pub comes : ComesFrom first k
    pub account : account_of (seen me) ≡ saw k.history k.room a
    pub fits : Fits k.history a
    pub was : IsAccount a

  -- only what an actor knows of the core has changed
  abbrev pub IsSameAside : SeatedActor C → SeatedActor C → Type 0
  IsSameAside old new = (new.table ≡ old.table) × (acting new ≡ acting old) × (first_of new.me.0 ≡ first_of old.me.0)

  -- an actor at rest took this kernel
  pub record HasOpened (old new : SeatedActor C) (k : KernelView C) : Type 0 where
    pub same : IsSameAside old new
    pub thread : new.thread ≡ old.thread
    pub places : new.places ≡ old.places
    pub opens : Opens (first_of old.me.0) (account_of (seen old.me)) old.thread new.me k
    pub holder : HasTaken (account_of (seen old.me)).thread k.history new.me.0
    pub own : IsActor new
    pub event : Takes (first_of old.me.0) (account_of (seen old.me)) (lock_in old.me.0) (account_of (seen new.me)) (lock_in new.me.0)

  -- it found that another one has the kernel
  pub record HasMissed (old new : SeatedActor C) : Type 0 where
    pub same : IsSameAside old new
    pub thread : new.thread ≡ old.thread
    pub lost : seen new.me ≡ resting (lost_one (account_of (seen old.me)))
    pub own : IsActor new
    pub event : FailsToTake (first_of old.me.0) (account_of (seen old.me)) (lock_in old.me.0) (account_of (seen new.me)) (lock_in new.me.0)

  -- It may put this kernel into the table: the kernel goes on from the one that it took, by calls of its one thread, and what holds of each mutex's word is tied to what the kernel records
  pub record MayShut (table : TableId) (a : SeatedActor C) (k : KernelView C) : Type 0 where
    pub machine : a.table ≡ table
    pub comes : ComesFrom (first_of a.me.0) k
    pub held : IsHeld (seen a.me) a.thread k
    pub settled : IsSettled a.me.0 k.history.state

  -- it put this kernel back, and is at rest
  pub record HasShut (old : SeatedActor C) (k : KernelView C) (new : SeatedActor C) : Type 0 where
    pub same : IsSameAside old new
    pub rests : IsCaller (seen new.me) new.thread
    pub held : AreHeldAt new.stage new.staxes
    pub account : account_of (seen new.me) ≡ up_to_date k.history (account_of (seen old.me))
    pub event : Gives (first_of old.me.0) (account_of (seen old.me)) (lock_in old.me.0) k (account_of (seen new.me)) (lock_in new.me.0)
