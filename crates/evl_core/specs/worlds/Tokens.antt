-- All that the tokens of one table know together.
use Rattle.std.specs.Prelude.{◌≡◌, ◌≢◌, ℕ, Option}
use mathlib.Core.Option.{some}
use lib.ListN.{get_elem?}
use Rattle.atomic_table.specs.Table.{State}
use Rattle.evl_kernel.specs.histories.Histories.{History, IsLegal}
use Rattle.evl_kernel.specs.state.KernelViews.{KernelView}
use Rattle.evl_core.specs.declared.views.Account.{Account}
use Rattle.evl_core.specs.accounts.Accounts.{Fits, HasNoStranger, IsAccount}
use Rattle.evl_core.specs.accounts.Seats.{resting}
use Rattle.evl_core.specs.rule.Known.{CoreHand, KernelMe, seen}
use Rattle.evl_core.specs.accounts.OneHistory.{OneHistory}

module _ {C : Type 0} where
  -- in this state of a table, the token of this number is one of which this account is read
  pub record IsKnownAt (s : State (Option (KernelView C)) (CoreHand C)) (id : ℕ) (a : Account) : Type 0 where
    pub me : KernelMe C
    pub at : get_elem? s.views id ≡ some me.0
    pub account : seen me ≡ resting a
    pub sound : IsAccount a

  -- there is one common history, which all accounts that are read of tokens fit; and of any two of them one is the beginning of the other
  pub record HasOneHistory (s : State (Option (KernelView C)) (CoreHand C)) : Type 0 where
    pub history : History
    pub legal : IsLegal history
    pub strangers : HasNoStranger history
    pub fits : (id : ℕ) (a : Account) → IsKnownAt s id a → Fits history a
    pub two : (id other : ℕ) (a b : Account) → id ≢ other → IsKnownAt s id a → IsKnownAt s other b → OneHistory a b
