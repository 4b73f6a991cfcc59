-- All that a contract reads of a token of the core's table: what it has taken, and the accounts of its threads.
use Rattle.std.specs.Prelude.{◌≡◌, ℕ, List, map, Option, Some, None, [], ◌∷◌}
use mathlib.Core.Option.{some}
use lib.ListN.{get_elem?}
use Rattle.atomic_table.specs.Table.{Me}
use Rattle.evl_kernel.specs.histories.Histories.{History, IsLegal}
use Rattle.evl_core.specs.declared.views.Account.{Account}
use Rattle.evl_core.specs.declared.views.CoreView.{CoreView}
use Rattle.evl_core.specs.accounts.Accounts.{Fits, saw, up_to_date, GoesOn, HasNoStranger, IsAccount, MadeBy, account}
use Rattle.evl_base.specs.declared.entry.Entry.{Entry}
use Rattle.evl_base.specs.declared.numbers.ThreadId.{ThreadId}
use Rattle.evl_kernel.specs.state.KernelViews.{KernelView}
use Rattle.evl_core.specs.accounts.Nothing.{no_history}

abbrev pub view : Option History → List Account → CoreView
view taken accounts = record { taken = taken; accounts = accounts }

abbrev pub AccountsFit : History → List Account → Type 0
AccountsFit history accounts = (k : ℕ) (a : Account) → get_elem? accounts k ≡ some a → Fits history a

abbrev pub CoreMe : Type 0 → Type 0
CoreMe S = Me (Option S) CoreView

-- the token once a kernel with this history and this room was taken, and once it was given back
abbrev pub after_take : History → ℕ → CoreView → CoreView
after_take h room v = view (Some h) (map (saw h room) v.accounts)

abbrev pub after_give : History → CoreView → CoreView
after_give h v = view None (map (up_to_date h) v.accounts)

abbrev pub first_account : List Account → Account
first_account [] = account 0 no_history [] [] 0
first_account (a ∷ rest) = a

abbrev pub account_of : {S : Type 0} → CoreMe S → Account
account_of me = first_account me.0.accounts

-- a seat with one account, at rest
abbrev pub resting : {S : Type 0} → Account → CoreMe S
resting a = (view None (a ∷ []), [])

-- a seat that has the kernel out of the slot
abbrev pub holding : {S : Type 0} → Account → CoreMe S
holding a = (view (Some a.seen) (a ∷ []), (0, None) ∷ [])

-- the kernel goes on from the history that was taken, by calls of this caller alone
pub record Continues (a : Account) (history : History) : Type 0 where
  pub added : List Entry
  pub longer : GoesOn a.seen added history
  pub own : MadeBy a.thread added
  pub legal : IsLegal history
  pub before : IsAccount a

-- a take found the kernel: its history is legal and has no stranger's call, and each account of the seat fits it
pub record Taken {S : Type 0} (past : S → History) (room : S → ℕ) (me : CoreMe S) (k : S) (me' : CoreMe S) : Type 0 where
  pub now : me' ≡ (after_take (past k) (room k) me.0, (0, None) ∷ [])
  pub legal : IsLegal (past k)
  pub strangers : HasNoStranger (past k)
  pub fits : AccountsFit (past k) me.0.accounts

-- a caller's seat is at rest, with the account of its own thread
pub record IsCaller {S : Type 0} (me : CoreMe S) (thread : ThreadId) : Type 0 where
  pub rests : me ≡ resting (account_of me)
  pub own : (account_of me).thread ≡ thread.0
  pub account : IsAccount (account_of me)

-- a seat has the kernel, which goes on from the history that it took by calls of the seat's one caller
pub record IsHeld {S : Type 0} {C : Type 0} (me : CoreMe S) (thread : ThreadId) (k : KernelView C) : Type 0 where
  pub holds : me ≡ holding (account_of me)
  pub own : (account_of me).thread ≡ thread.0
  pub continues : Continues (account_of me) k.history
