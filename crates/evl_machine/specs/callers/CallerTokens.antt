-- The token by which a caller makes its steps at its machine's table.
use Rattle.std.specs.Prelude.{◌≡◌}
use Rattle.atomic_table.specs.Seated.{TableId}
use Rattle.evl_core.specs.accounts.Accounts.{IsAccount}
use Rattle.evl_core.specs.rule.Known.{KernelMe, first_of, lock_in, seen}
use Rattle.evl_core.specs.accounts.Seats.{resting}
use Rattle.evl_machine.specs.callers.Handles.{CallerState}

module _ {C : Type 0} where
  -- rule: A caller's token shows what the caller knows. In any state of the rule one legal history, with no stranger's
  --   call, fits every token.
  --   also: Handles.Belongs; Tokens.HasOneHistory
  --   clauses: Caller::token; callers_know_one_history
  -- The token is one of the table of the caller's machine, and knows the kernel as it was made there. All that the caller knows of the kernel and of the core's lock is what is read of the token, which acts for this one thread and has nothing of the slot
  pub record IsTokenOf (id : TableId) (me : KernelMe C) (c : CallerState C) : Type 0 where
    pub table : id ≡ c.machine.id
    pub first : first_of me.0 ≡ c.machine.first
    pub account : seen me ≡ resting c.account
    pub lock : lock_in me.0 ≡ c.lock
    pub sound : IsAccount c.account
