-- A call that is made until the core isn't found taken.
use Rattle.std.proofs.Common.{◌≡◌, ℕ, ◌∷◌, Option, None, Err, refl, sym, ap, ◌∙◌, subst}
use Rattle.evl_base.specs.declared.call.Call.{Call}
use Rattle.evl_base.specs.declared.refusal.Refusal.{Refusal}
use Rattle.evl_base.specs.declared.refusal.Refusal.TheVariants.{CoreBusy}
use Rattle.evl_machine.specs.callers.Actors.{ActorState, SeatedActor, acting, call_refusal}
use Rattle.evl_machine.specs.callers.Callers.{IsResting, caller_by, machine_by}
use Rattle.evl_machine.specs.calls.Calls.{IsTurnedAway, KernelCall, own_refusal}
use Rattle.evl_core.specs.worlds.Events.{FailsToTake}
use Rattle.evl_machine.specs.callers.Handles.{CallerState}
use Rattle.evl_core.specs.accounts.Seats.{account_of}
use Rattle.evl_core.specs.rule.Known.{seen, lock_in}
use Rattle.evl_core.specs.words.MutexSeats.{holds_mutex}
use Rattle.evl_machine.specs.stax_locks.StaxSeats.{holds_stax}
use Rattle.evl_machine.specs.callers.Unfinished.{unfinished_wait}
use Rattle.evl_machine.specs.calls.Visits.{actor_of}
use Rattle.evl_machine.proofs.callers.Visits.{same_actor}
use Rattle.evl_machine.proofs.calls.WaitingLaws.{lost_mine}

module _ {C : Type 0} where
  -- one lost take more
  pub away_more : (limit : ℕ) (old c : CallerState C) (call : Call) (new : CallerState C) → IsTurnedAway old c → KernelCall limit c call (Err CoreBusy) new → IsTurnedAway old new
  away_more limit old c call new (same, lost, before) (still, answered, acted) = (
    still ∙ (λ i. record (same i) { account = new.account; lock = new.lock }),
    (c.account, c.lock) ∷ lost,
    (before, subst (λ (s : CallerState C). FailsToTake s.machine.first c.account c.lock new.account new.lock) same (acted.busy refl)),
  )

  -- what a caller refuses by what it has itself is what its actor refuses
  pub own_call_is : (x : SeatedActor C) (old : CallerState C) (call : Call) (o : Option Refusal) → caller_by x ≡ old → IsResting x → o ≡ call_refusal x.wait (holds_stax x.staxes) (holds_mutex (acting x).mutexes) call → own_refusal old call ≡ o
  own_call_is x old call o was rests is =
      let actor : actor_of old ≡ acting x = ap actor_of (sym was) ∙ same_actor (machine_by x) (account_of (seen x.me)) (lock_in x.me.0) (acting x) rests.0.own rests.0.account rests.1 in
      ap (λ (a : ActorState). call_refusal a.wait (holds_stax a.staxes) (holds_mutex a.mutexes) call) actor ∙ sym is

  -- it still doesn't refuse the call
  pub away_free : (old c : CallerState C) (call : Call) → IsTurnedAway old c → own_refusal old call ≡ None → own_refusal c call ≡ None
  away_free old c call (same, lost, before) free =
      (λ i. call_refusal (unfinished_wait (lost_mine old.machine.first old.account old.lock lost c.account c.lock before i)) (holds_stax (same i).staxes) (holds_mutex (same i).mutexes) call) ∙ free
