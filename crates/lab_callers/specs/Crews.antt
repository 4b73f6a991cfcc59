-- How the callers of a machine stand on one host thread, and what a step does to them.
use Rattle.std.specs.Prelude.{◌≡◌, ◌-◌, ◌==◌, ℕ, Bool, false, ◌&&◌, nat_lt, List, Option, Some, None, is_some, Result, MatchBool, if◌then◌else◌, slice_get, slice_set}
use Rattle.std.specs.List.{insert, remove}
use Rattle.evl_base.specs.declared.call.Call.{Call}
use Rattle.evl_base.specs.declared.refusal.Refusal.{Refusal}
use Rattle.evl_base.specs.declared.reply.Reply.{Reply}
use Rattle.lab_callers.specs.declared.passes.StepFault.{StepFault}
use Rattle.lab_callers.specs.declared.passes.StepFault.TheVariants.{HasCore, HasNoCore, NoCaller}
use Rattle.evl_core.specs.worlds.Events.{Gives}
use Rattle.evl_machine.specs.calls.Calls.{Called, CalledHeld, TookKernel}
use Rattle.evl_machine.specs.callers.Handles.{CallerState, HeldState, MachineState, returned, turned_away}

-- The caller at this place does this, and no other one does anything
pub record StepsAt {C : Type 0} (old : List (CallerState C)) (place : ℕ) (does : CallerState C → CallerState C → Type 0) (new : List (CallerState C)) : Type 0 where
  pub before : CallerState C
  pub after : CallerState C
  pub there : slice_get old place ≡ Some before
  pub others : new ≡ slice_set old place after
  pub done : does before after

-- a machine's callers: those that haven't the core, in their order, and who has it
pub record CrewState (C : Type 0) : Type 0 where
  pub machine : MachineState C
  pub callers : List (CallerState C)
  pub held : Option (HeldState C)
  pub holder : ℕ

-- callers of whom none has the core
abbrev pub crew_of : {C : Type 0} → MachineState C → List (CallerState C) → CrewState C
crew_of machine callers = record { machine = machine; callers = callers; held = None; holder = 0 }

-- whether a thread's caller has the core
abbrev pub has_core : Bool → ℕ → ℕ → Bool
has_core taken holder who = taken && (holder == who)

-- the place of a thread's caller among those that haven't the core
abbrev pub place_of : Bool → ℕ → ℕ → ℕ
place_of taken holder who = if taken && nat_lt holder who then who - 1 else who

-- why the caller of a thread can't make a call by itself, where so many callers haven't the core
abbrev pub place_fault : Bool → ℕ → ℕ → ℕ → Option StepFault
place_fault taken holder who count =
    if has_core taken holder who then Some HasCore
    else if nat_lt (place_of taken holder who) count then None
    else Some NoCaller

-- who has the core makes calls of the kernel
abbrev pub call_fault : Bool → ℕ → ℕ → ℕ → Option StepFault
call_fault taken holder who count = if has_core taken holder who then None else place_fault taken holder who count

-- nobody else gives it
abbrev pub give_fault : Bool → ℕ → ℕ → Option StepFault
give_fault taken holder who = if has_core taken holder who then None else Some HasNoCore

-- whose caller has the core
abbrev pub holder_of : Bool → ℕ → Option ℕ
holder_of taken holder = if taken then Some holder else None

module _ {C : Type 0} where
  -- the caller of a thread that hasn't the core does this, and nobody else does anything
  pub record Steps (old : CrewState C) (who : ℕ) (does : CallerState C → CallerState C → Type 0) (new : CrewState C) : Type 0 where
    pub apart : has_core (is_some old.held) old.holder who ≡ false
    pub made : StepsAt old.callers (place_of (is_some old.held) old.holder who) does new.callers
    pub machine : new.machine ≡ old.machine
    pub held : new.held ≡ old.held
    pub holder : new.holder ≡ old.holder

  -- who has the core makes a call of the kernel
  pub record CallsByHolder (old : CrewState C) (asked : Call) (reply : Result Reply Refusal) (new : CrewState C) : Type 0 where
    pub before : HeldState C
    pub after : HeldState C
    pub was : old.held ≡ Some before
    pub is : new.held ≡ Some after
    pub called : CalledHeld before asked reply after
    pub machine : new.machine ≡ old.machine
    pub callers : new.callers ≡ old.callers
    pub holder : new.holder ≡ old.holder

  -- a call of the kernel, by the core where the caller has it
  abbrev pub CallsKernel : ℕ → CrewState C → ℕ → Call → Result Reply Refusal → CrewState C → Type 0
  CallsKernel limit old who asked reply new = MatchBool (has_core (is_some old.held) old.holder who)
      (CallsByHolder old asked reply new)
      (Steps old who (λ before after. Called limit before asked reply after) new)

  -- a caller that hasn't the core takes it, and is apart from the others then
  pub record GetsCore (old : CrewState C) (who : ℕ) (new : CrewState C) : Type 0 where
    pub apart : has_core (is_some old.held) old.holder who ≡ false
    pub caller : CallerState C
    pub taker : HeldState C
    pub there : slice_get old.callers (place_of (is_some old.held) old.holder who) ≡ Some caller
    pub took : TookKernel caller taker
    pub machine : new.machine ≡ old.machine
    pub others : new.callers ≡ remove old.callers (place_of (is_some old.held) old.holder who)
    pub held : new.held ≡ Some taker
    pub holder : new.holder ≡ who

  -- a take, and whether it found the core free
  abbrev pub TakesCore : CrewState C → ℕ → Bool → CrewState C → Type 0
  TakesCore old who free new = MatchBool free (GetsCore old who new) (Steps old who (λ before after. after ≡ turned_away after.lock before) new)

  -- who has the core gives it back, and comes to its place among the others
  pub record GivesCore (old : CrewState C) (who : ℕ) (new : CrewState C) : Type 0 where
    pub giver : HeldState C
    pub back : CallerState C
    pub was : old.held ≡ Some giver
    pub who_is : old.holder ≡ who
    pub machine : new.machine ≡ old.machine
    pub given : back ≡ returned giver.kernel.history back.lock giver.caller
    pub event : Gives giver.caller.machine.first giver.caller.account giver.caller.lock giver.kernel back.account back.lock
    pub others : new.callers ≡ insert old.callers who back
    pub held : new.held ≡ None
