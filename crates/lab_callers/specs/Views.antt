-- The view after a step, by a caller that has the kernel.
use Rattle.std.specs.Prelude.{◌≡◌, ℕ, ⊤, List, drop, length, nat_lt, Option, None, Some, is_some, MatchBool, MatchOption}
use Rattle.std.specs.Option.{option_map_or}
use Rattle.evl_base.specs.declared.stage.Stage.TheVariants.{Inband}
use Rattle.lab_callers.specs.Crews.{CrewState, StepsAt}
use Rattle.lab_callers.specs.declared.views.Question.{Question}
use Rattle.lab_callers.specs.declared.views.View.{View}
use Rattle.evl_core.specs.rule.Known.{ceilings_of, mutex_count}
use Rattle.evl_machine.specs.calls.Calls.{TookKernel}
use Rattle.evl_machine.specs.callers.Handles.{CallerState, HeldState, returned}
use Rattle.evl_machine.specs.declared.in_word.InWord.{InWord}
use Rattle.evl_machine.specs.mutex_locks.InWord.{Agrees, SaysTied}
use Rattle.evl_sched.specs.Threads.{stage_of}

module _ {C : Type 0} where
  -- what the word of a mutex says, where the board has it: what the kernel records of it, and what some word tied to that says
  pub record SeesWord (by : HeldState C) (mutex : ℕ) (word : Option InWord) : Type 0 where
    pub there : is_some word ≡ nat_lt mutex (mutex_count by.caller.machine.first)
    pub agrees : MatchOption word ⊤ (Agrees by.kernel.history.state mutex)
    pub tied : MatchOption word ⊤ (SaysTied (ceilings_of by.caller.machine.first) by.kernel.history.state mutex)

  -- The plays of the kernel after so many, how many it has, how many calls were entered, the stage of a thread, and the word of a mutex, where they are asked for
  pub record Sees (by : HeldState C) (q : Question) (v : View) : Type 0 where
    pub plays : v.plays.items ≡ drop q.plays by.kernel.history.plays
    pub made : v.made ≡ length by.kernel.history.plays
    pub entered : v.entered ≡ length by.kernel.history.entries
    pub stage : v.stage ≡ option_map_or (λ t. stage_of by.kernel.history.state.sched t.0) q.thread Inband
    pub word : MatchOption q.mutex (v.word ≡ None) (λ m. SeesWord by m.0 v.word)

  -- by the caller at this place, which takes the core for it and gives it back
  pub record LooksAt (old : List (CallerState C)) (place : ℕ) (q : Question) (v : View) (new : List (CallerState C)) : Type 0 where
    pub taker : HeldState C
    pub stepped : StepsAt old place (λ before after. TookKernel before taker × (after ≡ returned taker.kernel.history after.lock taker.caller)) new
    pub seen : Sees taker q v

  -- by the caller that has it
  pub record LooksHeld (old : CrewState C) (q : Question) (v : View) (new : CrewState C) : Type 0 where
    pub holder : HeldState C
    pub was : old.held ≡ Some holder
    pub same : new ≡ old
    pub seen : Sees holder q v

  -- by the caller of a thread, where nobody has the core
  pub record LooksFree (old : CrewState C) (who : ℕ) (q : Question) (v : View) (new : CrewState C) : Type 0 where
    pub looked : LooksAt old.callers who q v new.callers
    pub machine : new.machine ≡ old.machine
    pub held : new.held ≡ old.held
    pub holder : new.holder ≡ old.holder

  abbrev pub Looks : CrewState C → ℕ → Question → View → CrewState C → Type 0
  Looks old who q v new = MatchBool (is_some old.held) (LooksHeld old q v new) (LooksFree old who q v new)
