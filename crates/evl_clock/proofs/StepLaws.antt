-- The answer of a fire, and how many items are due after each step.
use Rattle.std.proofs.Common.{◌≡◌, ℕ, ◌+◌, ◌≤◌, ◌==◌, true, bit_and, List, length, Option, Some, None, slice_set, subst, sym, ap, ◌∙◌, arith}
use Rattle.std.proofs.lemmas.Bool.Decides.{nat_tests}
use Rattle.std.proofs.lemmas.Nat.{and_assoc}
use Rattle.std.proofs.lemmas.Bool.{eq-eqb, eqb-true}
use Rattle.evl_base.specs.declared.stage.Stage.TheVariants.{Oob}
use Rattle.evl_pipeline.specs.declared.answer.Answer.{Answer}
use Rattle.evl_pipeline.specs.declared.fire.Fire.{Fire}
use Rattle.evl_pipeline.specs.declared.plan.Plan.{Plan}
use Rattle.evl_pipeline.specs.Limits.{action_limit}
use Rattle.evl_pipeline.specs.Plans.{PostsNoOob, allowed_kinds, is_allowed}
use Rattle.evl_pipeline.proofs.AllowedLaws.{few, posts-no_oob}
use Rattle.evl_clock.specs.declared.timer.Timer.{Timer}
use Rattle.evl_clock.specs.Clocks.{Clock, with_deadline}
use Rattle.evl_clock.specs.ClockSteps.{AreAllowed, Fires}
use Rattle.evl_clock.specs.Dues.{deadline, due_count, next_due, timer}
use Rattle.evl_clock.specs.Timers.{is_timer_allowed, timer_kinds}
use Rattle.evl_clock.proofs.DueLaws.{fewer-deadline, fewer-timer, fewer-dropped}

-- what is allowed for timers is allowed out-of-band
allowed_oob : (kinds : ℕ) → is_timer_allowed kinds ≡ true → is_allowed Oob kinds ≡ true
allowed_oob kinds e =
    let within : bit_and timer_kinds kinds ≡ kinds = eqb-true (bit_and timer_kinds kinds) kinds e in
    let same : bit_and (allowed_kinds Oob) kinds ≡ kinds = ap (bit_and (allowed_kinds Oob)) (sym within) ∙ sym (and_assoc kinds (allowed_kinds Oob) timer_kinds) ∙ within in
    eq-eqb (bit_and (allowed_kinds Oob) kinds) kinds same

module _ {C : Type 0} (declared : C → ℕ) (plan : C → Plan) (gives : C → Fire → Answer → Type 0) (old : Clock C) (n : ℕ) (fire : Fire) (misses : ℕ) (answer : Answer) (new : Clock C) where
  pub bounded : Fires declared plan gives old n fire misses answer new → (length answer.actions.items ≤ action_limit) × (AreAllowed declared old → PostsNoOob answer.actions.items)
  bounded f =
      let fired = f.has_fired in
      (rw fired.answered (few _ _ _ fired.sound), λ all. rw fired.answered (posts-no_oob _ _ _ fired.sound (allowed_oob (declared f.at.callback) (all n f.at f.stands))))

  pub fewer : next_due old ≡ Some (timer n) → Fires declared plan gives old n fire misses answer new → due_count new + 1 ≡ due_count old
  fewer e f = ap (λ c. due_count c + 1) f.after ∙ fewer-timer old n f.at e f.stands

-- a timer that was taken out of its place leaves no more due
pub fewer_taken : {C : Type 0} (c : Clock C) (after : List (Option (Timer C))) (n : ℕ) → after ≡ slice_set c.timers n None
    → due_count (record { now = c.now; timers = after; deadlines = c.deadlines }) ≤ due_count c
fewer_taken c after n e =
    subst (λ ts. due_count (record { now = c.now; timers = ts; deadlines = c.deadlines }) ≤ due_count c) (sym e) (fewer-dropped c n)

-- a deadline that fell due leaves one fewer due
pub fewer_cleared : {C : Type 0} (old new : Clock C) (n : ℕ) → next_due old ≡ Some (deadline n) → new ≡ with_deadline old n None → due_count new + 1 ≡ due_count old
fewer_cleared old new n e is = ap (λ c. due_count c + 1) is ∙ fewer-deadline old n e
