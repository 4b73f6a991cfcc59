use Rattle.std.proofs.Common.{◌≡◌, ℕ, true, false, Some, None, refl, sym}
use Rattle.evl_base.specs.declared.refusal.Refusal.TheVariants.{Invalid, WrongStage}
use Rattle.evl_sched.specs.Calls.{stranger_refusal}
use Rattle.evl_sched.specs.Threads.{stage_of}
use Rattle.evl_xbuf.specs.Xbufs.{same_stage}
use Rattle.evl_kernel.specs.waiting.Beginnings.{form_refusal, may_name, stage_wanted, waiter_refusal}
use Rattle.evl_kernel.specs.state.Records.{state_of}
use Rattle.evl_kernel.specs.state.RecordsInside.{records_view}
use Rattle.evl_kernel.specs.state.States.{State}
use Rattle.evl_kernel.specs.declared.waits.Wanted.{Wanted}
use Rattle.evl_kernel.proofs.state.SchedLaws.{stranger_answers}
use Rattle.evl_kernel.proofs.waiting.WaitRecords.{may_begin_is}
use Rattle.evl_kernel.proofs.records.Records.may_begin.Goals as goal

-- an attached thread may not begin to wait: the first that applies
module _ (s : State) (thread : ℕ) (wants : Wanted) (passed : stranger_refusal s.sched thread ≡ None) where
  by_form : form_refusal wants ≡ Some Invalid → waiter_refusal s thread wants ≡ Some Invalid
  by_form form = rw (passed, form) refl

  by_name : form_refusal wants ≡ None → may_name s thread wants ≡ false → waiter_refusal s thread wants ≡ Some Invalid
  by_name form may = rw (passed, form, may) refl

  by_stage : form_refusal wants ≡ None → may_name s thread wants ≡ true → same_stage (stage_wanted wants) (stage_of s.sched thread) ≡ false → waiter_refusal s thread wants ≡ Some WrongStage
  by_stage form may apart = rw (passed, form, may, apart) refl

pub returns-in-Err-clause-answer : goal.returns-in-Err-clause-answer
returns-in-Err-clause-answer g c = stranger_answers c.self.inside.sched.sched c.args.thread.0 c.in-Err.refusal c.in-Err.ensures.refused

pub returns-in-Err-clause-refused : goal.returns-in-Err-clause-refused
returns-in-Err-clause-refused g c = rw (← c.self.view_is, c.in-Err.ensures.refused) refl

pub returns-then-not-is_allowed-clause-refused : goal.returns-then-not-is_allowed-clause-refused
returns-then-not-is_allowed-clause-refused g c =
    rw (← c.self.view_is) (by_form (state_of (records_view c.self.inside)) c.args.thread.0 c.args.wanted.now c.in-Ok.ensures.ok.0 c.if-not-is_allowed.ensures.allowed)

pub returns-then-not-may_name-clause-refused : goal.returns-then-not-may_name-clause-refused
returns-then-not-may_name-clause-refused g c =
    rw (← c.self.view_is) (by_name (state_of (records_view c.self.inside)) c.args.thread.0 c.args.wanted.now c.in-Ok.ensures.ok.0 c.if-not-is_allowed.ensures.allowed
    (sym (rw (← c.self.view_is) at c.if-not-may_name.ensures.may)))

pub returns-then-not-are_same-clause-refused : goal.returns-then-not-are_same-clause-refused
returns-then-not-are_same-clause-refused g c =
    rw (← c.self.view_is) (by_stage (state_of (records_view c.self.inside)) c.args.thread.0 c.args.wanted.now c.in-Ok.ensures.ok.0 c.if-not-is_allowed.ensures.allowed
    (sym (rw (← c.self.view_is) at c.if-not-may_name.ensures.may)) (sym (rw (c.stage.ensures.stage, c.stage-stage.ensures.stage) at c.if-not-are_same.ensures.same)))

pub returns-clause-ok : goal.returns-clause-ok
returns-clause-ok g c =
    rw (← c.self.view_is) (may_begin_is (records_view c.self.inside) c.self.invariant c.args.thread.0 c.in-Ok.rank c.args.wanted.now c.in-Ok.ensures.ok.0 c.in-Ok.ensures.ok.1 c.if-not-is_allowed.ensures.allowed
    (sym (rw (← c.self.view_is) at c.if-not-may_name.ensures.may)) (sym (rw (c.stage.ensures.stage, c.stage-stage.ensures.stage) at c.if-not-are_same.ensures.same)))
