-- The laws of every state that steps on threads leave: they change who is attached, on which stage and how ready, and nothing else.
use Rattle.std.proofs.Common.{ℕ}
use Rattle.evl_sched.specs.Threads.{Sched}
use Rattle.evl_sched.specs.Calls.{attach_refusal, set_policy_refusal, stranger_refusal}
use Rattle.evl_kernel.specs.state.States.{State, with_sched}
use Rattle.evl_kernel.specs.calls.Families.{ThreadStep, attach, detach, set_policy, set_stage, pick, tell_rank, thread_effect}
use Rattle.evl_kernel.proofs.calls.LeavesLaws.{Leaves, leaves-refused}
use Rattle.evl_kernel.specs.calls.ThreadCalls.{detach_refusal}

module _ (P : State → Type 0) (kept : (s : State) (q : Sched) → P s → P (with_sched s q)) where
  pub leaves-threads : (s : State) (caller : ℕ) (step : ThreadStep) → P s → Leaves P (thread_effect s caller step)
  leaves-threads s caller (attach policy stage) h = leaves-refused P (attach_refusal s.sched caller policy) _ (λ passed. kept s _ h)
  leaves-threads s caller detach h = leaves-refused P (detach_refusal s caller) _ (λ passed. kept s _ h)
  leaves-threads s caller (set_policy policy) h = leaves-refused P (set_policy_refusal s.sched caller policy) _ (λ passed. kept s _ h)
  leaves-threads s caller (set_stage stage) h = leaves-refused P (stranger_refusal s.sched caller) _ (λ passed. kept s _ h)
  leaves-threads s caller pick h = h
  leaves-threads s caller (tell_rank thread) h = leaves-refused P (stranger_refusal s.sched thread) _ (λ passed. h)
