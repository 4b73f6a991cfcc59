-- The effect of a call of C's.
use Rattle.std.specs.Prelude.{◌≡◌, ℕ, ◌+◌, ◌-◌, ◌≤◌, ◌↔◌, List, length, Option, Some, None, Result, Err, IsTrue, IsFalse}
use Rattle.evl_base.specs.declared.call.Call.{Call}
use Rattle.evl_base.specs.declared.refusal.Refusal.{Refusal}
use Rattle.evl_base.specs.declared.refusal.Refusal.TheVariants.{HistoryFull, NoMemory}
use Rattle.evl_base.specs.declared.reply.Reply.{Reply}
use Rattle.evl_kernel.specs.state.Callbacks.{BringsNone, handlers_in}
use Rattle.evl_kernel.specs.settling.Fires.{AddsByCalls}
use Rattle.evl_kernel.specs.histories.Histories.{IsLegal}
use Rattle.evl_kernel.specs.state.KernelViews.{KernelView, AddsEntry, IsKernelAnswer, makes_entry}
use Rattle.evl_kernel.specs.state.Places.{AreInOnePlace}
use Rattle.evl_pipeline.specs.Plans.{answer_of}
use Rattle.evl_plans.specs.declared.planned.Planned.{Planned}
use Rattle.evl_c.specs.Answers.{answer_form, bytes_of}
use Rattle.evl_c.specs.Windows.{window}
use Rattle.evl_c.specs.declared.answers.AnswerForm.{AnswerForm}

-- rule: A kernel that C opens has exactly its board, callbacks and limit. Each call is one of the kernel's, and C gets
--   its answer and bytes; `NoMemory` comes only without room. A word that is no call changes nothing.
--   clauses: evlsim_c_open; evlsim_c_apply; evlsim_c_apply_bare: none, refused; evlsim_c_reset; evlsim_c_close
-- The kernel answered the call, settled and entered it, all as its `apply` says; C got the answer, and the bytes that it
-- brought are in the buffer.
pub record Applied (old new : KernelView Planned) (caller : ℕ) (call : Call) (buffer told : List ℕ) (answer : AnswerForm) : Type 0 where
  pub reply : Result Reply Refusal
  pub entry : IsTrue (makes_entry reply) → AddsEntry old.history caller call reply new.history
  pub none : IsFalse (makes_entry reply) → new.history ≡ old.history
  pub full : (reply ≡ Err HistoryFull) ↔ (length old.history.entries ≡ old.limit)
  pub legal : IsLegal new.history
  pub memory : reply ≡ Err NoMemory → old.room ≡ 0
  pub answers : IsKernelAnswer reply
  pub limit : new.limit ≡ old.limit
  pub room : old.room ≤ new.room + 1
  pub brings : BringsNone old.callbacks new.callbacks
  pub handlers : handlers_in new.callbacks.bank ≡ handlers_in old.callbacks.bank
  pub called : AddsByCalls (λ p fire answer. answer ≡ answer_of p.plan fire.count) old.callbacks old.history caller call new.history
  pub places : AreInOnePlace new.callbacks
  pub answer_is : answer ≡ answer_form reply (length old.history.plays) (length new.history.plays - length old.history.plays)
  pub told_is : told ≡ window (bytes_of reply) 0 buffer

-- a kernel was there, and is
abbrev pub Applies : Option (KernelView Planned) → Option (KernelView Planned) → ℕ → Call → List ℕ → List ℕ → AnswerForm → Type 0
Applies (Some old) (Some new) caller call buffer told answer = Applied old new caller call buffer told answer
Applies _ _ caller call buffer told answer = ⊥
