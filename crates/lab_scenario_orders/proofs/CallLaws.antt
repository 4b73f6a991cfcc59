-- The state that the kernel's calls leave, and the room that a copy of one takes.
use Rattle.std.proofs.Common.{◌≡◌, ℕ, ◌≤◌, List, Result, Ok, Err, refl, sym, ap, arith}
use Rattle.evl_base.specs.Call.{boxes_in_call}
use Rattle.evl_base.specs.declared.call.Call.{Call}
use Rattle.evl_base.specs.declared.call.Call.TheVariants.{Write, BeginWrite}
use Rattle.evl_base.specs.declared.refusal.Refusal.{Refusal}
use Rattle.evl_base.specs.declared.reply.Reply.{Reply}
use Rattle.evl_kernel.specs.calls.Effects.{Effect}
use Rattle.evl_kernel.specs.calls.Elements.{Touch}
use Rattle.evl_kernel.specs.histories.Histories.{History}
use Rattle.evl_kernel.specs.state.KernelViews.{AddsEntry}
use Rattle.evl_kernel.specs.state.Limits.{play_limit}
use Rattle.evl_kernel.specs.histories.Replays.{Outcome, outcome_of, step_outcome}
use Rattle.evl_kernel.specs.calls.Serving.{what_call_does}
use Rattle.evl_kernel.specs.state.States.{State}
use Rattle.evl_kernel.proofs.settling.Walking.{step_is_stepped}

-- one box is enough for a call
pub few_boxes : (call : Call) → boxes_in_call call ≤ 1
few_boxes (Write xbuf way bytes) = omega arith
few_boxes (BeginWrite xbuf way bytes until) = omega arith
few_boxes _ = omega arith

-- a call that made an entry was the kernel's step
entered : (old new : History) (who : ℕ) (call : Call) (reply : Result Reply Refusal) (added : AddsEntry old who call reply new)
    → step_outcome old.state who call ≡ record { reply = reply; plays = added.0; touches = (step_outcome old.state who call).touches; after = new.state }
entered old new who call reply added = step_is_stepped old.state who call reply added.0 new.state added.1.extends.step.1 added.1.few

pub entered_reply : (old new : History) (who : ℕ) (call : Call) (reply : Result Reply Refusal) → AddsEntry old who call reply new → reply ≡ (step_outcome old.state who call).reply
entered_reply old new who call reply added = sym (ap (λ (o : Outcome). o.reply) (entered old new who call reply added))

pub entered_state : (old new : History) (who : ℕ) (call : Call) (reply : Result Reply Refusal) → AddsEntry old who call reply new → new.state ≡ (step_outcome old.state who call).after
entered_state old new who call reply added = sym (ap (λ (o : Outcome). o.after) (entered old new who call reply added))

pub entered_bank : (old new : History) (who : ℕ) (call : Call) (reply : Result Reply Refusal) → AddsEntry old who call reply new → new.bank ≡ old.bank
entered_bank old new who call reply added = added.1.extends.bank

refused_effect : (most : ℕ) (s : State) (own : List Touch) (effect : Effect) (e : Refusal) → (outcome_of most s own effect).reply ≡ Err e → (outcome_of most s own effect).after ≡ s
refused_effect most s own (Err refusal) e is = refl
refused_effect most s own (Ok (given, changed)) e is = cc

-- a refusal leaves the records
pub refused : (s : State) (who : ℕ) (call : Call) (e : Refusal) → (step_outcome s who call).reply ≡ Err e → (step_outcome s who call).after ≡ s
refused s who call e is = refused_effect play_limit s (what_call_does s who call).touches (what_call_does s who call).effect e is
