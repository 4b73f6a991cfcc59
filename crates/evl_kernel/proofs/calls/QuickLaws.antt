-- A call that makes one step of an element and wakes nobody, while nothing pends, is a step of the kernel without a play.
use Rattle.std.proofs.Common.{◌≡◌, ℕ, ◌&&◌, true, [], Option, Some, None, is_none, IfNone, IfSome, Ok, ap, sym, subst, ◌∙◌}
use Rattle.arrayvec.specs.ArrayVec.{ArrayVec as Items}
use Rattle.evl_base.specs.declared.call.Call.{Call}
use Rattle.evl_base.specs.declared.reply.Reply.{Reply}
use Rattle.evl_base.specs.declared.reply.Reply.TheVariants.{Bytes}
use Rattle.evl_base.specs.declared.refusal.Refusal.{Refusal}
use Rattle.evl_pipeline.specs.declared.plan.Plan.{Plan}
use Rattle.evl_pipeline.specs.NumberSet.{least}
use Rattle.evl_kernel.specs.calls.CrossBuffers.{bytes_told}
use Rattle.evl_kernel.specs.calls.Effects.{refused_by}
use Rattle.evl_kernel.specs.calls.Elements.{ElementStep, Told, element, touched, wakes}
use Rattle.evl_kernel.specs.calls.Serving.{answer, general_refusal, serving}
use Rattle.evl_kernel.specs.histories.Histories.{Step}
use Rattle.evl_kernel.specs.state.ElementsViews.{ElementsView, owners_of}
use Rattle.evl_kernel.specs.state.Records.{IsSound, RecordsView, state_of}
use Rattle.evl_kernel.specs.state.States.{Elements}
use Rattle.evl_kernel.proofs.calls.QueueLaws.{IsAsked}
use Rattle.evl_kernel.proofs.histories.HistoryLaws.{answered_step}
use Rattle.evl_kernel.proofs.settling.SettlingLaws.{idle_settled}
use Rattle.evl_kernel.proofs.waiting.WaitRecords.{asked_done, asked_sound}

module _ {C : Type 0} (declared : C → ℕ) (plan : C → Plan) (r : RecordsView C) (h : IsSound r) (caller : ℕ) (step : ElementStep) (asks : IsAsked step) (reply : Reply) (after : ElementsView)
    (made : element r.elements.elements step ≡ Ok (reply, after.elements)) (nobody : wakes r.elements.elements step ≡ []) where
  pub quick_step : (asked : Call) → serving (state_of r) caller asked ≡ touched (state_of r) (Some caller) step → general_refusal (state_of r) caller asked ≡ None
      → (is_none (least r.lines.oob.pending) && is_none (least r.lines.inband.pending)) ≡ true
      → Step (state_of r) caller asked (Ok reply) [] (state_of (record r { elements = after }))
  quick_step asked is passes calm =
      answered_step (state_of r) caller asked reply (state_of (record r { elements = after })) (state_of (record r { elements = after })) [] answers (idle_settled declared plan (record r { elements = after }) calm)
    where
      answers : answer (state_of r) caller asked ≡ Ok (reply, state_of (record r { elements = after }))
      answers =
          ap (λ (o : Option Refusal). refused_by o (serving (state_of r) caller asked).effect) passes
          ∙ (ap (λ (t : Told). t.effect) is ∙ asked_done r h step asks reply after made [] nobody)

-- the step answers what was read, and leads from the elements before to those after
abbrev pub IsRead : Elements → ElementStep → ElementsView → Items ℕ → Type 0
IsRead before step after read = element before step ≡ Ok (bytes_told read.items, after.elements)

-- a read, where it was done
pub read_sound : {C : Type 0} (r : RecordsView C) (h : IsSound r) (step : ElementStep) (asks : IsAsked step) (after : ElementsView) (m n : ℕ) (got : Option (Items ℕ))
    → IfSome got (IsRead r.elements.elements step after) → owners_of after ≡ owners_of r.elements → IfNone got ((after ≡ r.elements) × (m ≡ n)) → IsSound (record r { elements = after })
read_sound r h step asks after m n None made owners kept = subst (λ (e : ElementsView). IsSound (record r { elements = e })) (sym kept.0) h
read_sound r h step asks after m n (Some read) made owners kept = asked_sound r h step asks (Bytes read) after made owners

pub quick_read : {C : Type 0} (declared : C → ℕ) (plan : C → Plan) (r : RecordsView C) (h : IsSound r) (caller : ℕ) (step : ElementStep) (asks : IsAsked step) (after : ElementsView) (got : Option (Items ℕ))
    → IfSome got (IsRead r.elements.elements step after) → IfSome got (λ _. wakes r.elements.elements step ≡ [])
    → (asked : Call) → serving (state_of r) caller asked ≡ touched (state_of r) (Some caller) step → general_refusal (state_of r) caller asked ≡ None
    → (is_none (least r.lines.oob.pending) && is_none (least r.lines.inband.pending)) ≡ true
    → IfSome got (λ read. Step (state_of r) caller asked (Ok (Bytes read)) [] (state_of (record r { elements = after })))
quick_read declared plan r h caller step asks after None made nobody asked is passes calm = tt
quick_read declared plan r h caller step asks after (Some read) made nobody asked is passes calm =
    quick_step declared plan r h caller step asks (Bytes read) after made nobody asked is passes calm
