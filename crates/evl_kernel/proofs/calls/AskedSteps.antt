-- Which step of an element each call asks for. A step that only reports leaves everything as it is, and so whatever holds.
use Rattle.std.proofs.Common.{◌≡◌, ◌⊎◌, inl, inr, ℕ, List, [], Option, Some, None, Ok, Err, slice_get, slice_set, refl, sym, ap, ◌∙◌, subst}
use Rattle.std.specs.Option.{option_map_or}
use Rattle.evl_base.specs.declared.call.Call.{Call}
use Rattle.evl_base.specs.declared.call.Call.TheVariants as call
use Rattle.evl_base.specs.declared.reply.Reply.{Reply}
use Rattle.evl_base.specs.declared.stage.Stage.{Stage}
use Rattle.evl_sync.specs.FlagGroups.{FlagGroup}
use Rattle.evl_sync.specs.Semaphores.{Semaphore}
use Rattle.evl_xbuf.specs.Xbufs.{Xbuf}
use Rattle.evl_kernel.specs.state.States.{State, Elements}
use Rattle.evl_kernel.specs.calls.Effects.{Answered, if_done, lifted}
use Rattle.evl_kernel.specs.calls.Semaphores as semaphore
use Rattle.evl_kernel.specs.calls.Semaphores.{SemStep, semaphore as sem_machine, sem_wakes}
use Rattle.evl_kernel.specs.calls.FlagGroups as group
use Rattle.evl_kernel.specs.calls.FlagGroups.{FlagStep, flag_group, flag_wakes}
use Rattle.evl_kernel.specs.calls.CrossBuffers as through
use Rattle.evl_kernel.specs.calls.CrossBuffers.{XbufStep, cross_buffer, xbuf_wakes}
use Rattle.evl_kernel.specs.calls.Mutexes as mutex
use Rattle.evl_kernel.specs.waiting.Waits.{all_woken}
use Rattle.evl_kernel.specs.calls.Elements.{ElementStep, on_sem, on_flags, on_xbuf, on_mutex, at_nth, element, elements, with_elements, touched, wakes}
use Rattle.evl_kernel.specs.calls.OwnerCalls.{raiser_refusal}
use Rattle.evl_kernel.specs.calls.Families.{Task, on_element, on_staged, task_of}
use Rattle.evl_kernel.proofs.calls.ElementSteps.{nth-made}
use Rattle.evl_kernel.proofs.calls.LeavesLaws.{Leaves}
use Rattle.evl_kernel.proofs.calls.QueueLaws.{IsAsked, asks_get, asks_put, asks_take, asks_post, asks_write, asks_read, asks_release}
use Rattle.evl_kernel.proofs.state.SetLaws.{set_same}

-- a step that only reports: all elements stay as they are, and it ends nobody's wait
pub record OnlyTells (step : ElementStep) : Type 0 where
  pub stays : (e after : Elements) (reply : Reply) → element e step ≡ Ok (reply, after) → e ≡ after
  pub nobody : (e : Elements) → wakes e step ≡ []

-- where its machine leaves its element as it is
module _ {X P : Type 0} (machine : X → P → Answered X) (with_kind : List X → Elements) (xs : List X) (n : ℕ) (step : P) (stays : (x : X) → if_done x (machine x step) ≡ x) where
  all_stay : (after : Elements) (reply : Reply) → at_nth machine with_kind xs n step ≡ Ok (reply, after) → with_kind xs ≡ after
  all_stay after reply is =
      let made = nth-made machine with_kind xs n step reply after is in
      let same : made.before ≡ made.left = sym (stays made.before) ∙ ap (if_done made.before) made.made in
      ap with_kind (sym (set_same xs n made.before made.here) ∙ ap (slice_set xs n) same) ∙ made.after_is

nobody_at : {X : Type 0} (woken : X → List (ℕ × Reply)) (o : Option X) → ((x : X) → woken x ≡ []) → option_map_or woken o [] ≡ []
nobody_at woken None none = refl
nobody_at woken (Some x) none = none x

module _ (n : ℕ) where
  pub tells_sem : (step : SemStep) → ((q : Semaphore) → if_done q (sem_machine q step) ≡ q) → ((q : Semaphore) → sem_wakes q step ≡ []) → OnlyTells (on_sem n step)
  tells_sem step stays none = record {
    stays = λ e after reply is. all_stay sem_machine (λ qs. record e { sems = qs }) e.sems n step stays after reply is;
    nobody = λ e. nobody_at (λ (q : Semaphore). sem_wakes q step) (slice_get e.sems n) none;
  }

  pub tells_flags : (step : FlagStep) → ((f : FlagGroup) → if_done f (flag_group f step) ≡ f) → ((f : FlagGroup) → flag_wakes f step ≡ []) → OnlyTells (on_flags n step)
  tells_flags step stays none = record {
    stays = λ e after reply is. all_stay flag_group (λ fs. record e { flags = fs }) e.flags n step stays after reply is;
    nobody = λ e. nobody_at (λ (f : FlagGroup). flag_wakes f step) (slice_get e.flags n) none;
  }

  pub tells_xbuf : (step : XbufStep) → ((x : Xbuf) → if_done x (cross_buffer x step) ≡ x) → ((x : Xbuf) → xbuf_wakes x step ≡ []) → OnlyTells (on_xbuf n step)
  tells_xbuf step stays none = record {
    stays = λ e after reply is. all_stay cross_buffer (λ xs. record e { xbufs = xs }) e.xbufs n step stays after reply is;
    nobody = λ e. nobody_at (λ (x : Xbuf). xbuf_wakes x step) (slice_get e.xbufs n) none;
  }

-- whatever holds, still does
pub leaves-told : (P : State → Type 0) (s : State) (by : Option ℕ) (step : ElementStep) → OnlyTells step → P s → Leaves P (touched s by step).effect
leaves-told P s by step tells h = left (element (elements s) step) refl
  where
    left : (a : Answered Elements) → element (elements s) step ≡ a → Leaves P (lifted (λ e. all_woken (with_elements s e) (wakes (elements s) step)) a)
    left (Err refusal) is = tt
    left (Ok (reply, after)) is =
        subst (λ (woken : List (ℕ × Reply)). P (all_woken (with_elements s after) woken)) (sym (tells.nobody (elements s)))
        (subst (λ (e : Elements). P (with_elements s e)) (tells.stays (elements s) after reply is) h)

-- where the step is a raise, nothing refuses its thread
abbrev pub MayRaise : State → ElementStep → Type 0
MayRaise s (on_mutex n (mutex.raise thread)) = raiser_refusal s thread n ≡ None
MayRaise s _ = Unit {0}

-- a step that a call asks for: it only reports, or it is one of those that change an element, and no raise
abbrev pub IsCalled : ElementStep → Type 0
IsCalled step = OnlyTells step ⊎ (IsAsked step × ((s : State) → MayRaise s step))

abbrev pub AsksPlainly : Task → Type 0
AsksPlainly (on_element step) = IsCalled step
AsksPlainly (on_staged step_from) = (caller : ℕ) (stage : Stage) → IsCalled (step_from caller stage)
AsksPlainly _ = Unit {0}

-- of all calls; a call that only reports is named here, and in no other law of all calls
pub asks : (asked : Call) → AsksPlainly (task_of asked)
asks (call.Peek sem) = inl (tells_sem sem.0 semaphore.peek (λ q. refl) (λ q. refl))
asks (call.PeekFlags flags) = inl (tells_flags flags.0 group.peek (λ f. refl) (λ f. refl))
asks (call.Room xbuf way) = inl (tells_xbuf xbuf.0 (through.room way) (λ x. refl) (λ x. refl))
asks (call.TryGet sem) = inr (asks_get sem.0, λ s. tt)
asks (call.Put sem) = inr (asks_put sem.0, λ s. tt)
asks (call.TryTake flags kind) = inr (asks_take flags.0 kind, λ s. tt)
asks (call.PostFlags flags bits) = inr (asks_post flags.0 bits, λ s. tt)
asks (call.Write xbuf way bytes) = λ caller stage. inr (asks_write xbuf.0 stage way bytes.items, λ s. tt)
asks (call.Read xbuf way len) = λ caller stage. inr (asks_read xbuf.0 stage way len, λ s. tt)
asks (call.Release id) = λ caller stage. inr (asks_release id.0 caller, λ s. tt)
asks _ = tt
