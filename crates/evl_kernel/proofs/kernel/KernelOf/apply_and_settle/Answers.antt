use Rattle.std.proofs.Common.{◌≡◌, ◌⊎◌, ◌∙◌, ◌-◌, inl, inr, false, List, [], ◌∷◌, ◌++◌, Result, Ok, Err, ap, refl, sym, subst, arith, length, length-append}
use Rattle.std.specs.Result.{IsErr, IsErrAnd}
use Rattle.std.proofs.lemmas.Bool.{false≢true}
use Rattle.evl_base.specs.declared.refusal.Refusal.{Refusal}
use Rattle.evl_base.specs.declared.refusal.Refusal.TheVariants.{HistoryFull, NoMemory}
use Rattle.evl_base.specs.declared.entry.Entry.{Entry}
use Rattle.evl_base.specs.declared.play.Play.{Play}
use Rattle.evl_kernel.specs.histories.Histories.{History, IsLegal}
use Rattle.evl_kernel.specs.state.Callbacks.{handlers_in}
use Rattle.evl_kernel.specs.state.Records.{state_of, whereabouts}
use Rattle.evl_kernel.specs.state.KernelViews.{Adds, IsKernelRefusal, refusal_enters}
use Rattle.evl_kernel.specs.state.Insides.{kernel_view}
use Rattle.evl_kernel.proofs.state.CallbackLaws.{answers-kept}
use Rattle.evl_kernel.proofs.histories.HistoryLaws.{adds_by_calls, adds_nothing, counted_entry, kernel_adds, legal_more}
use Rattle.evl_kernel.proofs.state.OnePlaceLaws.{are_in_one_place}
use Rattle.evl_kernel.proofs.kernel.KernelOf.apply_and_settle.Goals as goal
use Rattle.evl_kernel.proofs.kernel.KernelOf.apply_and_settle.Goals.{Joined-call, After-push}

pub returns-in_err-find_room-clause-by_plan : goal.returns-in_err-find_room-clause-by_plan
returns-in_err-find_room-clause-by_plan g c = rw (← c.self.view_is) at c.requires.by_plan

-- a refusal for want of room makes no entry, and the kernel may answer it
no_room_enters : (refusal : Refusal) → (refusal ≡ HistoryFull) ⊎ (refusal ≡ NoMemory) → refusal_enters refusal ≡ false
no_room_enters refusal (inl full) = ap refusal_enters full
no_room_enters refusal (inr none) = ap refusal_enters none

no_room_answers : (refusal : Refusal) → (refusal ≡ HistoryFull) ⊎ (refusal ≡ NoMemory) → IsKernelRefusal refusal
no_room_answers refusal (inl full) = subst IsKernelRefusal (sym full) tt
no_room_answers refusal (inr none) = subst IsKernelRefusal (sym none) tt

-- what is passed on is the refusal for want of room
is_passed : {A : Type 0} (result : Result A Refusal) (refusal : Refusal) → IsErr result → IsErrAnd result (λ e. e ≡ refusal) → result ≡ Err refusal
is_passed (Ok _) refusal is told = absurd told
is_passed (Err _) refusal is told = ap Err told

abbrev refusal_or : {A : Type 0} → Refusal → Result A Refusal → Refusal
refusal_or given (Ok _) = given
refusal_or given (Err refusal) = refusal

same_refusal : {A B : Type 0} {r : Result A Refusal} {s : Result B Refusal} {e f : Refusal} → r ≡ Err e → s ≡ Err e → s ≡ Err f → r ≡ Err f
same_refusal {f = f} told was so = told ∙ ap Err (ap (refusal_or f) (sym was ∙ so))

passed : (g : _) (c : Joined-call g) → c.from_residual.result ≡ Err c.in_err-find_room.field-0.0
passed g c = is_passed _ _ c.from_residual.ensures.0 c.from_residual.ensures.1

pub returns-in_err-find_room-clause-entry : goal.returns-in_err-find_room-clause-entry
returns-in_err-find_room-clause-entry g c enters = absurd (false≢true (sym (no_room_enters _ c.in_err-find_room.ensures.refusals) ∙ (rw (passed g c) at enters)))

pub returns-in_err-find_room-clause-answers : goal.returns-in_err-find_room-clause-answers
returns-in_err-find_room-clause-answers g c = rw (passed g c) (no_room_answers _ c.in_err-find_room.ensures.refusals)

pub perform-answer-requires-clause-by_plan : goal.perform-answer-requires-clause-by_plan
perform-answer-requires-clause-by_plan g c = rw (← c.self.view_is) at c.requires.by_plan

-- what was pushed is the call's entry
pushed_entry : (g : _) (c : After-push g) → c.push.new.self.entries ≡ c.self.inside.history.entries ++ counted_entry c.args.caller.0 c.args.call c.perform-answer.result (c.len.result - c.len-before.result) ∷ []
pushed_entry g c = rw (c.find_room.ensures.entries) at c.push.ensures.entry

-- the history after it
abbrev after_call : (g : _) (c : After-push g) → History
after_call g c = record {
  board = c.self.inside.board;
  bank = handlers_in c.perform-answer.new.self.bank;
  entries = c.push.new.self.entries;
  plays = c.perform-answer.new.plays.items;
  state = state_of c.perform-answer.new.self;
}

call_adds : (g : _) (c : After-push g) → (plays : List Play) × Adds (kernel_view c.self.inside).history c.args.caller.0 c.args.call c.perform-answer.result plays (after_call g c)
call_adds g c =
    let so = rw c.find_room.ensures.plays at c.perform-answer.ensures.performed in (
      so.made,
      kernel_adds g.C.Handler.gives (whereabouts c.self.inside.records) (kernel_view c.self.inside).history (after_call g c) c.args.caller.0 c.args.call c.perform-answer.result (c.len.result - c.len-before.result)
          refl c.perform-answer.ensures.stands.handlers_are so (pushed_entry g c)
          (omega (arith, ap (λ (ps : List Play). length ps) c.find_room.ensures.plays, ap (λ (ps : List Play). length ps) so.appended, length-append {A = Play} c.self.inside.plays.items so.made)),
    )

call_legal : (g : _) (c : After-push g) → IsLegal (after_call g c)
call_legal g c = legal_more (kernel_view c.self.inside).history (after_call g c) _ (call_adds g c).0 c.self.invariant.legal (call_adds g c).1.extends

pub invariant_of-self-2 : goal.invariant_of-self-2
invariant_of-self-2 g c = record {
  legal = call_legal g c;
  within = omega (arith, c.in_ok-find_room.ensures.within, ap (λ (es : List Entry). length es) (pushed_entry g c), length-append {A = Entry});
  limit = c.self.invariant.limit;
  fence = λ below. let stood = c.find_room.ensures.fence (omega (arith, below, c.lower_fence.ensures.fence, c.keep_box.ensures.fence, ap (λ (es : List Entry). length es) c.find_room.ensures.entries, ap (λ (es : List Entry). length es) (pushed_entry g c), length-append {A = Entry})) in
      (omega (arith, stood.0, c.lower_fence.ensures.fence, c.keep_box.ensures.fence), c.lower_fence.ensures.room (omega (arith, below, c.keep_box.ensures.fence)), c.keep_box.ensures.boxes (omega (arith, below)));
}

pub push-requires : goal.push-requires
push-requires g c = record { room = omega (arith, c.in_ok-find_room.ensures.room); few = omega (arith, c.self.invariant.limit, c.in_ok-find_room.ensures.within, ap (λ (es : List Entry). length es) c.find_room.ensures.entries) }

pub returns-clause-entry : goal.returns-clause-entry
returns-clause-entry g c _ = rw (← c.self.view_is) (call_adds g c)

pub returns-clause-brings : goal.returns-clause-brings
returns-clause-brings g c = rw (← c.self.view_is) c.perform-answer.ensures.stands.brings

pub returns-clause-called : goal.returns-clause-called
returns-clause-called g c =
    rw (← c.self.view_is) (adds_by_calls g.C.Handler.gives (whereabouts c.self.inside.records) (kernel_view c.self.inside).history (after_call g c) c.args.caller.0 c.args.call c.perform-answer.result
    (rw c.find_room.ensures.plays at c.perform-answer.ensures.performed))

pub returns-clause-legal : goal.returns-clause-legal
returns-clause-legal g c = call_legal g c

pub returns-clause-by_plan : goal.returns-clause-by_plan
returns-clause-by_plan g c =
    answers-kept g.C.Handler.declared g.C.Handler.plan c.self.inside.records c.perform-answer.new.self c.perform-answer.ensures.stands (rw (← c.self.view_is) at c.requires.by_plan)

pub returns-clause-places : goal.returns-clause-places
returns-clause-places g c = are_in_one_place c.perform-answer.new.self (after_call g c) (call_legal g c) refl refl

pub returns-in_err-find_room-clause-places : goal.returns-in_err-find_room-clause-places
returns-in_err-find_room-clause-places g c = are_in_one_place c.self.inside.records (kernel_view c.self.inside).history c.self.invariant.legal refl refl

pub returns-in_err-find_room-clause-called : goal.returns-in_err-find_room-clause-called
returns-in_err-find_room-clause-called g c = rw (← c.self.view_is, c.find_room.ensures.plays) (adds_nothing g.C.Handler.gives (whereabouts c.self.inside.records) (kernel_view c.self.inside).history c.args.caller.0 c.args.call)

pub returns-in_err-find_room-clause-full : goal.returns-in_err-find_room-clause-full
returns-in_err-find_room-clause-full g c =
    rw (← c.self.view_is)
    ((λ e. c.find_room.ensures.full.0 (same_refusal c.in_err-find_room.was (passed g c) e)), (λ e. same_refusal (passed g c) c.in_err-find_room.was (c.find_room.ensures.full.1 e)))

pub returns-in_err-find_room-clause-memory : goal.returns-in_err-find_room-clause-memory
returns-in_err-find_room-clause-memory g c e =
    rw (← c.self.view_is) (c.find_room.ensures.memory (same_refusal c.in_err-find_room.was (passed g c) e))

pub returns-in_err-find_room-clause-legal : goal.returns-in_err-find_room-clause-legal
returns-in_err-find_room-clause-legal g c = rw (c.find_room.ensures.entries, c.find_room.ensures.plays) c.self.invariant.legal

pub returns-in_err-find_room-clause-none : goal.returns-in_err-find_room-clause-none
returns-in_err-find_room-clause-none g c _ = rw (← c.self.view_is, c.find_room.ensures.entries, c.find_room.ensures.plays) refl
