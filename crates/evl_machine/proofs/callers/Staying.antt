-- The stage and the unfinished wait of a thread, along a history that goes on.
use Rattle.std.proofs.Common.{◌≡◌, ◌≢◌, ℕ, zero, suc, ◌==◌, ◌||◌, cond, is_some, List, [], ◌∷◌, ◌++◌, Bool, true, false, true≢false, Option, Some, None, Result, Ok, Err, slice_get, length, subst, refl, sym, ap, ◌∙◌, arith}
use Rattle.std.specs.List.{list_any}
use Rattle.std.proofs.lemmas.Bool.Decides.{nat_tests}
use Rattle.evl_base.specs.declared.call.Call.{Call}
use Rattle.evl_base.specs.declared.call.Call.TheVariants.{BeginGet, BeginTake, BeginWrite, BeginRead, Claim, Finish}
use Rattle.evl_base.specs.declared.entry.Entry.{Entry}
use Rattle.evl_base.specs.declared.play.Play.{Play}
use Rattle.evl_base.specs.declared.refusal.Refusal.{Refusal}
use Rattle.evl_base.specs.declared.reply.Reply.{Reply}
use Rattle.evl_base.specs.declared.stage.Stage.{Stage}
use Rattle.evl_sched.specs.Threads.{stage_of}
use Rattle.evl_words.specs.GateCalls.{SeatState}
use Rattle.evl_kernel.specs.state.States.{State}
use Rattle.evl_kernel.specs.calls.Families.{moves_caller, task_of}
use Rattle.evl_kernel.specs.histories.Histories.{History, Run}
use Rattle.evl_kernel.specs.state.KernelViews.{KernelView, entry_of, makes_entry}
use Rattle.evl_kernel.proofs.histories.StageLaws.{stages_are, stages_stay}
use Rattle.evl_machine.specs.declared.unfinished.Unfinished.{Unfinished}
use Rattle.evl_core.specs.declared.views.Account.{Account}
use Rattle.evl_core.specs.accounts.Accounts.{BeginsWith, Fits, IsAccount, calls_by}
use Rattle.evl_machine.specs.callers.Actors.{ActorState, AreHeldAt, AwaitsOneOf, ClaimsOneOf, IsActor, SeatedActor, Suits, acting, call_refusal, stage_in}
use Rattle.evl_machine.specs.stax_locks.StaxSeats.{holds_stax, is_held}
use Rattle.evl_machine.specs.callers.Unfinished.{unfinished_wait, unfinished_from, wait_after, wait_step}
use Rattle.evl_core.specs.accounts.KernelCalls.{Applied}
use Rattle.evl_core.proofs.accounts.Accounts.{calls_by-append, calls_by-own}

-- calls of others leave a thread's stage
run_of_others : (t : ℕ) (old : State) (es : List Entry) (plays : List Play) (new : State) → calls_by t es ≡ [] → Run old es plays new → stage_of new.sched t ≡ stage_of old.sched t
run_of_others t old [] plays new none run = ap (λ (s : State). stage_of s.sched t) run.1
run_of_others t old (e ∷ es) plays new none (own, rest, mid, split, (counted, step), run) = by (λ others. run_of_others t mid es rest new others run) (e.caller.0 == t) refl
  where
    by : (calls_by t es ≡ [] → stage_of new.sched t ≡ stage_of mid.sched t) → (b : Bool) → (e.caller.0 == t) ≡ b → stage_of new.sched t ≡ stage_of old.sched t
    by goes true is = let some : (e ∷ calls_by t es) ≡ [] = ap (λ (b : Bool). cond {A = List Entry} b (e ∷ calls_by t es) (calls_by t es)) (sym is) ∙ none in absurd (cc)
    by goes false is =
        let others : calls_by t es ≡ [] = ap (λ (b : Bool). cond {A = List Entry} b (e ∷ calls_by t es) (calls_by t es)) (sym is) ∙ none in
        let other : t ≢ e.caller.0 = λ same. absurd (grind (arith, nat_tests)) in
        goes others ∙ stages_are old e.caller.0 e.call e.reply own mid step t other

nothing_more : (xs ys : List Entry) → xs ++ ys ≡ xs → ys ≡ []
nothing_more [] ys e = e
nothing_more (x ∷ xs) ys e = nothing_more xs ys (cc)

-- a history that has no more calls of a thread than one that it begins with has its stage there too
pub stage_stays : (t : ℕ) (seen h : History) → BeginsWith h seen → calls_by t h.entries ≡ calls_by t seen.entries → stage_in h t ≡ stage_in seen t
stage_stays t seen h (later, longer) same =
    let none : calls_by t later ≡ [] = nothing_more (calls_by t seen.entries) (calls_by t later) (sym (calls_by-append t seen.entries later) ∙ (ap (calls_by t) (sym longer.entries_are) ∙ same)) in
    run_of_others t seen.state later longer.plays h.state none longer.run

-- a caller that finds the kernel knows its thread's stage and wait there
pub suits_found : (a : ActorState) (x : Account) (h : History) → a.thread.0 ≡ x.thread → IsAccount x → Fits h x → Suits a x.seen → Suits a h
suits_found a x h own is f s =
    let same : calls_by a.thread.0 h.entries ≡ calls_by a.thread.0 x.seen.entries = ap (λ t. calls_by t h.entries) own ∙ (f.mine ∙ (sym is.mine ∙ ap (λ t. calls_by t x.seen.entries) (sym own))) in record {
      stage = s.stage ∙ sym (stage_stays a.thread.0 x.seen h f.seen same);
      wait = s.wait ∙ ap unfinished_wait (sym same);
    }

pub fits_stage : (x : Account) (h : History) → IsAccount x → Fits h x → stage_in h x.thread ≡ stage_in x.seen x.thread
fits_stage x h is f = stage_stays x.thread x.seen h f.seen (f.mine ∙ sym is.mine)

unfinished-append : (w : Option Unfinished) (xs ys : List Entry) → unfinished_from w (xs ++ ys) ≡ unfinished_from (unfinished_from w xs) ys
unfinished-append w [] ys = refl
unfinished-append w (x ∷ xs) ys = unfinished-append (wait_after w (wait_step x.call) x.reply) xs ys

-- a refusal leaves the wait
refused_wait : (w : Option Unfinished) (c : Call) (r : Result Reply Refusal) → makes_entry r ≡ false → wait_after w (wait_step c) r ≡ w
refused_wait w c (Ok reply) is = absurd (true≢false is)
refused_wait w c (Err refusal) is = refl

module _ {C : Type 0} where
  -- the wait once a call was answered
  pub wait_applied : (k k' : KernelView C) (t : ℕ) (c : Call) (r : Result Reply Refusal) → Applied k t c r k' → (b : Bool) → makes_entry r ≡ b → unfinished_wait (calls_by t k'.history.entries) ≡ wait_after (unfinished_wait (calls_by t k.history.entries)) (wait_step c) r
  wait_applied k k' t c r done true is =
      let e = done.entered is in
      let entry = entry_of t c r e.0 in
      ap (λ es. unfinished_wait (calls_by t es)) e.1.extends.entries ∙ (ap unfinished_wait (calls_by-append t k.history.entries (entry ∷ [])) ∙ (ap (λ es. unfinished_wait (calls_by t k.history.entries ++ es)) (calls_by-own t (entry ∷ []) (refl, tt)) ∙ unfinished-append None (calls_by t k.history.entries) (entry ∷ [])))
  wait_applied k k' t c r done false is = ap (λ (h : History). unfinished_wait (calls_by t h.entries)) (done.refused is) ∙ sym (refused_wait (unfinished_wait (calls_by t k.history.entries)) c r is)

  -- a call that isn't about its caller's stage leaves it
  pub stage_applied : (k k' : KernelView C) (t : ℕ) (c : Call) (r : Result Reply Refusal) → Applied k t c r k' → moves_caller (task_of c) ≡ false → (b : Bool) → makes_entry r ≡ b → stage_in k'.history t ≡ stage_in k.history t
  stage_applied k k' t c r done still true is = let e = done.entered is in stages_stay k.history.state t c r e.0 k'.history.state e.1.extends.step.1 still t
  stage_applied k k' t c r done still false is = ap (λ (h : History). stage_in h t) (done.refused is)

any_at : {S : Type 0} (p : S → Bool) (xs : List S) (i : ℕ) (x : S) → slice_get xs i ≡ Some x → p x ≡ true → list_any p xs ≡ true
any_at p [] i x there is = absurd (cc)
any_at p (y ∷ ys) zero x there is = let same : y ≡ x = cc in ap (λ b. b || list_any p ys) (ap p same ∙ is)
any_at p (y ∷ ys) (suc i) x there is = ap (λ b. p y || b) (any_at p ys i x there is) ∙ either (p y)
  where
    either : (b : Bool) → (b || true) ≡ true
    either true = refl
    either false = refl

holds_one : (s : SeatState) (held : Stage) → s.view.held.stage ≡ Some held → is_held s ≡ true
holds_one s held at = ap is_some at

-- what holds staxes stays on its stage
held_still : (old new : Stage) (seats : List SeatState) → AreHeldAt old seats → (holds_stax seats ≡ true → new ≡ old) → AreHeldAt new seats
held_still old new seats at stays i s held there is = at i s held there is ∙ sym (stays (any_at is_held seats i s there (holds_one s held is)))

-- who holds no stax holds none at another stage
pub free_held : (stage : Stage) (seats : List SeatState) → holds_stax seats ≡ false → AreHeldAt stage seats
free_held stage seats free i s held there is = absurd (true≢false (sym (any_at is_held seats i s there (holds_one s held is)) ∙ free))

-- a wait that begins is for a mutex that was claimed
awaits_after : (count : ℕ) (w : Option Unfinished) (c : Call) (r : Result Reply Refusal) → AwaitsOneOf count w → ClaimsOneOf count c → AwaitsOneOf count (wait_after w (wait_step c) r)
awaits_after count w c (Err refusal) was claims = was
awaits_after count w (Claim mutex owner until) (Ok reply) was claims = claims
awaits_after count w (BeginGet sem until) (Ok reply) was claims = tt
awaits_after count w (BeginTake flags kind until) (Ok reply) was claims = tt
awaits_after count w (BeginWrite xbuf way bytes until) (Ok reply) was claims = tt
awaits_after count w (BeginRead xbuf way len until) (Ok reply) was claims = tt
awaits_after count w (Finish keep) (Ok reply) was claims = tt
awaits_after count w _ (Ok reply) was claims = was

abbrev pub knowing : {C : Type 0} → SeatedActor C → Stage → Option Unfinished → SeatedActor C
knowing a stage wait = record a { stage = stage; wait = wait }

module _ {C : Type 0} (k k' : KernelView C) (a : SeatedActor C) (c : Call) (r : Result Reply Refusal) (stage : Stage) (wait : Option Unfinished) where
  -- an actor after a call of the kernel, once it knows its thread's stage and wait anew
  pub actor_applied : IsActor a → Suits (acting a) k.history → (holds_stax a.staxes ≡ true → moves_caller (task_of c) ≡ false) → Applied k a.thread.0 c r k' → stage ≡ stage_in k'.history a.thread.0
      → ClaimsOneOf (length a.places) c → wait ≡ wait_after a.wait (wait_step c) r → IsActor (knowing a stage wait)
  actor_applied is suits stays done now claims after = record {
    held = held_still a.stage stage a.staxes is.held (λ holds. now ∙ (stage_applied k k' a.thread.0 c r done (stays holds) (makes_entry r) refl ∙ sym suits.stage));
    awaits = subst (AwaitsOneOf (length a.places)) (sym after) (awaits_after (length a.places) a.wait c r is.awaits claims);
    staxes = is.staxes;
    places = is.places;
  }

  pub suits_applied : Suits (acting a) k.history → Applied k a.thread.0 c r k' → stage ≡ stage_in k'.history a.thread.0 → wait ≡ wait_after a.wait (wait_step c) r → Suits (acting (knowing a stage wait)) k'.history
  suits_applied suits done now after = record {
    stage = now;
    wait = after ∙ (ap (λ w. wait_after w (wait_step c) r) suits.wait ∙ sym (wait_applied k k' a.thread.0 c r done (makes_entry r) refl));
  }

-- held staxes are held at the stage of the caller's thread
pub at_stage : (a : ActorState) (seen : History) (thread : ℕ) (staxes : List SeatState) → AreHeldAt a.stage staxes → Suits a seen → thread ≡ a.thread.0 → AreHeldAt (stage_in seen thread) staxes
at_stage a seen thread staxes held suits own i s h there is = held i s h there is ∙ (suits.stage ∙ ap (stage_in seen) (sym own))
