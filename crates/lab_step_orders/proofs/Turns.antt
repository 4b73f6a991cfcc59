-- Each turn's step is one that the caller may make.
use Rattle.std.proofs.Common.{◌≡◌, ℕ, ◌+◌, ◌==◌, ◌||◌, Bool, true, false, List, length, Ok, Err, refl, subst, ap, ◌∙◌}
use Rattle.std.specs.Prelude.{Option, Some, None, Result, is_some, nat_lt, option_map, slice_get, if◌then◌else◌}
use Rattle.std.specs.Bool.{beq}
use Rattle.std.specs.Option.{option_map_or}
use Rattle.std.proofs.lemmas.Bool.{eqb-true, ltb-true}
use Rattle.std.proofs.lemmas.Option.{same_Some}
use Rattle.evl_base.specs.declared.numbers.MutexId.{MutexId}
use Rattle.evl_base.specs.declared.numbers.StaxId.{StaxId}
use Rattle.evl_base.specs.declared.numbers.ThreadId.{ThreadId}
use Rattle.evl_base.specs.declared.refusal.Refusal.{Refusal}
use Rattle.evl_base.specs.declared.refusal.Refusal.TheVariants.{Again, Busy, CoreBusy, Deadlock, Invalid, NotOwner, Unknown}
use Rattle.evl_base.specs.declared.reply.Reply.{Reply}
use Rattle.evl_base.specs.declared.reply.Reply.TheVariants as reply
use Rattle.evl_base.specs.declared.stage.Stage.{Stage}
use Rattle.evl_base.specs.declared.stage.Stage.TheVariants.{Inband, Oob}
use Rattle.evl_kernel.specs.state.States.{State}
use Rattle.evl_kernel.specs.waiting.Waits.{has_timed_out}
use Rattle.evl_words.specs.GateWord.{word_refusal, left_in}
use Rattle.evl_words.specs.MutexBits.{offers_to}
use Rattle.evl_words.specs.declared.gate.Left.{Left}
use Rattle.evl_words.specs.declared.gate.Left.TheVariants as left
use Rattle.lab_step_orders.specs.Programs.{limit_of, stage_of, goes, ends, refuses, look_turn, try_stax, exchange_turn, leave_turn, unlock_stax, lock_refusal, spend_refusal, refused_missing, try_mutex, unlock_turn, unlock_fast, unlock_mutex, begin_mutex, end_mutex, finish_mutex, finish_wait, holds_some, first_ahead, ahead_at}
use Rattle.lab_step_orders.specs.Cores.{has_core, is_done, core_turn, with_core, is_early, take_turn, visit_begun, begun_turn, ended_by, held_turn, turn_of}
use Rattle.lab_step_orders.specs.Visits.{visits, answered, handed, handed_to, claimed, claim, owner_in, queued, begun, ended, told, goes_on, visit_turn}
use Rattle.lab_step_orders.specs.Wrongs.{stepped_wrong, then_wrong, step_made, made_so}
use Rattle.lab_step_orders.specs.Words.{Shared, holds}
use Rattle.lab_step_orders.proofs.Standing.{MutexMay}
use Rattle.lab_step_orders.specs.declared.calls.Answer.TheVariants.{Passed, Done, Refused}
use Rattle.lab_step_orders.specs.declared.calls.WordCall.{WordCall}
use Rattle.lab_step_orders.specs.declared.calls.WordCall.TheVariants as call
use Rattle.lab_step_orders.specs.declared.calls.WordCall.TheVariants.{TryLockStax, UnlockStax, ClaimStax, TryLockMutex, UnlockMutexFast, TryUnlockMutex, BeginLockMutex, FinishLockMutex, Kernel}
use Rattle.lab_step_orders.specs.declared.crews.Crew.{Crew}
use Rattle.lab_step_orders.specs.declared.steps.Ahead.{Ahead}
use Rattle.lab_step_orders.specs.declared.steps.Ahead.TheVariants.{Turns, Visits}
use Rattle.lab_step_orders.specs.declared.steps.Asked.{Asked}
use Rattle.lab_step_orders.specs.declared.steps.Asked.TheVariants as asked
use Rattle.lab_step_orders.specs.declared.steps.GateStep.{GateStep}
use Rattle.lab_step_orders.specs.declared.steps.GateStep.TheVariants.{Look, Exchange, Leave, Claim, Unclaim}
use Rattle.lab_step_orders.specs.declared.steps.CoreChange.{CoreChange}
use Rattle.lab_step_orders.specs.declared.steps.CoreChange.TheVariants.{Takes, Ends as EndsVisit, Gives}
use Rattle.lab_step_orders.specs.declared.steps.CoreUse.{CoreUse}
use Rattle.lab_step_orders.specs.declared.steps.CoreUse.TheVariants.{Whole, Lasts, Tries}
use Rattle.lab_step_orders.specs.declared.steps.MutexStep.TheVariants.{Try, Unlock, Win, Mark, Offer, Free, Accept, Forget}
use Rattle.lab_step_orders.specs.declared.steps.Place.{Place}
use Rattle.lab_step_orders.specs.declared.steps.Place.TheVariants.{Begins, Found, Left as LeftStax, Claimed}
use Rattle.lab_step_orders.specs.declared.steps.Taken.{Taken}
use Rattle.lab_step_orders.specs.declared.steps.Then.{Then}
use Rattle.lab_step_orders.specs.declared.steps.Then.TheVariants.{Stands, Answers}
use Rattle.lab_step_orders.specs.declared.steps.Turn.{Turn}
use Rattle.lab_step_orders.specs.declared.steps.Visit.{Visit}
use Rattle.lab_step_orders.specs.declared.steps.Visit.TheVariants.{Release, Finish, Step as StepAt}
use Rattle.lab_step_orders.specs.declared.steps.WaitChange.TheVariants.{Same, Ends}
use Rattle.lab_step_orders.specs.declared.steps.Waiting.{Waiting}
use Rattle.lab_step_orders.specs.declared.steps.Waiting.TheVariants as wait
use Rattle.lab_step_orders.specs.declared.steps.WhatIf.{WhatIf}
use Rattle.lab_step_orders.specs.declared.steps.WhatIf.TheVariants.{OfferDropsMark, ClaimSetsNoMark, UnlockSkipsKernel, LeaveKeepsMark}
use Rattle.lab_step_orders.specs.declared.steps.WordStep.{WordStep}
use Rattle.lab_step_orders.specs.declared.steps.WordStep.TheVariants.{AtGate, AtMutex}

-- what a step wants of its caller, which holds the gate or doesn't
abbrev pub GateMay : ℕ → Stage → Bool → GateStep → Type 0
GateMay limit stage h Look = h ≡ false
GateMay limit stage h (Exchange old) = (h ≡ false) × (word_refusal limit old stage ≡ None)
GateMay limit stage h Leave = h ≡ true
GateMay limit stage h Claim = Unit {0}
GateMay limit stage h Unclaim = Unit {0}

module _ (c : Crew) (gates mutexes : List Shared) (k : ℕ) where
  abbrev pub StepMay : Option WordStep → Type 0
  StepMay None = Unit {0}
  StepMay (Some (AtGate stax step)) = (g : Shared) → slice_get gates stax.0 ≡ Some g → GateMay (limit_of c stax.0) (stage_of c k) (holds g k) step
  StepMay (Some (AtMutex mutex step)) = (m : Shared) → slice_get mutexes mutex.0 ≡ Some m → MutexMay (length c.callers.items) k m.word (holds m k) step

  -- a caller that found a word may exchange it
  abbrev pub PlaceMay : Place → Type 0
  PlaceMay Begins = Unit {0}
  PlaceMay (Found stax old) = (g : Shared) → slice_get gates stax.0 ≡ Some g → (holds g k ≡ false) × (word_refusal (limit_of c stax.0) old (stage_of c k) ≡ None)
  PlaceMay (LeftStax stax) = Unit {0}
  PlaceMay (Claimed mutex) = (m : Shared) → slice_get mutexes mutex.0 ≡ Some m → holds m k ≡ true

  -- and it finds one by a look alone
  abbrev pub StoodMay : WordStep → Place → Type 0
  StoodMay step Begins = Unit {0}
  StoodMay step (Found stax old) = (step ≡ AtGate stax Look) × PlaceMay (Found stax old)
  StoodMay step (LeftStax stax) = Unit {0}
  StoodMay step (Claimed mutex) = (step ≡ AtMutex mutex Unlock) × ((m : Shared) → slice_get mutexes mutex.0 ≡ Some m → (holds m k ≡ true) × ((m.word == k + 1) ≡ false))

  abbrev pub ThenMay : Option WordStep → Then → Type 0
  ThenMay step (Answers answer) = Unit {0}
  ThenMay None (Stands place) = PlaceMay place
  ThenMay (Some step) (Stands place) = StoodMay step place

  abbrev pub May : Turn → Type 0
  May turn = StepMay turn.step × ThenMay turn.step turn.then

  only : (xs : List Shared) (i : ℕ) (g z : Shared) → slice_get xs i ≡ Some g → slice_get xs i ≡ Some z → g ≡ z
  only xs i g z at also = same_Some g z (subst (λ (o : Option Shared). o ≡ Some z) at also)

  module _ (stax : StaxId) (g : Shared) (at : slice_get gates stax.0 ≡ Some g) where
    look_may : holds g k ≡ false → (o : Option Refusal) → word_refusal (limit_of c stax.0) g.word (stage_of c k) ≡ o
        → May (option_map_or (λ refusal. ends (AtGate stax Look) (Refused refusal)) o (goes (AtGate stax Look) (Found stax g.word)))
    look_may free (Some refusal) e = (λ z there. subst (λ (x : Shared). holds x k ≡ false) (only gates stax.0 g z at there) free, tt)
    look_may free None e =
        let out = λ (z : Shared) (there : slice_get gates stax.0 ≡ Some z). subst (λ (x : Shared). holds x k ≡ false) (only gates stax.0 g z at there) free in
        (out, (refl, λ z there. (out z there, e)))

    try_may : (b : Bool) → holds g k ≡ b → May (if b then refuses Busy else look_turn (limit_of c stax.0) (stage_of c k) stax g.word)
    try_may true e = (tt, tt)
    try_may false e = look_may e (word_refusal (limit_of c stax.0) g.word (stage_of c k)) refl

    leave_may : holds g k ≡ true → (l : Left) → May (leave_turn stax l)
    leave_may mine (left.Last true) = (λ z there. subst (λ (x : Shared). holds x k ≡ true) (only gates stax.0 g z at there) mine, tt)
    leave_may mine (left.Last false) = (λ z there. subst (λ (x : Shared). holds x k ≡ true) (only gates stax.0 g z at there) mine, tt)
    leave_may mine left.Others = (λ z there. subst (λ (x : Shared). holds x k ≡ true) (only gates stax.0 g z at there) mine, tt)

    unlock_may : (b : Bool) → holds g k ≡ b → May (if b then leave_turn stax (left_in g.word) else refuses NotOwner)
    unlock_may true e = leave_may e (left_in g.word)
    unlock_may false e = (tt, tt)

  module _ (mutex : MutexId) (m : Shared) (at : slice_get mutexes mutex.0 ≡ Some m) where
    -- what holds of this mutex holds of the one that is there
    here : (P : Shared → Type 0) → P m → (z : Shared) → slice_get mutexes mutex.0 ≡ Some z → P z
    here P p z there = subst P (only mutexes mutex.0 m z at there) p

    lock_may : (stage : Stage) (wait : Option Waiting) (turn : Turn) → (holds m k ≡ false → May turn) → May (option_map_or refuses (lock_refusal stage wait k m) turn)
    lock_may stage (Some w) turn may = (tt, tt)
    lock_may Inband None turn may = (tt, tt)
    lock_may Oob None turn may = by (holds m k) refl where
      by : (b : Bool) → holds m k ≡ b → May (option_map_or refuses (if b then Some Deadlock else None) turn)
      by true e = (tt, tt)
      by false e = may e

    spend_may : (wait : Option Waiting) (turn : Turn) → (holds m k ≡ true → May turn) → May (option_map_or refuses (spend_refusal wait k m) turn)
    spend_may (Some w) turn may = (tt, tt)
    spend_may None turn may = by (holds m k) refl where
      by : (b : Bool) → holds m k ≡ b → May (option_map_or refuses (if b then None else Some NotOwner) turn)
      by true e = may e
      by false e = (tt, tt)

    try_mutex_may : (stage : Stage) (wait : Option Waiting) → May (try_mutex stage mutex k wait m)
    try_mutex_may stage wait = lock_may stage wait (ends (AtMutex mutex Try) (if m.word == 0 then Passed else Refused Busy)) (λ e. (here (λ x. holds x k ≡ false) e, tt))

    unlock_fast_may : (wait : Option Waiting) → May (unlock_fast mutex k wait m)
    unlock_fast_may wait = spend_may wait (unlock_turn mutex k m (ends (AtMutex mutex Unlock) (Refused Busy))) (λ e. by (m.word == k + 1) e) where
      by : (b : Bool) → holds m k ≡ true → May (if b then ends (AtMutex mutex Unlock) Done else ends (AtMutex mutex Unlock) (Refused Busy))
      by true e = (here (λ x. holds x k ≡ true) e, tt)
      by false e = (here (λ x. holds x k ≡ true) e, tt)

    unlock_mutex_may : (wait : Option Waiting) → May (unlock_mutex mutex k wait m)
    unlock_mutex_may wait = spend_may wait (unlock_turn mutex k m (goes (AtMutex mutex Unlock) (Claimed mutex))) (λ e. by (m.word == k + 1) refl e) where
      by : (b : Bool) → (m.word == k + 1) ≡ b → holds m k ≡ true → May (if b then ends (AtMutex mutex Unlock) Done else goes (AtMutex mutex Unlock) (Claimed mutex))
      by true is e = (here (λ x. holds x k ≡ true) e, tt)
      by false is e = (here (λ x. holds x k ≡ true) e, (refl, here (λ x. (holds x k ≡ true) × ((x.word == k + 1) ≡ false)) (e, is)))

  -- ---- visits

  abbrev pub AskedMay : Asked → Type 0
  AskedMay (asked.Hand mutex) = (m : Shared) → slice_get mutexes mutex.0 ≡ Some m → holds m k ≡ true
  AskedMay (asked.Begin mutex until word) = (m : Shared) → slice_get mutexes mutex.0 ≡ Some m → m.word ≡ word
  AskedMay (asked.End mutex word) = (m : Shared) → slice_get mutexes mutex.0 ≡ Some m → m.word ≡ word
  AskedMay (asked.Step place) = Unit {0}
  AskedMay asked.Finish = Unit {0}

  abbrev pub AheadMay : Ahead → Type 0
  AheadMay (Turns turn) = May turn
  AheadMay (Visits visit) = AskedMay visit

  handed_to_may : (mutex : MutexId) (next : Option ThreadId) (more : Bool) → AskedMay (asked.Hand mutex) → May (handed_to c mutex next more)
  handed_to_may mutex None more may = (may, tt)
  handed_to_may mutex (Some next) more may = by (nat_lt next.0 (length c.callers.items)) refl where
    by : (b : Bool) → nat_lt next.0 (length c.callers.items) ≡ b → May (if b then visits mutex (Offer next.0 more) (Some (Release mutex)) Same Done else refuses Invalid)
    by true e = ((λ m there. (may m there, ltb-true next.0 (length c.callers.items) e)), tt)
    by false e = (tt, tt)

  handed_may : (mutex : MutexId) (r : Result Reply Refusal) → AskedMay (asked.Hand mutex) → May (handed c mutex r)
  handed_may mutex (Err refusal) may = (tt, tt)
  handed_may mutex (Ok (reply.Handed next more)) may = handed_to_may mutex next more may
  handed_may mutex (Ok reply.Done) may = (tt, tt)
  handed_may mutex (Ok reply.Begun) may = (tt, tt)
  handed_may mutex (Ok reply.TimedOut) may = (tt, tt)
  handed_may mutex (Ok (reply.Count count)) may = (tt, tt)
  handed_may mutex (Ok (reply.Bits bits)) may = (tt, tt)
  handed_may mutex (Ok (reply.Number number)) may = (tt, tt)
  handed_may mutex (Ok (reply.Chosen thread)) may = (tt, tt)
  handed_may mutex (Ok (reply.Bytes bytes)) may = (tt, tt)

  claimed_may : (mutex : MutexId) (visit : Visit) (r : Result Reply Refusal) → May (claimed mutex visit r)
  claimed_may mutex visit (Ok r) = ((λ m there. tt), tt)
  claimed_may mutex visit (Err refusal) = ((λ m there. tt), tt)

  begun_may : (s : State) (mutex : MutexId) (until : Option ℕ) (word : ℕ) → AskedMay (asked.Begin mutex until word) → May (begun c s k mutex until word)
  begun_may s mutex until word may = by (word == 0) refl where
    owned : (o : Option ThreadId) → May (queued c s k mutex until o)
    owned None = (tt, tt)
    owned (Some owner) = claimed_may mutex (claim mutex owner until) (answered c s k (claim mutex owner until))

    by : (b : Bool) → (word == 0) ≡ b → May (if b then visits mutex Win None Same Passed else queued c s k mutex until (owner_in word))
    by true e = ((λ m there. may m there ∙ eqb-true word 0 e), tt)
    by false e = owned (owner_in word)

  ended_may : (mutex : MutexId) (until : Option ℕ) (word : ℕ) (b : Bool) → AskedMay (asked.End mutex word) → May (ended mutex word k b)
  ended_may mutex until word true may = ((λ m there. tt), tt)
  ended_may mutex until word false may = by (offers_to word k) refl where
    by : (b : Bool) → offers_to word k ≡ b → May (if b then visits mutex Accept (Some Finish) Ends Passed else refuses Again)
    by true e = ((λ m there. ap (λ (x : ℕ). offers_to x k) (may m there) ∙ e), tt)
    by false e = (tt, tt)

  told_may : (visit : Visit) (r : Result Reply Refusal) → May (told visit r)
  told_may visit (Ok r) = (tt, tt)
  told_may visit (Err refusal) = (tt, tt)

  visit_may : (s : State) (visit : Asked) → AskedMay visit → (turn : Turn) → visit_turn c s k visit ≡ Some turn → May turn
  visit_may s (asked.Hand mutex) may turn e = subst May (same_Some _ turn e) (handed_may mutex (answered c s k (Release mutex)) may)
  visit_may s (asked.Begin mutex until word) may turn e = subst May (same_Some _ turn e) (begun_may s mutex until word may)
  visit_may s (asked.End mutex word) may turn e = by (goes_on s k) e where
    by : (b : Bool) → (if b then None else Some (ended mutex word k (has_timed_out s k))) ≡ Some turn → May turn
    by true h = cc
    by false h = subst May (same_Some _ turn h) (ended_may mutex None word (has_timed_out s k) may)
  visit_may s (asked.Step place) may turn e = subst May (same_Some _ turn e) (told_may (StepAt place) (answered c s k (StepAt place)))
  visit_may s asked.Finish may turn e = by (goes_on s k) e where
    by : (b : Bool) → (if b then None else Some (told Finish (answered c s k Finish))) ≡ Some turn → May turn
    by true h = cc
    by false h = subst May (same_Some _ turn h) (told_may Finish (answered c s k Finish))

  -- ---- what is ahead

  finish_may : (wait : Option Waiting) → AheadMay (finish_mutex mutexes wait)
  finish_may None = (tt, tt)
  finish_may (Some wait.Element) = (tt, tt)
  finish_may (Some (wait.Mutex mutex)) = by (slice_get mutexes mutex.0) refl where
    by : (o : Option Shared) → slice_get mutexes mutex.0 ≡ o → AheadMay (end_mutex mutex o)
    by None e = (tt, tt)
    by (Some m) e = here mutex m e (λ x. x.word ≡ m.word) refl

  finish_said : (b : Bool) → AheadMay (if b then Visits asked.Finish else Turns (refuses Invalid))
  finish_said true = tt
  finish_said false = (tt, tt)

  finish_wait_may : (wait : Option Waiting) (keep held : Bool) → AheadMay (finish_wait wait keep held)
  finish_wait_may None keep held = finish_said (beq keep held)
  finish_wait_may (Some wait.Element) keep held = finish_said (beq keep held)
  finish_wait_may (Some (wait.Mutex mutex)) keep held = (tt, tt)

  first_may : (w : Option Waiting) (call : WordCall) → AheadMay (first_ahead c gates mutexes k w call)
  first_may w (TryLockStax stax) = by (slice_get gates stax.0) refl where
    by : (o : Option Shared) → slice_get gates stax.0 ≡ o → May (option_map_or (try_stax (limit_of c stax.0) (stage_of c k) stax k) o (refuses Unknown))
    by None e = (tt, tt)
    by (Some g) e = try_may stax g e (holds g k) refl
  first_may w (UnlockStax stax) = by (slice_get gates stax.0) refl where
    by : (o : Option Shared) → slice_get gates stax.0 ≡ o → May (option_map_or (unlock_stax stax k) o (refuses NotOwner))
    by None e = (tt, tt)
    by (Some g) e = unlock_may stax g e (holds g k) refl
  first_may w (ClaimStax stax) = by (slice_get gates stax.0) where
    by : (o : Option Shared) → May (option_map_or (λ g. ends (AtGate stax Claim) Done) o (refuses Unknown))
    by None = (tt, tt)
    by (Some g) = ((λ z there. tt), tt)
  first_may w (TryLockMutex mutex) = by (slice_get mutexes mutex.0) refl where
    by : (o : Option Shared) → slice_get mutexes mutex.0 ≡ o → May (option_map_or (try_mutex (stage_of c k) mutex k w) o (refused_missing w Unknown))
    by None e = (tt, tt)
    by (Some m) e = try_mutex_may mutex m e (stage_of c k) w
  first_may w (UnlockMutexFast mutex) = by (slice_get mutexes mutex.0) refl where
    by : (o : Option Shared) → slice_get mutexes mutex.0 ≡ o → May (option_map_or (unlock_fast mutex k w) o (refused_missing w NotOwner))
    by None e = (tt, tt)
    by (Some m) e = unlock_fast_may mutex m e w
  first_may w (TryUnlockMutex mutex) = by (slice_get mutexes mutex.0) refl where
    by : (o : Option Shared) → slice_get mutexes mutex.0 ≡ o → May (option_map_or (unlock_mutex mutex k w) o (refused_missing w NotOwner))
    by None e = (tt, tt)
    by (Some m) e = unlock_mutex_may mutex m e w
  first_may w (BeginLockMutex mutex until) = by (slice_get mutexes mutex.0) refl where
    begins : (m : Shared) → slice_get mutexes mutex.0 ≡ Some m → (o : Option Refusal) → AheadMay (option_map_or (λ refusal. Turns (refuses refusal)) o (Visits (asked.Begin mutex until m.word)))
    begins m e None = here mutex m e (λ x. x.word ≡ m.word) refl
    begins m e (Some refusal) = (tt, tt)

    by : (o : Option Shared) → slice_get mutexes mutex.0 ≡ o → AheadMay (option_map_or (begin_mutex (stage_of c k) mutex until k w) o (Turns (refused_missing w Unknown)))
    by None e = (tt, tt)
    by (Some m) e = begins m e (lock_refusal (stage_of c k) w k m)
  first_may w FinishLockMutex = finish_may w
  first_may w (Kernel place) = tt
  first_may w (call.Finish keep) = finish_wait_may w keep (holds_some gates k || holds_some mutexes k)

  ahead_may : (w : Option Waiting) (place : Place) → PlaceMay place → (call : Option WordCall) (ahead : Ahead) → ahead_at c gates mutexes k w place call ≡ Some ahead → AheadMay ahead
  ahead_may w Begins may None ahead e = cc
  ahead_may w Begins may (Some call) ahead e = subst AheadMay (same_Some _ ahead e) (first_may w call)
  ahead_may w (Found stax old) may call ahead e = by (slice_get gates stax.0) e where
    by : (o : Option Shared) → option_map (λ g. Turns (exchange_turn (limit_of c stax.0) (stage_of c k) stax old g)) o ≡ Some ahead → AheadMay ahead
    by None h = cc
    by (Some g) h = subst AheadMay (same_Some _ ahead h) (may, tt)
  ahead_may w (LeftStax stax) may call ahead e = subst AheadMay (same_Some _ ahead e) ((λ z there. tt), tt)
  ahead_may w (Claimed mutex) may call ahead e = subst AheadMay (same_Some _ ahead e) may

  -- ---- the core

  take_may : (way : CoreUse) (taken : Bool) (place : Place) → PlaceMay place → (turn : Turn) → take_turn way taken place ≡ Some turn → May turn
  take_may way false place may turn e = subst May (same_Some (core_turn Takes place) turn e) (tt, may)
  take_may Tries true place may turn e = subst May (same_Some (refuses CoreBusy) turn e) (tt, tt)
  take_may Lasts true place may turn e = cc
  take_may Whole true place may turn e = cc

  begins_may : (s : State) (way : CoreUse) (taken : Bool) (place : Place) → PlaceMay place → (visit : Asked) → AskedMay visit → (turn : Turn) → visit_begun c s k way taken place visit ≡ Some turn → May turn
  begins_may s Whole taken place may visit asks turn e = by taken e where
    by : (b : Bool) → (if b then None else visit_turn c s k visit) ≡ Some turn → May turn
    by true h = cc
    by false h = visit_may s visit asks turn h
  begins_may s Lasts taken place may visit asks turn e = by (is_early s k visit) e where
    by : (b : Bool) → (if b then None else take_turn Lasts taken place) ≡ Some turn → May turn
    by true h = cc
    by false h = take_may Lasts taken place may turn h
  begins_may s Tries taken place may visit asks turn e = by (is_early s k visit) e where
    by : (b : Bool) → (if b then None else take_turn Tries taken place) ≡ Some turn → May turn
    by true h = cc
    by false h = take_may Tries taken place may turn h

  begun_turn_may : (s : State) (way : CoreUse) (taken : Bool) (place : Place) → PlaceMay place → (o : Option Ahead) → ((ahead : Ahead) → o ≡ Some ahead → AheadMay ahead) → (turn : Turn) → begun_turn c s k way taken place o ≡ Some turn → May turn
  begun_turn_may s way taken place may None all turn e = cc
  begun_turn_may s way taken place may (Some (Turns t)) all turn e = subst May (same_Some t turn e) (all (Turns t) refl)
  begun_turn_may s way taken place may (Some (Visits visit)) all turn e = begins_may s way taken place may visit (all (Visits visit) refl) turn e

  changes_may : (change : CoreChange) (o : Option Turn) → ((t : Turn) → o ≡ Some t → May t) → (turn : Turn) → option_map (with_core change) o ≡ Some turn → May turn
  changes_may change None all turn e = cc
  changes_may change (Some t) all turn e = subst May (same_Some (with_core change t) turn e) (all t refl)

  held_may : (s : State) (done : Bool) (o : Option Ahead) → ((ahead : Ahead) → o ≡ Some ahead → AheadMay ahead) → (turn : Turn) → held_turn c s k done o ≡ Some turn → May turn
  held_may s true o all turn e = subst May (same_Some (core_turn Gives Begins) turn e) (tt, tt)
  held_may s false None all turn e = cc
  held_may s false (Some (Turns t)) all turn e = subst May (same_Some (with_core EndsVisit t) turn e) (all (Turns t) refl)
  held_may s false (Some (Visits visit)) all turn e = changes_may (ended_by visit) (visit_turn c s k visit) (visit_may s visit (all (Visits visit) refl)) turn e

  -- where its place is as it may be
  right_may : (s : State) (way : CoreUse) (core : Option Taken) (w : Option Waiting) (place : Place) → PlaceMay place → (call : Option WordCall) (turn : Turn) → turn_of c s k way core place (ahead_at c gates mutexes k w place call) ≡ Some turn → May turn
  right_may s way core w place may call turn e = by (has_core core k) e where
    by : (b : Bool) → (if b then held_turn c s k (is_done core) (ahead_at c gates mutexes k w place call) else begun_turn c s k way (is_some core) place (ahead_at c gates mutexes k w place call)) ≡ Some turn → May turn
    by true h = held_may s (is_done core) (ahead_at c gates mutexes k w place call) (ahead_may w place may call) turn h
    by false h = begun_turn_may s way (is_some core) place may (ahead_at c gates mutexes k w place call) (ahead_may w place may call) turn h

  -- ---- wrong steps

  offered_stands : (mutex : MutexId) (next : ℕ) (more : Bool) (place : Place) → StoodMay (AtMutex mutex (Offer next more)) place → StoodMay (AtMutex mutex (Offer next false)) place
  offered_stands mutex next more Begins may = tt
  offered_stands mutex next more (Found stax old) may = let e = may.0 in cc
  offered_stands mutex next more (LeftStax stax) may = tt
  offered_stands mutex next more (Claimed other) may = let e = may.0 in cc

  offered_then : (mutex : MutexId) (next : ℕ) (more : Bool) (stand : Then) → ThenMay (Some (AtMutex mutex (Offer next more))) stand → ThenMay (Some (AtMutex mutex (Offer next false))) stand
  offered_then mutex next more (Answers answer) may = tt
  offered_then mutex next more (Stands place) may = offered_stands mutex next more place may

  unmarked_stands : (mutex : MutexId) (place : Place) → StoodMay (AtMutex mutex Mark) place → PlaceMay place
  unmarked_stands mutex Begins may = tt
  unmarked_stands mutex (Found stax old) may = let e = may.0 in cc
  unmarked_stands mutex (LeftStax stax) may = tt
  unmarked_stands mutex (Claimed other) may = let e = may.0 in cc

  unmarked_then : (mutex : MutexId) (stand : Then) → ThenMay (Some (AtMutex mutex Mark)) stand → ThenMay None stand
  unmarked_then mutex (Answers answer) may = tt
  unmarked_then mutex (Stands place) may = unmarked_stands mutex place may

  step_wrong_may : (what : WhatIf) (step : WordStep) (stand : Then) → StepMay (Some step) → ThenMay (Some step) stand → StepMay (stepped_wrong what step) × ThenMay (stepped_wrong what step) stand
  step_wrong_may OfferDropsMark (AtGate stax step) stand may next = (may, next)
  step_wrong_may OfferDropsMark (AtMutex mutex Try) stand may next = (may, next)
  step_wrong_may OfferDropsMark (AtMutex mutex Unlock) stand may next = (may, next)
  step_wrong_may OfferDropsMark (AtMutex mutex Win) stand may next = (may, next)
  step_wrong_may OfferDropsMark (AtMutex mutex Mark) stand may next = (may, next)
  step_wrong_may OfferDropsMark (AtMutex mutex (Offer to more)) stand may next = (may, offered_then mutex to more stand next)
  step_wrong_may OfferDropsMark (AtMutex mutex Free) stand may next = (may, next)
  step_wrong_may OfferDropsMark (AtMutex mutex Accept) stand may next = (may, next)
  step_wrong_may OfferDropsMark (AtMutex mutex Forget) stand may next = (may, next)
  step_wrong_may ClaimSetsNoMark (AtGate stax step) stand may next = (may, next)
  step_wrong_may ClaimSetsNoMark (AtMutex mutex Try) stand may next = (may, next)
  step_wrong_may ClaimSetsNoMark (AtMutex mutex Unlock) stand may next = (may, next)
  step_wrong_may ClaimSetsNoMark (AtMutex mutex Win) stand may next = (may, next)
  step_wrong_may ClaimSetsNoMark (AtMutex mutex Mark) stand may next = (tt, unmarked_then mutex stand next)
  step_wrong_may ClaimSetsNoMark (AtMutex mutex (Offer to more)) stand may next = (may, next)
  step_wrong_may ClaimSetsNoMark (AtMutex mutex Free) stand may next = (may, next)
  step_wrong_may ClaimSetsNoMark (AtMutex mutex Accept) stand may next = (may, next)
  step_wrong_may ClaimSetsNoMark (AtMutex mutex Forget) stand may next = (may, next)
  step_wrong_may UnlockSkipsKernel step stand may next = (may, next)
  step_wrong_may LeaveKeepsMark step stand may next = (may, next)

  some_then_may : (what : WhatIf) (step : Option WordStep) (stand : Then) → ThenMay step stand → ThenMay step (then_wrong what stand)
  some_then_may OfferDropsMark step stand may = may
  some_then_may ClaimSetsNoMark step stand may = may
  some_then_may UnlockSkipsKernel step (Answers answer) may = may
  some_then_may UnlockSkipsKernel step (Stands Begins) may = may
  some_then_may UnlockSkipsKernel step (Stands (Found stax old)) may = may
  some_then_may UnlockSkipsKernel step (Stands (LeftStax stax)) may = may
  some_then_may UnlockSkipsKernel step (Stands (Claimed mutex)) may = tt
  some_then_may LeaveKeepsMark step (Answers answer) may = may
  some_then_may LeaveKeepsMark step (Stands Begins) may = may
  some_then_may LeaveKeepsMark step (Stands (Found stax old)) may = may
  some_then_may LeaveKeepsMark step (Stands (LeftStax stax)) may = tt
  some_then_may LeaveKeepsMark step (Stands (Claimed mutex)) may = may

  made_may : (what : Option WhatIf) (turn : Turn) → May turn → May (made_so what turn)
  made_may None turn may = may
  made_may (Some what) turn may = by turn.step may.0 may.1 where
    by : (step : Option WordStep) → StepMay step → ThenMay step turn.then → StepMay (step_made (Some what) step) × ThenMay (step_made (Some what) step) (then_wrong what turn.then)
    by None steps next = (tt, some_then_may what None turn.then next)
    by (Some step) steps next =
        let both = step_wrong_may what step turn.then steps next in
        (both.0, some_then_may what (stepped_wrong what step) turn.then both.1)

  -- a turn that callers make
  pub turn_may : (s : State) (way : CoreUse) (core : Option Taken) (w : Option Waiting) (place : Place) → PlaceMay place → (call : Option WordCall) (turn : Turn)
      → option_map (made_so c.what_if) (turn_of c s k way core place (ahead_at c gates mutexes k w place call)) ≡ Some turn → May turn
  turn_may s way core w place may call turn e = by (turn_of c s k way core place (ahead_at c gates mutexes k w place call)) refl e where
    by : (o : Option Turn) → turn_of c s k way core place (ahead_at c gates mutexes k w place call) ≡ o → option_map (made_so c.what_if) o ≡ Some turn → May turn
    by None at h = cc
    by (Some t) at h = subst May (same_Some (made_so c.what_if t) turn h) (made_may c.what_if t (right_may s way core w place may call t at))
