-- The turns ahead of callers, whether their visits are whole or not.
use Rattle.std.proofs.Common.{◌≡◌, ℕ, zero, suc, ◌+◌, ◌<◌, ◌≤◌, ◌==◌, ◌||◌, Bool, true, false, List, [], ◌∷◌, length, map, Ok, Err, refl, sym, subst, ap, ◌∙◌, arith}
use Rattle.std.specs.Prelude.{Option, Some, None, Result, is_some, nat_lt, option_and_then, option_map, slice_get, slice_index, slice_index_or, if◌then◌else◌}
use Rattle.std.specs.Bool.{beq}
use Rattle.std.specs.Option.{option_map_or}
use Rattle.std.proofs.lemmas.Option.{same_Some, slice_get_within}
use Rattle.evl_base.specs.declared.board.Board.{Board}
use Rattle.evl_base.specs.declared.numbers.MutexId.{MutexId}
use Rattle.evl_base.specs.declared.numbers.StaxId.{StaxId}
use Rattle.evl_base.specs.declared.numbers.ThreadId.{ThreadId}
use Rattle.evl_base.specs.declared.refusal.Refusal.{Refusal}
use Rattle.evl_base.specs.declared.refusal.Refusal.TheVariants.{Again, Busy, Invalid, NotOwner, Unknown}
use Rattle.evl_base.specs.declared.reply.Reply.{Reply}
use Rattle.evl_base.specs.declared.reply.Reply.TheVariants as reply
use Rattle.evl_base.specs.declared.stage.Stage.{Stage}
use Rattle.evl_base.specs.declared.stage.Stage.TheVariants.{Inband}
use Rattle.evl_kernel.specs.state.States.{State}
use Rattle.evl_kernel.specs.waiting.Waits.{has_timed_out}
use Rattle.evl_words.specs.GateWord.{word_refusal, left_in}
use Rattle.evl_words.specs.MutexBits.{offers_to}
use Rattle.evl_words.specs.declared.gate.Left.{Left}
use Rattle.evl_words.specs.declared.gate.Left.TheVariants as left
use Rattle.lab_step_orders.specs.Cores.{is_early, begun_turn}
use Rattle.lab_step_orders.specs.Programs.{limit_of, stage_of, next_call, goes, ends, refuses, look_turn, try_stax, exchange_turn, leave_turn, unlock_stax, lock_refusal, spend_refusal, refused_missing, try_mutex, unlock_turn, unlock_fast, unlock_mutex, begin_mutex, end_mutex, finish_mutex, finish_wait, holds_some, first_ahead, ahead_at}
use Rattle.lab_step_orders.specs.Seen.{Seen, after, changed_at, gates_after, next_ahead}
use Rattle.lab_step_orders.specs.Visits.{visits, answered, handed, handed_to, claimed, claim, owner_in, queued, begun, ended, told, goes_on, state_after, visit_turn}
use Rattle.lab_step_orders.specs.Told.{has_calls, has_left}
use Rattle.lab_step_orders.specs.WholeVisits.{calls_of}
use Rattle.lab_step_orders.specs.Words.{Shared, holds, gate_after}
use Rattle.lab_step_orders.specs.declared.calls.Answer.{Answer}
use Rattle.lab_step_orders.specs.declared.calls.Answer.TheVariants.{Passed, Done, Refused}
use Rattle.lab_step_orders.specs.declared.calls.WordCall.{WordCall}
use Rattle.lab_step_orders.specs.declared.calls.WordCall.TheVariants as call
use Rattle.lab_step_orders.specs.declared.calls.WordCall.TheVariants.{TryLockStax, UnlockStax, ClaimStax, TryLockMutex, UnlockMutexFast, TryUnlockMutex, BeginLockMutex, FinishLockMutex, Kernel}
use Rattle.lab_step_orders.specs.declared.crews.Crew.{Crew}
use Rattle.lab_step_orders.specs.declared.crews.CrewCaller.{CrewCaller}
use Rattle.lab_step_orders.specs.declared.steps.Ahead.{Ahead}
use Rattle.lab_step_orders.specs.declared.steps.Ahead.TheVariants.{Turns, Visits}
use Rattle.lab_step_orders.specs.declared.steps.Asked.{Asked}
use Rattle.lab_step_orders.specs.declared.steps.Asked.TheVariants as asked
use Rattle.lab_step_orders.specs.declared.steps.CoreChange.TheVariants as core
use Rattle.lab_step_orders.specs.declared.steps.CoreUse.TheVariants.{Whole}
use Rattle.lab_step_orders.specs.declared.steps.GateStep.TheVariants.{Look, Claim}
use Rattle.lab_step_orders.specs.declared.steps.MutexStep.TheVariants.{Try, Unlock, Win, Offer, Accept}
use Rattle.lab_step_orders.specs.declared.steps.Place.{Place}
use Rattle.lab_step_orders.specs.declared.steps.Place.TheVariants.{Begins, Found, Left as LeftStax, Claimed}
use Rattle.lab_step_orders.specs.declared.steps.Then.TheVariants.{Answers}
use Rattle.lab_step_orders.specs.declared.steps.Turn.{Turn}
use Rattle.lab_step_orders.specs.declared.steps.Visit.{Visit}
use Rattle.lab_step_orders.specs.declared.steps.Visit.TheVariants.{Release, Claim as ClaimIt, Finish, Step as StepAt}
use Rattle.lab_step_orders.specs.declared.steps.WaitChange.TheVariants.{Same, Ends}
use Rattle.lab_step_orders.specs.declared.steps.Waiting.{Waiting}
use Rattle.lab_step_orders.specs.declared.steps.Waiting.TheVariants as wait
use Rattle.lab_step_orders.specs.declared.steps.WordStep.{WordStep}
use Rattle.lab_step_orders.specs.declared.steps.WordStep.TheVariants.{AtGate, AtMutex}

-- ---- what callers with whole visits have of others

-- others, for whom the same is set up
abbrev pub alike : Crew → Crew → Crew
alike c w = record w { setup = c.setup; steps = c.steps; what_if = c.what_if }

seen_at : {B : Type 0} (g : Stage × List WordCall → B) (d : B) (xs : List CrewCaller) (k : ℕ) → option_map_or (λ (x : CrewCaller). g (calls_of x)) (slice_get xs k) d ≡ option_map_or g (slice_get (map calls_of xs) k) d
seen_at g d [] k = refl
seen_at g d (x ∷ xs) zero = refl
seen_at g d (x ∷ xs) (suc k) = seen_at g d xs k

asked_at : (made : ℕ) (xs : List CrewCaller) (k : ℕ) → option_and_then (λ (x : CrewCaller). slice_get x.calls.items made) (slice_get xs k) ≡ option_and_then (λ (p : Stage × List WordCall). slice_get p.1 made) (slice_get (map calls_of xs) k)
asked_at made [] k = refl
asked_at made (x ∷ xs) zero = refl
asked_at made (x ∷ xs) (suc k) = asked_at made xs k

mapped : {A B : Type 0} (f : A → B) (xs : List A) → length (map f xs) ≡ length xs
mapped f [] = refl
mapped f (x ∷ xs) = ap suc (mapped f xs)

module _ (c w : Crew) (board : w.board ≡ c.board) (same : map calls_of w.callers.items ≡ map calls_of c.callers.items) where
  limit_is : (i : ℕ) → limit_of w i ≡ limit_of c i
  limit_is i = ap (λ (b : Board). slice_index b.staxes.items i) board

  at_same : {B : Type 0} (g : Stage × List WordCall → B) (d : B) (k : ℕ) → option_map_or (λ (x : CrewCaller). g (calls_of x)) (slice_get w.callers.items k) d ≡ option_map_or (λ (x : CrewCaller). g (calls_of x)) (slice_get c.callers.items k) d
  at_same g d k =
      seen_at g d w.callers.items k
      ∙ (ap (λ (l : List (Stage × List WordCall)). option_map_or g (slice_get l k) d) same ∙ sym (seen_at g d c.callers.items k))

  pub count_is : length w.callers.items ≡ length c.callers.items
  count_is = sym (mapped calls_of w.callers.items) ∙ (ap (λ (l : List (Stage × List WordCall)). length l) same ∙ mapped calls_of c.callers.items)

  pub calls_is : (k : ℕ) → has_calls w k ≡ has_calls c k
  calls_is k = at_same (λ p. nat_lt 0 (length p.1)) false k

  pub left_is : (k made : ℕ) → has_left w k made ≡ has_left c k made
  left_is k made = at_same (λ p. nat_lt made (length p.1)) false k

  stage_is : (k : ℕ) → stage_of w k ≡ stage_of c k
  stage_is k = at_same (λ p. p.0) Inband k

  call_is : (k made : ℕ) → next_call w k made ≡ next_call c k made
  call_is k made =
      asked_at made w.callers.items k
      ∙ (ap (λ (l : List (Stage × List WordCall)). option_and_then (λ (p : Stage × List WordCall). slice_get p.1 made) (slice_get l k)) same ∙ sym (asked_at made c.callers.items k))

  first_is : (gates mutexes : List Shared) (k : ℕ) (wt : Option Waiting) (one : WordCall) → first_ahead (alike c w) gates mutexes k wt one ≡ first_ahead c gates mutexes k wt one
  first_is gates mutexes k wt (TryLockStax stax) =
      ap (λ (n : ℕ). Turns (option_map_or (try_stax n (stage_of w k) stax k) (slice_get gates stax.0) (refuses Unknown))) (limit_is stax.0)
      ∙ ap (λ (st : Stage). Turns (option_map_or (try_stax (limit_of c stax.0) st stax k) (slice_get gates stax.0) (refuses Unknown))) (stage_is k)
  first_is gates mutexes k wt (UnlockStax stax) = refl
  first_is gates mutexes k wt (ClaimStax stax) = refl
  first_is gates mutexes k wt (TryLockMutex mutex) = ap (λ (st : Stage). Turns (option_map_or (try_mutex st mutex k wt) (slice_get mutexes mutex.0) (refused_missing wt Unknown))) (stage_is k)
  first_is gates mutexes k wt (UnlockMutexFast mutex) = refl
  first_is gates mutexes k wt (TryUnlockMutex mutex) = refl
  first_is gates mutexes k wt (BeginLockMutex mutex until) = ap (λ (st : Stage). option_map_or (begin_mutex st mutex until k wt) (slice_get mutexes mutex.0) (Turns (refused_missing wt Unknown))) (stage_is k)
  first_is gates mutexes k wt FinishLockMutex = refl
  first_is gates mutexes k wt (Kernel place) = refl
  first_is gates mutexes k wt (call.Finish keep) = refl

  ahead_at_is : (gates mutexes : List Shared) (k : ℕ) (wt : Option Waiting) (place : Place) (one : Option WordCall) → ahead_at (alike c w) gates mutexes k wt place one ≡ ahead_at c gates mutexes k wt place one
  ahead_at_is gates mutexes k wt Begins None = refl
  ahead_at_is gates mutexes k wt Begins (Some one) = ap (λ (a : Ahead). Some a) (first_is gates mutexes k wt one)
  ahead_at_is gates mutexes k wt (Found stax old) one =
      ap (λ (n : ℕ). option_map (λ (g : Shared). Turns (exchange_turn n (stage_of w k) stax old g)) (slice_get gates stax.0)) (limit_is stax.0)
      ∙ ap (λ (st : Stage). option_map (λ (g : Shared). Turns (exchange_turn (limit_of c stax.0) st stax old g)) (slice_get gates stax.0)) (stage_is k)
  ahead_at_is gates mutexes k wt (LeftStax stax) one = refl
  ahead_at_is gates mutexes k wt (Claimed mutex) one = refl

  pub ahead_is : (s : Seen) (k : ℕ) → next_ahead (alike c w) s k ≡ next_ahead c s k
  ahead_is s k =
      let wt = slice_index_or s.waits k None in
      let place = slice_index_or s.places k Begins in
      let made = slice_index s.made k in
      ap (λ (one : Option WordCall). ahead_at (alike c w) s.gates s.mutexes k wt place one) (call_is k made) ∙ ahead_at_is s.gates s.mutexes k wt place (next_call c k made)

  handed_to_is : (mutex : MutexId) (next : Option ThreadId) (more : Bool) → handed_to (alike c w) mutex next more ≡ handed_to c mutex next more
  handed_to_is mutex None more = refl
  handed_to_is mutex (Some next) more = ap (λ (n : ℕ). if nat_lt next.0 n then visits mutex (Offer next.0 more) (Some (Release mutex)) Same Done else refuses Invalid) count_is

  handed_is : (mutex : MutexId) (r : Result Reply Refusal) → handed (alike c w) mutex r ≡ handed c mutex r
  handed_is mutex (Err refusal) = refl
  handed_is mutex (Ok (reply.Handed next more)) = handed_to_is mutex next more
  handed_is mutex (Ok reply.Done) = refl
  handed_is mutex (Ok reply.Begun) = refl
  handed_is mutex (Ok reply.TimedOut) = refl
  handed_is mutex (Ok (reply.Count count)) = refl
  handed_is mutex (Ok (reply.Bits bits)) = refl
  handed_is mutex (Ok (reply.Number number)) = refl
  handed_is mutex (Ok (reply.Chosen thread)) = refl
  handed_is mutex (Ok (reply.Bytes bytes)) = refl

  visit_is : (s : State) (k : ℕ) (visit : Asked) → visit_turn (alike c w) s k visit ≡ visit_turn c s k visit
  visit_is s k (asked.Hand mutex) = ap (λ (t : Turn). Some t) (handed_is mutex (answered c s k (Release mutex)))
  visit_is s k (asked.Begin mutex until word) = refl
  visit_is s k (asked.End mutex word) = refl
  visit_is s k (asked.Step place) = refl
  visit_is s k asked.Finish = refl

  pub begun_is : (s : State) (k : ℕ) (place : Place) (o : Option Ahead) → begun_turn (alike c w) s k Whole false place o ≡ begun_turn c s k Whole false place o
  begun_is s k place None = refl
  begun_is s k place (Some (Turns turn)) = refl
  begun_is s k place (Some (Visits visit)) = visit_is s k visit

  gates_are : (k : ℕ) (step : Option WordStep) (gates : List Shared) → gates_after (alike c w) k step gates ≡ gates_after c k step gates
  gates_are k None gates = refl
  gates_are k (Some (AtGate stax step)) gates =
      ap (λ (n : ℕ). changed_at (gate_after n (stage_of w k) k step) stax.0 gates) (limit_is stax.0)
      ∙ ap (λ (st : Stage). changed_at (gate_after (limit_of c stax.0) st k step) stax.0 gates) (stage_is k)
  gates_are k (Some (AtMutex mutex step)) gates = refl

  state_is : (s : State) (k : ℕ) (visit : Option Visit) → state_after (alike c w) s k visit ≡ state_after c s k visit
  state_is s k None = refl
  state_is s k (Some (Release mutex)) = refl
  state_is s k (Some (ClaimIt mutex owner until)) = refl
  state_is s k (Some Finish) = refl
  state_is s k (Some (StepAt place)) = refl

  pub after_is : (s : Seen) (k : ℕ) (turn : Turn) → after (alike c w) s k turn ≡ after c s k turn
  after_is s k turn =
      ap (λ (state : State). record (after (alike c w) s k turn) { state = state }) (state_is s.state k turn.visit)
      ∙ ap (λ (gates : List Shared). record (after c s k turn) { gates = gates }) (gates_are k turn.step s.gates)

-- ---- turns of visits answer

abbrev pub IsAnswered : Turn → Type 0
IsAnswered turn = (answer : Answer) × (turn.then ≡ Answers answer)

abbrev pub IsVisit : Turn → Type 0
IsVisit turn = (turn.core ≡ core.Same) × IsAnswered turn

module _ (c : Crew) (k : ℕ) where
  refused : (refusal : Refusal) → IsVisit (refuses refusal)
  refused refusal = (refl, (Refused refusal, refl))

  handed_to_ends : (mutex : MutexId) (next : Option ThreadId) (more : Bool) → IsVisit (handed_to c mutex next more)
  handed_to_ends mutex None more = (refl, (Done, refl))
  handed_to_ends mutex (Some next) more = by (nat_lt next.0 (length c.callers.items)) where
    by : (b : Bool) → IsVisit (if b then visits mutex (Offer next.0 more) (Some (Release mutex)) Same Done else refuses Invalid)
    by true = (refl, (Done, refl))
    by false = refused Invalid

  handed_ends : (mutex : MutexId) (r : Result Reply Refusal) → IsVisit (handed c mutex r)
  handed_ends mutex (Err refusal) = refused refusal
  handed_ends mutex (Ok (reply.Handed next more)) = handed_to_ends mutex next more
  handed_ends mutex (Ok reply.Done) = refused Invalid
  handed_ends mutex (Ok reply.Begun) = refused Invalid
  handed_ends mutex (Ok reply.TimedOut) = refused Invalid
  handed_ends mutex (Ok (reply.Count count)) = refused Invalid
  handed_ends mutex (Ok (reply.Bits bits)) = refused Invalid
  handed_ends mutex (Ok (reply.Number number)) = refused Invalid
  handed_ends mutex (Ok (reply.Chosen thread)) = refused Invalid
  handed_ends mutex (Ok (reply.Bytes bytes)) = refused Invalid

  claimed_ends : (mutex : MutexId) (visit : Visit) (r : Result Reply Refusal) → IsVisit (claimed mutex visit r)
  claimed_ends mutex visit (Ok r) = (refl, (_, refl))
  claimed_ends mutex visit (Err refusal) = (refl, (_, refl))

  begun_ends : (s : State) (mutex : MutexId) (until : Option ℕ) (word : ℕ) → IsVisit (begun c s k mutex until word)
  begun_ends s mutex until word = by (word == 0) where
    owned : (o : Option ThreadId) → IsVisit (queued c s k mutex until o)
    owned None = refused Again
    owned (Some owner) = claimed_ends mutex (claim mutex owner until) (answered c s k (claim mutex owner until))

    by : (b : Bool) → IsVisit (if b then visits mutex Win None Same Passed else queued c s k mutex until (owner_in word))
    by true = (refl, (Passed, refl))
    by false = owned (owner_in word)

  ended_ends : (mutex : MutexId) (word : ℕ) (out : Bool) → IsVisit (ended mutex word k out)
  ended_ends mutex word true = (refl, (_, refl))
  ended_ends mutex word false = by (offers_to word k) where
    by : (b : Bool) → IsVisit (if b then visits mutex Accept (Some Finish) Ends Passed else refuses Again)
    by true = (refl, (Passed, refl))
    by false = refused Again

  told_ends : (visit : Visit) (r : Result Reply Refusal) → IsVisit (told visit r)
  told_ends visit (Ok r) = (refl, (_, refl))
  told_ends visit (Err refusal) = refused refusal

  pub visit_ends : (s : State) (visit : Asked) (turn : Turn) → visit_turn c s k visit ≡ Some turn → IsVisit turn
  visit_ends s (asked.Hand mutex) turn e = subst (λ (t : Turn). IsVisit t) (same_Some _ turn e) (handed_ends mutex (answered c s k (Release mutex)))
  visit_ends s (asked.Begin mutex until word) turn e = subst (λ (t : Turn). IsVisit t) (same_Some _ turn e) (begun_ends s mutex until word)
  visit_ends s (asked.End mutex word) turn e = by (goes_on s k) e where
    by : (b : Bool) → (if b then None else Some (ended mutex word k (has_timed_out s k))) ≡ Some turn → IsVisit turn
    by true h = cc
    by false h = subst (λ (t : Turn). IsVisit t) (same_Some _ turn h) (ended_ends mutex word (has_timed_out s k))
  visit_ends s (asked.Step place) turn e = subst (λ (t : Turn). IsVisit t) (same_Some _ turn e) (told_ends (StepAt place) (answered c s k (StepAt place)))
  visit_ends s asked.Finish turn e = by (goes_on s k) e where
    by : (b : Bool) → (if b then None else Some (told Finish (answered c s k Finish))) ≡ Some turn → IsVisit turn
    by true h = cc
    by false h = subst (λ (t : Turn). IsVisit t) (same_Some _ turn h) (told_ends Finish (answered c s k Finish))

  -- there is none just while the wait goes on that it ends
  pub early_none : (s : State) (visit : Asked) → is_early s k visit ≡ true → visit_turn c s k visit ≡ None
  early_none s (asked.Hand mutex) e = cc
  early_none s (asked.Begin mutex until word) e = cc
  early_none s (asked.End mutex word) e = ap (λ (b : Bool). if b then None else Some (ended mutex word k (has_timed_out s k))) e
  early_none s (asked.Step place) e = cc
  early_none s asked.Finish e = ap (λ (b : Bool). if b then None else Some (told Finish (answered c s k Finish))) e

  pub timely_some : (s : State) (visit : Asked) → is_early s k visit ≡ false → (turn : Turn) × (visit_turn c s k visit ≡ Some turn)
  timely_some s (asked.Hand mutex) e = (_, refl)
  timely_some s (asked.Begin mutex until word) e = (_, refl)
  timely_some s (asked.End mutex word) e = (_, ap (λ (b : Bool). if b then None else Some (ended mutex word k (has_timed_out s k))) e)
  timely_some s (asked.Step place) e = (_, refl)
  timely_some s asked.Finish e = (_, ap (λ (b : Bool). if b then None else Some (told Finish (answered c s k Finish))) e)

-- ---- turns without a visit leave the core and the kernel

abbrev pub IsLocal : Turn → Type 0
IsLocal turn = (turn.core ≡ core.Same) × (turn.visit ≡ None)

abbrev pub AheadLocal : Ahead → Type 0
AheadLocal (Turns turn) = IsLocal turn
AheadLocal (Visits visit) = Unit {0}

-- a caller that waits for the core, or has it for a visit, comes to one
abbrev pub Ready : State → ℕ → Place → Option WordCall → Type 0
Ready s k Begins None = false ≡ true
Ready s k Begins (Some (TryLockStax stax)) = false ≡ true
Ready s k Begins (Some (UnlockStax stax)) = false ≡ true
Ready s k Begins (Some (ClaimStax stax)) = false ≡ true
Ready s k Begins (Some (TryLockMutex mutex)) = false ≡ true
Ready s k Begins (Some (UnlockMutexFast mutex)) = false ≡ true
Ready s k Begins (Some (TryUnlockMutex mutex)) = false ≡ true
Ready s k Begins (Some (BeginLockMutex mutex until)) = Unit {0}
Ready s k Begins (Some FinishLockMutex) = goes_on s k ≡ false
Ready s k Begins (Some (Kernel place)) = Unit {0}
Ready s k Begins (Some (call.Finish keep)) = goes_on s k ≡ false
Ready s k (Found stax old) one = false ≡ true
Ready s k (LeftStax stax) one = false ≡ true
Ready s k (Claimed mutex) one = Unit {0}

abbrev pub AheadReady : State → ℕ → Place → Option WordCall → Ahead → Type 0
AheadReady s k place one (Turns turn) = Unit {0}
AheadReady s k place one (Visits visit) = is_early s k visit ≡ false → Ready s k place one

-- and then, whatever the words are, its turn answers or is a visit
abbrev pub AheadSettles : State → ℕ → Ahead → Type 0
AheadSettles s k (Turns turn) = IsAnswered turn
AheadSettles s k (Visits visit) = is_early s k visit ≡ false

module _ (c : Crew) (gates mutexes : List Shared) (k : ℕ) where
  look_local : (limit : ℕ) (stage : Stage) (stax : StaxId) (word : ℕ) → IsLocal (look_turn limit stage stax word)
  look_local limit stage stax word = by (word_refusal limit word stage) where
    by : (o : Option Refusal) → IsLocal (option_map_or (λ refusal. ends (AtGate stax Look) (Refused refusal)) o (goes (AtGate stax Look) (Found stax word)))
    by None = (refl, refl)
    by (Some refusal) = (refl, refl)

  try_local : (stax : StaxId) (o : Option Shared) → IsLocal (option_map_or (try_stax (limit_of c stax.0) (stage_of c k) stax k) o (refuses Unknown))
  try_local stax None = (refl, refl)
  try_local stax (Some g) = by (holds g k) where
    by : (b : Bool) → IsLocal (if b then refuses Busy else look_turn (limit_of c stax.0) (stage_of c k) stax g.word)
    by true = (refl, refl)
    by false = look_local (limit_of c stax.0) (stage_of c k) stax g.word

  leave_local : (stax : StaxId) (l : Left) → IsLocal (leave_turn stax l)
  leave_local stax (left.Last true) = (refl, refl)
  leave_local stax (left.Last false) = (refl, refl)
  leave_local stax left.Others = (refl, refl)

  unlock_local : (stax : StaxId) (o : Option Shared) → IsLocal (option_map_or (unlock_stax stax k) o (refuses NotOwner))
  unlock_local stax None = (refl, refl)
  unlock_local stax (Some g) = by (holds g k) where
    by : (b : Bool) → IsLocal (if b then leave_turn stax (left_in g.word) else refuses NotOwner)
    by true = leave_local stax (left_in g.word)
    by false = (refl, refl)

  claim_local : (stax : StaxId) (o : Option Shared) → IsLocal (option_map_or (λ (g : Shared). ends (AtGate stax Claim) Done) o (refuses Unknown))
  claim_local stax None = (refl, refl)
  claim_local stax (Some g) = (refl, refl)

  -- a refusal, or this
  or_local : (turn : Turn) → IsLocal turn → (o : Option Refusal) → IsLocal (option_map_or refuses o turn)
  or_local turn is None = is
  or_local turn is (Some refusal) = (refl, refl)

  try_mutex_local : (mutex : MutexId) (w : Option Waiting) (o : Option Shared) → IsLocal (option_map_or (try_mutex (stage_of c k) mutex k w) o (refused_missing w Unknown))
  try_mutex_local mutex w None = (refl, refl)
  try_mutex_local mutex w (Some m) = or_local (ends (AtMutex mutex Try) (if m.word == 0 then Passed else Refused Busy)) (refl, refl) (lock_refusal (stage_of c k) w k m)

  unlocked_local : (mutex : MutexId) (m : Shared) (turn : Turn) → IsLocal turn → IsLocal (unlock_turn mutex k m turn)
  unlocked_local mutex m turn is = by (m.word == k + 1) where
    by : (b : Bool) → IsLocal (if b then ends (AtMutex mutex Unlock) Done else turn)
    by true = (refl, refl)
    by false = is

  fast_local : (mutex : MutexId) (w : Option Waiting) (o : Option Shared) → IsLocal (option_map_or (unlock_fast mutex k w) o (refused_missing w NotOwner))
  fast_local mutex w None = (refl, refl)
  fast_local mutex w (Some m) =
      let turn = ends (AtMutex mutex Unlock) (Refused Busy) in or_local (unlock_turn mutex k m turn) (unlocked_local mutex m turn (refl, refl)) (spend_refusal w k m)

  unlock_mutex_local : (mutex : MutexId) (w : Option Waiting) (o : Option Shared) → IsLocal (option_map_or (unlock_mutex mutex k w) o (refused_missing w NotOwner))
  unlock_mutex_local mutex w None = (refl, refl)
  unlock_mutex_local mutex w (Some m) =
      let turn = goes (AtMutex mutex Unlock) (Claimed mutex) in or_local (unlock_turn mutex k m turn) (unlocked_local mutex m turn (refl, refl)) (spend_refusal w k m)

  -- what is ahead of one that begins a call of each kind
  module _ (P : Ahead → Type 0) (refuse : (refusal : Refusal) → P (Turns (refuses refusal))) where
    begin_so : (w : Option Waiting) (mutex : MutexId) (until : Option ℕ) → ((word : ℕ) → P (Visits (asked.Begin mutex until word))) → (o : Option Shared) → P (option_map_or (begin_mutex (stage_of c k) mutex until k w) o (Turns (refused_missing w Unknown)))
    begin_so w mutex until all None = refuse (if is_some w then Busy else Unknown)
    begin_so w mutex until all (Some m) = by (lock_refusal (stage_of c k) w k m) where
      by : (o : Option Refusal) → P (option_map_or (λ refusal. Turns (refuses refusal)) o (Visits (asked.Begin mutex until m.word)))
      by None = all m.word
      by (Some refusal) = refuse refusal

    finish_so : ((mutex : MutexId) (word : ℕ) → P (Visits (asked.End mutex word))) → (w : Option Waiting) → P (finish_mutex mutexes w)
    finish_so all None = refuse Invalid
    finish_so all (Some wait.Element) = refuse Invalid
    finish_so all (Some (wait.Mutex mutex)) = by (slice_get mutexes mutex.0) where
      by : (o : Option Shared) → P (end_mutex mutex o)
      by None = refuse Invalid
      by (Some m) = all mutex m.word

    finish_said : P (Visits asked.Finish) → (b : Bool) → P (if b then Visits asked.Finish else Turns (refuses Invalid))
    finish_said all true = all
    finish_said all false = refuse Invalid

    wait_so : P (Visits asked.Finish) → (w : Option Waiting) (keep held : Bool) → P (finish_wait w keep held)
    wait_so all None keep held = finish_said all (beq keep held)
    wait_so all (Some wait.Element) keep held = finish_said all (beq keep held)
    wait_so all (Some (wait.Mutex mutex)) keep held = refuse Invalid

  first_local : (w : Option Waiting) (one : WordCall) → AheadLocal (first_ahead c gates mutexes k w one)
  first_local w (TryLockStax stax) = try_local stax (slice_get gates stax.0)
  first_local w (UnlockStax stax) = unlock_local stax (slice_get gates stax.0)
  first_local w (ClaimStax stax) = claim_local stax (slice_get gates stax.0)
  first_local w (TryLockMutex mutex) = try_mutex_local mutex w (slice_get mutexes mutex.0)
  first_local w (UnlockMutexFast mutex) = fast_local mutex w (slice_get mutexes mutex.0)
  first_local w (TryUnlockMutex mutex) = unlock_mutex_local mutex w (slice_get mutexes mutex.0)
  first_local w (BeginLockMutex mutex until) = begin_so AheadLocal (λ r. (refl, refl)) w mutex until (λ word. tt) (slice_get mutexes mutex.0)
  first_local w FinishLockMutex = finish_so AheadLocal (λ r. (refl, refl)) (λ mutex word. tt) w
  first_local w (Kernel place) = tt
  first_local w (call.Finish keep) = wait_so AheadLocal (λ r. (refl, refl)) tt w keep (holds_some gates k || holds_some mutexes k)

  pub ahead_local : (w : Option Waiting) (place : Place) (one : Option WordCall) (a : Ahead) → ahead_at c gates mutexes k w place one ≡ Some a → AheadLocal a
  ahead_local w Begins None a e = cc
  ahead_local w Begins (Some one) a e = subst AheadLocal (same_Some _ a e) (first_local w one)
  ahead_local w (Found stax old) one a e = by (slice_get gates stax.0) e where
    by : (o : Option Shared) → option_map (λ (g : Shared). Turns (exchange_turn (limit_of c stax.0) (stage_of c k) stax old g)) o ≡ Some a → AheadLocal a
    by None h = cc
    by (Some g) h = subst AheadLocal (same_Some _ a h) (refl, refl)
  ahead_local w (LeftStax stax) one a e = subst AheadLocal (same_Some _ a e) (refl, refl)
  ahead_local w (Claimed mutex) one a e = subst AheadLocal (same_Some _ a e) tt

  first_ready : (s : State) (w : Option Waiting) (one : WordCall) → AheadReady s k Begins (Some one) (first_ahead c gates mutexes k w one)
  first_ready s w (TryLockStax stax) = tt
  first_ready s w (UnlockStax stax) = tt
  first_ready s w (ClaimStax stax) = tt
  first_ready s w (TryLockMutex mutex) = tt
  first_ready s w (UnlockMutexFast mutex) = tt
  first_ready s w (TryUnlockMutex mutex) = tt
  first_ready s w (BeginLockMutex mutex until) = begin_so (AheadReady s k Begins (Some (BeginLockMutex mutex until))) (λ r. tt) w mutex until (λ word e. tt) (slice_get mutexes mutex.0)
  first_ready s w FinishLockMutex = finish_so (AheadReady s k Begins (Some FinishLockMutex)) (λ r. tt) (λ mutex word e. e) w
  first_ready s w (Kernel place) = λ e. tt
  first_ready s w (call.Finish keep) = wait_so (AheadReady s k Begins (Some (call.Finish keep))) (λ r. tt) (λ e. e) w keep (holds_some gates k || holds_some mutexes k)

  pub ahead_ready : (s : State) (w : Option Waiting) (place : Place) (one : Option WordCall) (visit : Asked) → ahead_at c gates mutexes k w place one ≡ Some (Visits visit) → is_early s k visit ≡ false → Ready s k place one
  ahead_ready s w Begins None visit e = cc
  ahead_ready s w Begins (Some one) visit e = subst (AheadReady s k Begins (Some one)) (same_Some _ (Visits visit) e) (first_ready s w one)
  ahead_ready s w (Found stax old) one visit e = by (slice_get gates stax.0) e where
    by : (o : Option Shared) → option_map (λ (g : Shared). Turns (exchange_turn (limit_of c stax.0) (stage_of c k) stax old g)) o ≡ Some (Visits visit) → is_early s k visit ≡ false → Ready s k (Found stax old) one
    by None h = cc
    by (Some g) h = cc
  ahead_ready s w (LeftStax stax) one visit e = cc
  ahead_ready s w (Claimed mutex) one visit e = λ h. tt

  first_settles : (s : State) (w : Option Waiting) (one : WordCall) → Ready s k Begins (Some one) → AheadSettles s k (first_ahead c gates mutexes k w one)
  first_settles s w (TryLockStax stax) r = cc
  first_settles s w (UnlockStax stax) r = cc
  first_settles s w (ClaimStax stax) r = cc
  first_settles s w (TryLockMutex mutex) r = cc
  first_settles s w (UnlockMutexFast mutex) r = cc
  first_settles s w (TryUnlockMutex mutex) r = cc
  first_settles s w (BeginLockMutex mutex until) r = begin_so (AheadSettles s k) (λ refusal. (Refused refusal, refl)) w mutex until (λ word. refl) (slice_get mutexes mutex.0)
  first_settles s w FinishLockMutex r = finish_so (AheadSettles s k) (λ refusal. (Refused refusal, refl)) (λ mutex word. r) w
  first_settles s w (Kernel place) r = refl
  first_settles s w (call.Finish keep) r = wait_so (AheadSettles s k) (λ refusal. (Refused refusal, refl)) r w keep (holds_some gates k || holds_some mutexes k)

  pub ready_ahead : (s : State) (w : Option Waiting) (place : Place) (one : Option WordCall) → Ready s k place one → (a : Ahead) × (ahead_at c gates mutexes k w place one ≡ Some a) × AheadSettles s k a
  ready_ahead s w Begins None r = cc
  ready_ahead s w Begins (Some one) r = (first_ahead c gates mutexes k w one, refl, first_settles s w one r)
  ready_ahead s w (Found stax old) one r = cc
  ready_ahead s w (LeftStax stax) one r = cc
  ready_ahead s w (Claimed mutex) one r = (Visits (asked.Hand mutex), refl, refl)

-- only one of the callers is ready for a visit
pub ready_within : (c : Crew) (s : State) (k : ℕ) (places : List Place) (made : ℕ) → length places ≡ length c.callers.items → Ready s k (slice_index_or places k Begins) (next_call c k made) → k < length c.callers.items
ready_within c s k places made long r = by (slice_get c.callers.items k) refl where
  behind : (n : ℕ) → slice_get c.callers.items k ≡ None → length c.callers.items ≤ k
  behind n e = past c.callers.items k e where
    past : (xs : List CrewCaller) (i : ℕ) → slice_get xs i ≡ None → length xs ≤ i
    past [] i h = omega arith
    past (x ∷ xs) zero h = cc
    past (x ∷ xs) (suc i) h = let le = past xs i h in omega arith

  none_there : (xs : List Place) (i : ℕ) → length xs ≤ i → slice_index_or xs i Begins ≡ Begins
  none_there [] i le = refl
  none_there (x ∷ xs) zero le = absurd (omega arith)
  none_there (x ∷ xs) (suc i) le = none_there xs i (omega arith)

  by : (o : Option CrewCaller) → slice_get c.callers.items k ≡ o → k < length c.callers.items
  by (Some x) at = slice_get_within c.callers.items k x at
  by None at =
      let le = behind k at in
      let begins = none_there places k (omega (arith, le, long)) in
      let calls : next_call c k made ≡ None = ap (λ (o : Option CrewCaller). option_and_then (λ (caller : CrewCaller). slice_get caller.calls.items made) o) at in
      let never : false ≡ true = subst (λ (one : Option WordCall). Ready s k Begins one) calls (subst (λ (p : Place). Ready s k p (next_call c k made)) begins r) in
      cc
