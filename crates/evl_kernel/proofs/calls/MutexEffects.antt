-- All that each call on a mutex leaves before settling.
use Rattle.std.proofs.Common.{◌≡◌, ◌≢◌, ◌≤◌, ◌<◌, ◌⊎◌, ⊎_elim, ℕ, zero, suc, nat_le, nat_lt, ◌==◌, eq-eqb, ne_eqb, ◌&&◌, ◌||◌, Bool, true, false, not, List, [], ◌∷◌, length, Option, Some, None, is_some, option_map, Result, Ok, Err, slice_get, slice_set, slice_index_or, if◌then◌else◌, refl, sym, ap, ◌∙◌, subst, arith}
use Rattle.std.specs.Option.{option_map_or}
use Rattle.std.proofs.lemmas.Bool.{false≢true, eqb-true}
use Rattle.std.proofs.lemmas.Bool.Decides.{nat_tests}
use Rattle.std.proofs.Math.Bool.{and-false}
use Rattle.evl_base.specs.declared.call.Call.{Call}
use Rattle.evl_base.specs.declared.play.Play.{Play}
use Rattle.evl_base.specs.declared.call.Call.TheVariants.{Claim, Release, Raise, Finish}
use Rattle.evl_base.specs.declared.numbers.MutexId.{MutexId}
use Rattle.evl_base.specs.declared.numbers.ThreadId.{ThreadId}
use Rattle.evl_base.specs.declared.refusal.Refusal.{Refusal}
use Rattle.evl_base.specs.declared.refusal.Refusal.TheVariants.{Busy, Invalid, NotOwner, Unknown}
use Rattle.evl_base.specs.declared.reply.Reply.{Reply}
use Rattle.evl_base.specs.declared.reply.Reply.TheVariants.{Done}
use Rattle.evl_mutex.specs.declared.waiter.Waiter.{Waiter}
use Rattle.evl_mutex.specs.Mutexes as recorded
use Rattle.evl_mutex.specs.Mutexes.{Mutex as MutexRecorded, claimed_mutex, handed_to, has_ceiling, is_open_to, raised_mutex, released_mutex}
use Rattle.evl_mutex.specs.Queues.{stands_in}
use Rattle.evl_kernel.specs.declared.waits.Awaited.{Awaited}
use Rattle.evl_kernel.specs.declared.waits.Awaited.TheVariants.{Mutex}
use Rattle.evl_kernel.specs.declared.waits.Wait.{Wait}
use Rattle.evl_kernel.specs.declared.waits.Wanted.TheVariants as wanted
use Rattle.evl_kernel.specs.state.States.{State, Elements}
use Rattle.evl_kernel.specs.calls.Effects.{Answered, Effect, done, leaving, lifted, refused_by}
use Rattle.evl_kernel.specs.calls.Mutexes as mutex_step
use Rattle.evl_kernel.specs.calls.Mutexes.{handed_told, mutex as mutex_machine, mutex_wakes}
use Rattle.evl_kernel.specs.calls.Elements.{ElementStep, on_mutex, element, elements, with_elements, wakes, touched}
use Rattle.evl_kernel.specs.waiting.Waits.{wait_of, wait_at, with_wait, going_on, ended_by, is_past, suspended, wait_begun, woken, all_woken}
use Rattle.evl_kernel.specs.waiting.Beginnings.{begin_refusal}
use Rattle.evl_kernel.specs.waiting.Endings.{goes_inband, inband_if, outcome_of}
use Rattle.evl_kernel.specs.calls.OwnerCalls.{raiser_refusal}
use Rattle.evl_kernel.specs.calls.TimerCalls.{posted_if}
use Rattle.evl_kernel.specs.calls.ThreadCalls.{rank_of}
use Rattle.evl_kernel.specs.calls.Serving.{answer, ends_a_wait, general_refusal}
use Rattle.evl_kernel.specs.calls.Families.{task_of}
use Rattle.evl_kernel.specs.histories.Histories.{Follows}
use Rattle.evl_sched.specs.declared.seat.Seat.{Seat}
use Rattle.evl_sched.specs.Threads.{is_attached, refused_first}
use Rattle.evl_sched.specs.Calls.{stranger_refusal}
use Rattle.evl_kernel.specs.waiting.Standing.{in_mutex}
use Rattle.evl_kernel.specs.histories.MutexRests.{is_for, got_it}
use Rattle.evl_kernel.specs.calls.MutexEffects.{has_got, ClaimLeaves, ReleaseLeaves, RaiseLeaves, FinishLeaves, MutexCallsChange, MutexCallsAreAccepted}
use Rattle.evl_kernel.proofs.calls.LeavesLaws.{Leaves, leaves-refused}
use Rattle.evl_kernel.proofs.calls.ElementSteps.{nth-done, nth-made, ok_is}
use Rattle.evl_kernel.proofs.calls.QueueSteps.{was_at_it}
use Rattle.evl_kernel.proofs.state.SetLaws.{set_here, set_there}
use Rattle.evl_kernel.proofs.waiting.ProperLaws.{IsProper}
use Rattle.evl_kernel.proofs.waiting.ProperSteps.{passed_all, proper_at}
use Rattle.evl_kernel.proofs.waiting.WaitLaws.{index_set, wait_there}
use Rattle.evl_kernel.proofs.waiting.WaitRecords.{index_here}
use Rattle.evl_kernel.proofs.histories.MutexRests.{got_set}

-- what an effect leaves
leaves_of : (P : State → Type 0) (e : Effect) (reply : Reply) (new : State) → Leaves P e → e ≡ Ok (reply, new) → P new
leaves_of P (Ok (given, x)) reply new h is = subst P (ap (λ (p : Reply × State). p.1) (ok_is is)) h
leaves_of P (Err refusal) reply new h is = absurd (cc)

-- the same, with the answer
abbrev Tells : (Reply → State → Type 0) → Effect → Type 0
Tells P (Ok (given, x)) = P given x
Tells P (Err refusal) = Unit {0}

tells_of : (P : Reply → State → Type 0) (e : Effect) (reply : Reply) (new : State) → Tells P e → e ≡ Ok (reply, new) → P reply new
tells_of P (Ok (given, x)) reply new h is = subst (λ (p : Reply × State). P p.0 p.1) (ok_is is) h
tells_of P (Err refusal) reply new h is = absurd (cc)

tells_refused : (P : Reply → State → Type 0) (o : Option Refusal) (e : Effect) → (o ≡ None → Tells P e) → Tells P (refused_by o e)
tells_refused P None e h = h refl
tells_refused P (Some refusal) e h = tt

-- a step of mutex n that it accepts
module _ (s : State) (n : ℕ) (q p : MutexRecorded) (here : slice_get (elements s).mutexes n ≡ Some q) (after : Elements) (is : record (elements s) { mutexes = slice_set (elements s).mutexes n p } ≡ after) where
  changed_now : slice_get after.mutexes n ≡ Some p
  changed_now = ap (λ (x : Elements). slice_get x.mutexes n) (sym is) ∙ set_here (elements s).mutexes n q p here

  changed_else : (j : ℕ) → j ≢ n → slice_get after.mutexes j ≡ slice_get (elements s).mutexes j
  changed_else j ne = ap (λ (x : Elements). slice_get x.mutexes j) (sym is) ∙ set_there (elements s).mutexes n j p (ne_eqb n j (λ e. ne (sym e)))

abbrev released_if : Bool → MutexRecorded → Answered MutexRecorded
released_if b q = if b then Ok (handed_told (released_mutex q), (released_mutex q).after) else Err NotOwner

module _ (count : ℕ) (s : State) (h : IsProper count s) (caller : ℕ) where
  claim_leaves : (id : MutexId) (owner : ThreadId) (until : Option ℕ) → Leaves (ClaimLeaves s caller id.0 owner.0) (answer s caller (Claim id owner until))
  claim_leaves id owner until = leaves-refused P (general_refusal s caller (Claim id owner until)) _ (λ passed. leaves-refused P (begin_refusal s caller (wanted.Mutex id owner)) _ (λ none. left (passed_all s caller (Claim id owner until) refl passed).idle (element (elements s) step) refl))
    where
      P : State → Type 0
      P = ClaimLeaves s caller id.0 owner.0

      w : Waiter
      w = record { thread = caller; rank = rank_of s caller }

      step : ElementStep
      step = on_mutex id.0 (mutex_step.claim w owner.0)

      on : Awaited
      on = Mutex id

      blocks : (q : MutexRecorded) (after : Elements) → slice_get (elements s).mutexes id.0 ≡ Some q → record (elements s) { mutexes = slice_set (elements s).mutexes id.0 (claimed_mutex q w owner.0) } ≡ after → wait_at s caller ≡ None
          → P (wait_begun (with_elements s after) caller on until None)
      blocks q after here is idle = by (is_past s.clock.now until)
        where
          there : P (suspended (with_elements s after) caller on until)
          there = record {
            was = q;
            changes = record { there = here; now = changed_now s id.0 q (claimed_mutex q w owner.0) here after is; others = changed_else s id.0 q (claimed_mutex q w owner.0) here after is };
            got = λ j t. got_set j s caller (Some (going_on on)) (ap (got_it j) idle) (and-false (is_for j on)) t;
          }

          by : (b : Bool) → P (posted_if b (suspended (with_elements s after) caller on until))
          by true = record { was = there.was; changes = record { there = there.changes.there; now = there.changes.now; others = there.changes.others }; got = there.got }
          by false = there

      nobody : (q : MutexRecorded) → slice_get (elements s).mutexes id.0 ≡ Some q → wakes (elements s) step ≡ []
      nobody q here = ap (λ (o : Option MutexRecorded). option_map_or (λ (m : MutexRecorded). mutex_wakes m (mutex_step.claim w owner.0)) o []) here

      left : wait_at s caller ≡ None → (a : Answered Elements) → element (elements s) step ≡ a → Leaves P (lifted (λ e. all_woken (wait_begun (with_elements s e) caller on until None) (wakes (elements s) step)) a)
      left idle (Err refusal) is = tt
      left idle (Ok (reply, after)) is =
          let made = nth-made mutex_machine (λ ms. record (elements s) { mutexes = ms }) (elements s).mutexes id.0 (mutex_step.claim w owner.0) reply after is in
          let now : claimed_mutex made.before w owner.0 ≡ made.left = ap (λ (x : Reply × MutexRecorded). x.1) (ok_is made.made) in
          subst (λ (ws : List (ℕ × Reply)). P (all_woken (wait_begun (with_elements s after) caller on until None) ws)) (sym (nobody made.before made.here))
          (blocks made.before after made.here (ap (λ (p : MutexRecorded). record (elements s) { mutexes = slice_set (elements s).mutexes id.0 p }) now ∙ made.after_is) idle)

  raise_leaves : (id : MutexId) → Leaves (RaiseLeaves s id.0 caller) (answer s caller (Raise id))
  raise_leaves id = leaves-refused P (general_refusal s caller (Raise id)) _ (λ passed. leaves-refused P (raiser_refusal s caller id.0) _ (λ may. left (element (elements s) step) refl))
    where
      P : State → Type 0
      P = RaiseLeaves s id.0 caller

      step : ElementStep
      step = on_mutex id.0 (mutex_step.raise caller)

      raises : (q p : MutexRecorded) (reply : Reply) → mutex_machine q (mutex_step.raise caller) ≡ Ok (reply, p) → (has_ceiling q ≡ true) × (raised_mutex q caller ≡ p)
      raises q p reply is = by (has_ceiling q) refl (is_some q.owner) is
        where
          by : (b : Bool) → has_ceiling q ≡ b → (c : Bool) → (if b then (if c then Err Busy else done (raised_mutex q caller)) else Err Invalid) ≡ Ok (reply, p) → (has_ceiling q ≡ true) × (raised_mutex q caller ≡ p)
          by true e true is = absurd (cc)
          by true e false is = (e, ap (λ (x : Reply × MutexRecorded). x.1) (ok_is is))
          by false e c is = absurd (cc)

      nobody : (q : MutexRecorded) → slice_get (elements s).mutexes id.0 ≡ Some q → wakes (elements s) step ≡ []
      nobody q here = ap (λ (o : Option MutexRecorded). option_map_or (λ (m : MutexRecorded). mutex_wakes m (mutex_step.raise caller)) o []) here

      left : (a : Answered Elements) → element (elements s) step ≡ a → Leaves P (lifted (λ e. all_woken (with_elements s e) (wakes (elements s) step)) a)
      left (Err refusal) is = tt
      left (Ok (reply, after)) is =
          let made = nth-made mutex_machine (λ ms. record (elements s) { mutexes = ms }) (elements s).mutexes id.0 (mutex_step.raise caller) reply after is in
          let r = raises made.before made.left reply made.made in
          let at = ap (λ (p : MutexRecorded). record (elements s) { mutexes = slice_set (elements s).mutexes id.0 p }) r.1 ∙ made.after_is in
          subst (λ (ws : List (ℕ × Reply)). P (all_woken (with_elements s after) ws)) (sym (nobody made.before made.here))
          (record {
            was = made.before;
            ceiling = r.0;
            changes = record { there = made.here; now = changed_now s id.0 made.before (raised_mutex made.before caller) made.here after at; others = changed_else s id.0 made.before (raised_mutex made.before caller) made.here after at };
            got = λ j t. refl;
          })

  finish_leaves : (keep : Bool) → Leaves (FinishLeaves s caller) (answer s caller (Finish keep))
  finish_leaves keep = leaves-refused P (general_refusal s caller (Finish keep)) _ (λ passed. by (outcome_of (wait_at s caller)))
    where
      P : State → Type 0
      P = FinishLeaves s caller

      own : (j : ℕ) → got_it j (wait_of (slice_set s.waits caller None) caller) ≡ false
      own j = ⊎_elim (λ (e : slice_index_or (slice_set s.waits caller None) caller None ≡ None). ap (got_it j) e) (λ (e : slice_index_or (slice_set s.waits caller None) caller None ≡ None). ap (got_it j) e) (index_set s.waits caller None)

      free : P (with_wait s caller None)
      free = record { records = λ j. refl; own = own; others = λ j t ne. ap (got_it j) (wait_there s caller None t (ne_eqb t caller ne)) }

      goes : (b : Bool) → P (inband_if b (with_wait s caller None) caller)
      goes true = record { records = free.records; own = free.own; others = free.others }
      goes false = free

      by : (r : Result Reply Refusal) → Leaves P (leaving (inband_if (goes_inband s caller keep) (with_wait s caller None) caller) r)
      by (Ok reply) = goes (goes_inband s caller keep)
      by (Err refusal) = tt

  release_leaves : (id : MutexId) → Tells (ReleaseLeaves s id.0) (answer s caller (Release id))
  release_leaves id = tells_refused P (general_refusal s caller (Release id)) _ (λ passed. left (element (elements s) step) refl)
    where
      n : ℕ
      n = id.0

      P : Reply → State → Type 0
      P = ReleaseLeaves s id.0

      step : ElementStep
      step = on_mutex id.0 (mutex_step.release caller)

      releases : (q p : MutexRecorded) (reply : Reply) → mutex_machine q (mutex_step.release caller) ≡ Ok (reply, p) → (reply ≡ handed_told (released_mutex q)) × ((released_mutex q).after ≡ p)
      releases q p reply is = by (is_open_to caller q) is
        where
          by : (b : Bool) → released_if b q ≡ Ok (reply, p) → (reply ≡ handed_told (released_mutex q)) × ((released_mutex q).after ≡ p)
          by true is = (sym (ap (λ (x : Reply × MutexRecorded). x.0) (ok_is is)), ap (λ (x : Reply × MutexRecorded). x.1) (ok_is is))
          by false is = absurd (cc)

      served : (q : MutexRecorded) → slice_get (elements s).mutexes id.0 ≡ Some q → wakes (elements s) step ≡ mutex_wakes q (mutex_step.release caller)
      served q here = ap (λ (o : Option MutexRecorded). option_map_or (λ (m : MutexRecorded). mutex_wakes m (mutex_step.release caller)) o []) here

      -- who is next waits for it
      next_waits : (q : MutexRecorded) → slice_get (elements s).mutexes id.0 ≡ Some q → (next : ℕ) → (released_mutex q).next ≡ Some next → wait_at s next ≡ Some (going_on (Mutex id))
      next_waits q here next is = h.proper.stands (Mutex id) next (was_at_it in_mutex (elements s).mutexes id.0 q q here next ∙ by q.waiters is)
        where
          some_is : {x y : ℕ} → Some x ≡ Some y → x ≡ y
          some_is e = cc

          by : (ws : List Waiter) → (handed_to q ws).next ≡ Some next → stands_in next ws ≡ true
          by [] e = absurd (cc)
          by (x ∷ xs) e = ap (λ b. b || stands_in next xs) (eq-eqb x.thread next (some_is e))

      within : (ws : List (Option Wait)) (t : ℕ) (v : Wait) → slice_index_or ws t None ≡ Some v → t < length ws
      within [] t v e = absurd (cc)
      within (x ∷ xs) zero v e = omega arith
      within (x ∷ xs) (suc t) v e = let below = within xs t v e in omega (arith, below)

      ended : Option Wait
      ended = Some (ended_by Done (going_on (Mutex id)))

      got_now : (q : MutexRecorded) (after : Elements) → slice_get (elements s).mutexes id.0 ≡ Some q → (next : ℕ) → (released_mutex q).next ≡ Some next
          → (j t : ℕ) → has_got (woken (with_elements s after) next Done) j t ≡ (((id.0 == j) && (next == t)) || has_got s j t)
      got_now q after here next is j t = by (t == next) refl
        where
          waits : wait_at s next ≡ Some (going_on (Mutex id))
          waits = next_waits q here next is

          at_next : wait_of (slice_set s.waits next (option_map (ended_by Done) (wait_at s next))) next ≡ ended
          at_next = index_here s.waits next (option_map (ended_by Done) (wait_at s next)) None (within s.waits next (going_on (Mutex id)) waits) ∙ ap (option_map (ended_by Done)) waits

          old_next : has_got s j next ≡ false
          old_next = ap (got_it j) waits ∙ and-false (id.0 == j)

          or_false : (b : Bool) → (b && true) ≡ ((b && true) || false)
          or_false true = refl
          or_false false = refl

          by : (b : Bool) → (t == next) ≡ b → got_it j (wait_of (slice_set s.waits next (option_map (ended_by Done) (wait_at s next))) t) ≡ (((id.0 == j) && (next == t)) || got_it j (wait_at s t))
          by true e = subst (λ (k : ℕ). got_it j (wait_of (slice_set s.waits next (option_map (ended_by Done) (wait_at s next))) k) ≡ (((id.0 == j) && (next == k)) || got_it j (wait_at s k))) (sym (eqb-true t next e))
              (ap (got_it j) at_next ∙ or_false (id.0 == j) ∙ ap (λ b. ((id.0 == j) && b) || false) (sym (eq-eqb next next refl)) ∙ ap (λ b. ((id.0 == j) && (next == next)) || b) (sym old_next))
          by false e = ap (got_it j) (wait_there s next (option_map (ended_by Done) (wait_at s next)) t e) ∙ ap (λ b. b || got_it j (wait_at s t)) (sym (ap (λ b. (id.0 == j) && b) (ne_eqb next t (λ x. false≢true (sym e ∙ eq-eqb t next (sym x)))) ∙ and-false (id.0 == j)))

      all_told : (q : MutexRecorded) (after : Elements) (reply : Reply) → slice_get (elements s).mutexes id.0 ≡ Some q → reply ≡ handed_told (released_mutex q) → record (elements s) { mutexes = slice_set (elements s).mutexes id.0 (released_mutex q).after } ≡ after
          → (o : Option ℕ) → (released_mutex q).next ≡ o → P reply (all_woken (with_elements s after) (Rattle.evl_kernel.specs.calls.Semaphores.one_served o))
      all_told q after reply here told is None none = record {
        was = q;
        told = told;
        changes = record { there = here; now = changed_now s id.0 q (released_mutex q).after here after is; others = changed_else s id.0 q (released_mutex q).after here after is };
        got = λ t. ap (λ (o : Option ℕ). option_map_or (λ next. next == t) o false || has_got s n t) (sym none);
        elsewhere = λ j t ne. refl;
      }
      all_told q after reply here told is (Some next) some = record {
        was = q;
        told = told;
        changes = record { there = here; now = changed_now s id.0 q (released_mutex q).after here after is; others = changed_else s id.0 q (released_mutex q).after here after is };
        got = λ t. got_now q after here next some n t ∙ ap (λ b. (b && (next == t)) || has_got s n t) (eq-eqb id.0 id.0 refl) ∙ ap (λ (o : Option ℕ). option_map_or (λ next. next == t) o false || has_got s n t) (sym some);
        elsewhere = λ j t ne. got_now q after here next some j t ∙ ap (λ b. (b && (next == t)) || has_got s j t) (ne_eqb id.0 j (λ e. ne (sym e)));
      }

      left : (a : Answered Elements) → element (elements s) step ≡ a → Tells P (lifted (λ e. all_woken (with_elements s e) (wakes (elements s) step)) a)
      left (Err refusal) is = tt
      left (Ok (reply, after)) is =
          let made = nth-made mutex_machine (λ ms. record (elements s) { mutexes = ms }) (elements s).mutexes id.0 (mutex_step.release caller) reply after is in
          let r = releases made.before made.left reply made.made in
          subst (λ (ws : List (ℕ × Reply)). P reply (all_woken (with_elements s after) ws)) (sym (served made.before made.here))
          (all_told made.before after reply made.here r.0 (ap (λ (p : MutexRecorded). record (elements s) { mutexes = slice_set (elements s).mutexes id.0 p }) r.1 ∙ made.after_is) (released_mutex made.before).next refl)

pub mutex_calls : MutexCallsChange
mutex_calls h legal fits caller =
    let count = h.board.threads in
    let proper = proper_at h legal fits in record {
      claim = λ id owner until reply new is. leaves_of (ClaimLeaves h.state caller id.0 owner.0) (answer h.state caller (Claim id owner until)) reply new (claim_leaves count h.state proper caller id owner until) is;
      release = λ id reply new is. tells_of (ReleaseLeaves h.state id.0) (answer h.state caller (Release id)) reply new (release_leaves count h.state proper caller id) is;
      raise = λ id reply new is. leaves_of (RaiseLeaves h.state id.0 caller) (answer h.state caller (Raise id)) reply new (raise_leaves count h.state proper caller id) is;
      finish = λ keep reply new is. leaves_of (FinishLeaves h.state caller) (answer h.state caller (Finish keep)) reply new (finish_leaves count h.state proper caller keep) is;
    }

-- The calls that are accepted

seated_below : (seats : List (Option Seat)) (t : ℕ) → is_some (slice_index_or seats t None) ≡ true → t < length seats
seated_below [] t is = absurd (false≢true is)
seated_below (x ∷ xs) zero is = omega arith
seated_below (x ∷ xs) (suc t) is = let less = seated_below xs t is in omega (arith, less)

abbrev raised_if : ℕ → Bool → Bool → MutexRecorded → Answered MutexRecorded
raised_if caller b c q = if b then (if c then Err Busy else done (raised_mutex q caller)) else Err Invalid

follows_ok : (old : State) (e : Effect) (r : Result Reply Refusal) (plays : List Play) (new : State) (said : Reply) (x : State) → e ≡ Ok (said, x) → Follows old e r plays new → (reply : Reply) × (r ≡ Ok reply)
follows_ok old (Ok (given, y)) r plays new said x is follows = (given, follows.0)
follows_ok old (Err refusal) r plays new said x is follows = absurd (cc)

-- a thread that has no wait passes what all calls are refused by
pub passed_general : (s : State) (caller : ℕ) (asked : Call) → ends_a_wait (task_of asked) ≡ false → caller < s.threads → wait_at s caller ≡ None → general_refusal s caller asked ≡ None
passed_general s caller asked other there idle = by (ends_a_wait (task_of asked)) other (wait_at s caller) idle (nat_le s.threads caller) (let x = there in grind (arith, nat_tests))
  where
    by : (e : Bool) → e ≡ false → (o : Option Wait) → o ≡ None → (b : Bool) → b ≡ false → (if (not e && is_some o) then Some Busy else (if b then Some Unknown else None)) ≡ None
    by true e o none b f = absurd (false≢true (sym e))
    by false e (Some w) none b f = absurd (cc)
    by false e None none true f = absurd (false≢true (sym f))
    by false e None none false f = refl

pub mutex_calls_pass : MutexCallsAreAccepted
mutex_calls_pass s caller there idle = record {
  release = λ id m r plays new here unclaimed step.
      let general = passed_general s caller (Release id) refl there idle in
      let made : mutex_machine m (mutex_step.release caller) ≡ Ok (handed_told (released_mutex m), (released_mutex m).after) = ap (λ b. released_if b m) unclaimed in
      let at = nth-done mutex_machine (λ ms. record (elements s) { mutexes = ms }) (elements s).mutexes id.0 (mutex_step.release caller) m (released_mutex m).after (handed_told (released_mutex m)) here made in
      let effect = touched s (Some caller) (on_mutex id.0 (mutex_step.release caller)) in
      follows_ok s (answer s caller (Release id)) r plays new (handed_told (released_mutex m)) _
      (ap (λ (o : Option Refusal). refused_by o effect.effect) general ∙ ap (λ (a : Answered Elements). lifted (λ e. all_woken (with_elements s e) (wakes (elements s) (on_mutex id.0 (mutex_step.release caller)))) a) at) step;
  raise = λ id m r plays new here ceiling free attached step.
      let general = passed_general s caller (Raise id) refl there idle in
      let made : mutex_machine m (mutex_step.raise caller) ≡ Ok (Done, raised_mutex m caller) = ap (λ b. raised_if caller b (is_some m.owner) m) ceiling ∙ ap (λ (o : Option ℕ). raised_if caller true (is_some o) m) free in
      let at = nth-done mutex_machine (λ ms. record (elements s) { mutexes = ms }) (elements s).mutexes id.0 (mutex_step.raise caller) m (raised_mutex m caller) Done here made in
      let may : raiser_refusal s caller id.0 ≡ None = ap (λ (o : Option MutexRecorded). refused_first (if is_some o then None else Some Unknown) (stranger_refusal s.sched caller)) here ∙ known_thread attached in
      let effect = touched s (Some caller) (on_mutex id.0 (mutex_step.raise caller)) in
      follows_ok s (answer s caller (Raise id)) r plays new Done _
      (ap (λ (o : Option Refusal). refused_by o (refused_by (raiser_refusal s caller id.0) effect.effect)) general ∙ ap (λ (o : Option Refusal). refused_by o effect.effect) may
      ∙ ap (λ (a : Answered Elements). lifted (λ e. all_woken (with_elements s e) (wakes (elements s) (on_mutex id.0 (mutex_step.raise caller)))) a) at) step;
}
  where
    known_thread : is_attached s.sched caller ≡ true → stranger_refusal s.sched caller ≡ None
    known_thread e =
        let below = seated_below s.sched.seats caller e in
        let first : nat_lt caller (length s.sched.seats) ≡ true = grind (arith, nat_tests) in
        ap (λ b. refused_first (if b then None else Some Unknown) (if is_attached s.sched caller then None else Some Invalid)) first ∙ ap (λ b. if b then None else Some Invalid) e
