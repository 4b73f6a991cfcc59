-- The kernel's answers where it accepts a call on a mutex, and that it accepts the end of a wait that is over.
use Rattle.std.proofs.Common.{◌≡◌, ◌<◌, nat_le, ℕ, zero, suc, List, [], ◌∷◌, Bool, true, false, true≢false, eq-eqb, ◌||◌, Option, Some, None, is_some, Result, Ok, Err, if◌then◌else◌, length, slice_get, slice_index_or, refl, sym, ap, ◌∙◌, subst, arith}
use Rattle.std.specs.Option.{option_map_or}
use Rattle.std.proofs.lemmas.Bool.Decides.{nat_tests}
use Rattle.std.proofs.lemmas.Bool.{or_right}
use Rattle.evl_base.specs.Board.{board_fits}
use Rattle.evl_base.specs.declared.call.Call.TheVariants.{Claim, Release, Finish}
use Rattle.evl_base.specs.declared.numbers.MutexId.{MutexId}
use Rattle.evl_base.specs.declared.numbers.ThreadId.{ThreadId}
use Rattle.evl_base.specs.declared.play.Play.{Play}
use Rattle.evl_base.specs.declared.refusal.Refusal.{Refusal}
use Rattle.evl_base.specs.declared.refusal.Refusal.TheVariants.{Again, NotOwner, Unknown}
use Rattle.evl_base.specs.declared.reply.Reply.{Reply}
use Rattle.evl_base.specs.declared.reply.Reply.TheVariants.{Begun, Handed}
use Rattle.evl_sched.specs.declared.seat.Seat.{Seat}
use Rattle.evl_sched.specs.Threads.{is_attached}
use Rattle.evl_mutex.specs.declared.waiter.Waiter.{Waiter}
use Rattle.evl_mutex.specs.Mutexes.{Mutex, handed_to, is_open_to, is_owned_by, released_mutex}
use Rattle.evl_mutex.specs.Queues.{stands_in}
use Rattle.evl_kernel.specs.declared.waits.Wait.{Wait}
use Rattle.evl_kernel.specs.declared.waits.Wanted.TheVariants as wanted
use Rattle.evl_kernel.specs.state.States.{State}
use Rattle.evl_kernel.specs.calls.Effects.{Answered, Effect, known, leaving, lifted, refused_by}
use Rattle.evl_kernel.specs.calls.Mutexes.{handed_told}
use Rattle.evl_kernel.specs.waiting.Beginnings.{begin_refusal}
use Rattle.evl_kernel.specs.waiting.Endings.{goes_inband, inband_if, outcome_of}
use Rattle.evl_kernel.specs.calls.Serving.{answer, general_refusal}
use Rattle.evl_kernel.specs.waiting.Waits.{has_ended, has_timed_out, is_timeout, wait_at, with_wait}
use Rattle.evl_kernel.specs.histories.Histories.{Follows, History, IsLegal, Step}
use Rattle.evl_kernel.proofs.histories.OwnerLaws.{owners_stay}
use Rattle.evl_kernel.proofs.waiting.ProperSteps.{proper_at}
use Rattle.evl_kernel.proofs.histories.StageLaws.{seats_are}

-- what holds of the reply, where there is no refusal
abbrev Says : {X : Type 0} → (Reply → Type 0) → Answered X → Type 0
Says P (Ok (reply, x)) = P reply
Says P (Err refusal) = Unit {0}

module _ (P : Reply → Type 0) where
  says_refused : {X : Type 0} (o : Option Refusal) (e : Answered X) → Says P e → Says P (refused_by o e)
  says_refused None e h = h
  says_refused (Some refusal) e h = tt

  says_lifted : {X Y : Type 0} (f : X → Y) (e : Answered X) → Says P e → Says P (lifted f e)
  says_lifted f (Ok (reply, x)) h = h
  says_lifted f (Err refusal) h = tt

  says_known : {A X : Type 0} (o : Option A) (f : A → Answered X) → ((x : A) → o ≡ Some x → Says P (f x)) → Says P (known o f)
  says_known None f h = tt
  says_known (Some x) f h = h x refl

  says_reply : (old : State) (e : Effect) (reply : Reply) (plays : List Play) (new : State) → Says P e → Follows old e (Ok reply) plays new → P reply
  says_reply old (Ok (given, changed)) reply plays new h (same, settles) = let is : reply ≡ given = cc in subst P (sym is) h
  says_reply old (Err refusal) reply plays new h (same, none, stays) = absurd (cc)

-- an accepted claim begins a wait
pub claim_begins : (s s' : State) (t : ℕ) (m : MutexId) (owner : ThreadId) (until : Option ℕ) (reply : Reply) (plays : List Play) → Step s t (Claim m owner until) (Ok reply) plays s' → reply ≡ Begun
claim_begins s s' t m owner until reply plays step =
    let P : Reply → Type 0 = λ r. r ≡ Begun in
    says_reply P s (answer s t (Claim m owner until)) reply plays s'
    (says_refused P (general_refusal s t (Claim m owner until)) _ (says_refused P (begin_refusal s t (wanted.Mutex m owner)) _ (says_lifted P _ _ (says_known P (slice_get s.elements.mutexes m.0) _ (λ x there. refl))))) step

-- what a release answers about its mutex
record IsHandedBy (s : State) (n : ℕ) (reply : Reply) : Type 0 where
  mutex : Mutex
  there : slice_get s.elements.mutexes n ≡ Some mutex
  told : reply ≡ handed_told (released_mutex mutex)

handed_by : (s s' : State) (t : ℕ) (m : MutexId) (reply : Reply) (plays : List Play) → Step s t (Release m) (Ok reply) plays s' → IsHandedBy s m.0 reply
handed_by s s' t m reply plays step =
    says_reply P s (answer s t (Release m)) reply plays s'
    (says_refused P (general_refusal s t (Release m)) _ (says_lifted P _ _ (says_known P (slice_get s.elements.mutexes m.0) _ (λ x there. says_lifted P _ _ (by x there (is_open_to t x)))))) step
  where
    P : Reply → Type 0
    P = IsHandedBy s m.0

    by : (x : Mutex) → slice_get s.elements.mutexes m.0 ≡ Some x → (b : Bool) → Says {X = Mutex} P (if b then Ok (handed_told (released_mutex x), (released_mutex x).after) else Err NotOwner)
    by x there true = record { mutex = x; there = there; told = refl }
    by x there false = tt

-- who is handed a mutex, waited for it
waited : (m : Mutex) (next : ThreadId) (more : Bool) → Handed (Some next) more ≡ handed_told (released_mutex m) → stands_in next.0 m.waiters ≡ true
waited m next more told = by m.waiters told
  where
    by : (ws : List Waiter) → Handed (Some next) more ≡ handed_told (handed_to m ws) → stands_in next.0 ws ≡ true
    by [] is = absurd (cc)
    by (w ∷ ws) is = let same : next ≡ record { 0 = w.thread } = cc in ap (λ b. b || stands_in next.0 ws) (eq-eqb w.thread next.0 (ap (λ (x : ThreadId). x.0) (sym same)))

seated_below : (seats : List (Option Seat)) (t : ℕ) → is_some (slice_index_or seats t None) ≡ true → t < length seats
seated_below [] t is = absurd (true≢false (sym is))
seated_below (x ∷ xs) zero is = omega arith
seated_below (x ∷ xs) (suc t) is = let less = seated_below xs t is in omega (arith, less)

-- the next owner is a thread of the board
pub next_is_there : (h : History) (s' : State) (t : ℕ) (m : MutexId) (next : ThreadId) (more : Bool) (plays : List Play) → IsLegal h → board_fits h.board ≡ true
    → Step h.state t (Release m) (Ok (Handed (Some next) more)) plays s' → next.0 < h.board.threads
next_is_there h s' t m next more plays legal fits step =
    let by = handed_by h.state s' t m (Handed (Some next) more) plays step in
    let attached : is_attached h.state.sched next.0 ≡ true = (owners_stay h legal fits).attached m.0 by.mutex by.there next.0 (or_right (is_owned_by next.0 by.mutex) (stands_in next.0 by.mutex.waiters) (waited by.mutex next more by.told)) in
    let below = seated_below h.state.sched.seats next.0 attached in
    let seats = seats_are h legal in
    omega (arith, below, seats)

-- how a wait ended that is over
record IsOver (s : State) (t : ℕ) : Type 0 where
  reply : Reply
  outcome : outcome_of (wait_at s t) ≡ Ok reply
  timed : has_timed_out s t ≡ is_timeout reply

is_over : (s : State) (t : ℕ) → has_ended s t ≡ true → IsOver s t
is_over s t ended = by (wait_at s t) refl
  where
    by : (o : Option Wait) → wait_at s t ≡ o → IsOver s t
    by None is = absurd (true≢false (sym ended ∙ ap (λ (o : Option Wait). option_map_or (λ (w : Wait). is_some w.outcome) o false) is))
    by (Some w) is = on w.outcome refl
      where
        on : (o : Option Reply) → w.outcome ≡ o → IsOver s t
        on None none = absurd (true≢false (sym ended ∙ (ap (λ (o : Option Wait). option_map_or (λ (w : Wait). is_some w.outcome) o false) is ∙ ap is_some none)))
        on (Some reply) some = record {
          reply = reply;
          outcome = ap outcome_of is ∙ ap (λ (o : Option Reply). option_map_or (λ (r : Reply). Ok r) o (Err Again)) some;
          timed = ap (λ (o : Option Wait). option_map_or (λ (w : Wait). option_map_or is_timeout w.outcome false) o false) is ∙ ap (λ (o : Option Reply). option_map_or is_timeout o false) some;
        }

-- the end of a wait that is over is answered by what ended it
pub finish_tells : (h : History) (s' : State) (t : ℕ) (keep : Bool) (r : Result Reply Refusal) (plays : List Play) → IsLegal h → board_fits h.board ≡ true → t < h.board.threads → has_ended h.state t ≡ true
    → Step h.state t (Finish keep) r plays s' → (reply : Reply) × (r ≡ Ok reply) × (has_timed_out h.state t ≡ is_timeout reply)
finish_tells h s' t keep r plays legal fits below ended step =
    let over = is_over h.state t ended in
    (over.reply, told over.reply (outcome_of (wait_at h.state t)) over.outcome (nat_le h.state.threads t) there step, over.timed)
  where
    after : State
    after = inband_if (goes_inband h.state t keep) (with_wait h.state t None) t

    there : nat_le h.state.threads t ≡ false
    there = let same = (proper_at h legal fits).threads_are in grind (arith, nat_tests)

    accepted : (reply : Reply) (o : Result Reply Refusal) → o ≡ Ok reply → Follows h.state (leaving after o) r plays s' → r ≡ Ok reply
    accepted reply (Ok given) is (same, settles) = same ∙ is
    accepted reply (Err refusal) is follows = absurd (cc)

    told : (reply : Reply) (o : Result Reply Refusal) → o ≡ Ok reply → (b : Bool) → b ≡ false → Follows h.state (refused_by (if b then Some Unknown else None) (leaving after o)) r plays s' → r ≡ Ok reply
    told reply o is true below follows = absurd (true≢false below)
    told reply o is false below follows = accepted reply o is follows
