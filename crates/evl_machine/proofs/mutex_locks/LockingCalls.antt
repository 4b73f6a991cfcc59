-- The outcome of a caller's steps with the kernel in hand: a lock that begins, a release, and a wait that is finished.
use Rattle.std.proofs.Common.{◌≡◌, ◌<◌, ◌≤◌, nat_lt, ℕ, List, Bool, true, false, true≢false, Option, Some, None, Result, Ok, Err, IsErrAnd, IfSome, IsSomeAnd, inr, slice_get, refl, sym, ap, ◌∙◌, subst, arith}
use Rattle.std.proofs.lemmas.Bool.Decides.{nat_tests}
use Rattle.evl_base.specs.Board.{board_fits}
use Rattle.evl_base.specs.declared.call.Call.TheVariants.{Claim as AsksToWait, Release, Raise, Finish}
use Rattle.evl_base.specs.declared.numbers.MutexId.{MutexId}
use Rattle.evl_base.specs.declared.numbers.ThreadId.{ThreadId}
use Rattle.evl_base.specs.declared.refusal.Refusal.{Refusal}
use Rattle.evl_base.specs.declared.reply.Reply.{Reply}
use Rattle.evl_base.specs.declared.reply.Reply.TheVariants.{Begun, Handed, TimedOut}
use Rattle.evl_kernel.specs.histories.Histories.{History, IsLegal}
use Rattle.evl_kernel.specs.state.KernelViews.{KernelView, makes_entry}
use Rattle.evl_kernel.specs.waiting.Waits.{has_ended, has_timed_out, is_timeout}
use Rattle.evl_kernel.proofs.calls.AnswerLaws.{claim_begins, finish_tells, next_is_there}
use Rattle.evl_words.specs.declared.mutex.Claim.TheVariants.{Won, Queued}
use Rattle.evl_words.specs.declared.mutex.MutexPass.{MutexPass}
use Rattle.evl_words.specs.MutexCalls.{IsPassOf, MutexSeatState}
use Rattle.evl_words.specs.declared.mutex.MutexHold.{MutexHold}
use Rattle.evl_machine.specs.declared.locking.Begun.{Begun as LockBegun}
use Rattle.evl_machine.specs.declared.locking.Begun.TheVariants as begun
use Rattle.evl_machine.specs.declared.locking.Ended.TheVariants as ended
use Rattle.evl_core.specs.accounts.Accounts.{threads_of}
use Rattle.evl_machine.specs.callers.Actors.{ActorState, IsSameActor, keeps_stage}
use Rattle.evl_core.specs.words.AtSeats.{AtSeat}
use Rattle.evl_core.specs.accounts.KernelCalls.{Applied, FindsNoRoom, IsRoomier, Reserves}
use Rattle.evl_machine.specs.mutex_locks.Locking.{Begins, EndsWait, EntersNone, EntersOne, Finishes, GivesTo, HaveSeats, RaisesIf, Releases}
use Rattle.evl_core.specs.words.MutexSeats.{AcceptsSo, Claims, ForgetsSo, HasOnce, HasSeat, HasWon, Settles, holds_mutex}
use Rattle.evl_machine.specs.stax_locks.StaxSeats.{holds_stax}
use Rattle.evl_core.proofs.words.SeatLists.{set_there}
use Rattle.evl_machine.proofs.mutex_locks.LockingLaws.{enters_made, no_room, seated_at}

-- who claimed a mutex and won it, may settle
pub won_there : (i : ℕ) (old new : List MutexSeatState) → AtSeat i old new (Claims Won) → HasWon new i
won_there i old new at =
    subst (λ o. IsSomeAnd o (λ (s : MutexSeatState). s.view.held.role ≡ Rattle.evl_words.specs.declared.mutex.MutexRole.TheVariants.Winner))
    (sym (ap (λ (seats : List MutexSeatState). slice_get seats i) at.changed ∙ set_there old i at.was at.is at.there))
    (ap (λ (h : MutexHold). h.role) at.does.1.held)

module _ {C : Type 0} (x a : ActorState) (is : x ≡ a) (k k1 k2 : KernelView C) (ceiling : Bool) (m : MutexId) (until : Option ℕ) (new : List MutexSeatState) (a2 : ActorState) (same : IsSameActor (seated_at x new) a2) (u : Unit {0}) (room : Reserves k (Ok u) k1) where
  -- a lock that was won at a ceiling
  pub begins_raised : (pass : MutexPass) (won : List MutexSeatState) (r : Result Reply Refusal) → ceiling ≡ true → AtSeat m.0 x.mutexes won (Claims Won) → AtSeat m.0 won new (Settles pass)
      → EntersOne k x.thread.0 (Raise m) r k2 → (reply : Reply) × (r ≡ Ok reply) → Begins ceiling a k m until (Ok (begun.Locked pass)) a2 k2
  begins_raised pass won r raises claimed settled entered accepted = subst (λ (z : ActorState). Begins ceiling z k m until (Ok (begun.Locked pass)) a2 k2) is
      (won, claimed, subst (λ seats. AtSeat m.0 won seats (Settles pass)) (sym same.mutexes) settled, subst (λ b. RaisesIf b k x.thread.0 m k2) (sym raises) (accepted.0, subst (λ (r : Result Reply Refusal). EntersOne k x.thread.0 (Raise m) r k2) accepted.1 entered))

  -- a lock that waits
  pub begins_waiting : (owner : ThreadId) (reply : Reply) → AtSeat m.0 x.mutexes new (Claims (Queued owner)) → Applied k1 x.thread.0 (AsksToWait m owner until) (Ok reply) k2
      → Begins ceiling a k m until (Ok begun.Waiting) a2 k2
  begins_waiting owner reply claimed done = subst (λ (z : ActorState). Begins ceiling z k m until (Ok begun.Waiting) a2 k2) is
      (owner, subst (λ seats. AtSeat m.0 x.mutexes seats (Claims (Queued owner))) (sym same.mutexes) claimed, subst (λ (r : Reply). EntersOne k x.thread.0 (AsksToWait m owner until) (Ok r) k2) answered entered)
    where
      entered : EntersOne k x.thread.0 (AsksToWait m owner until) (Ok reply) k2
      entered = enters_made k k1 k2 x.thread.0 (AsksToWait m owner until) (Ok reply) u room done

      answered : reply ≡ Begun
      answered = claim_begins k.history.state k2.history.state x.thread.0 m owner until reply entered.1.0 entered.1.1.extends.step.1

  -- a wait that the kernel refused
  pub begins_refused : (owner : ThreadId) (refusal : Refusal) (r : Result LockBegun Refusal) → IsErrAnd r (λ f. f ≡ refusal) → AtSeat m.0 x.mutexes new (Claims (Queued owner)) → Applied k1 x.thread.0 (AsksToWait m owner until) (Err refusal) k2
      → Begins ceiling a k m until r a2 k2
  begins_refused owner refusal (Ok z) is_err claimed done = absurd is_err
  begins_refused owner refusal (Err why) is_err claimed done = subst (λ (z : ActorState × Refusal). Begins ceiling z.0 k m until (Err z.1) a2 k2) (λ i. (is i, sym is_err i))
      (inr (owner, subst (λ seats. AtSeat m.0 x.mutexes seats (Claims (Queued owner))) (sym same.mutexes) claimed, enters_made k k1 k2 x.thread.0 (AsksToWait m owner until) (Err refusal) u room done))

some_seat : (n next i : ℕ) (seats : List MutexSeatState) (P : MutexSeatState → Type 0) → HaveSeats n seats → IsSomeAnd (slice_get seats i) P → next < n → HasSeat seats i next
some_seat n next i seats P have there less = by (slice_get seats i) refl there
  where
    by : (o : Option MutexSeatState) → slice_get seats i ≡ o → IsSomeAnd o P → IsSomeAnd o (λ (s : MutexSeatState). next < s.view.held.seats)
    by None is none = absurd none
    by (Some s) is has = let same = have i s is in omega (arith, same, less)

-- whom the kernel names has a seat at the word
pub next_named : {C : Type 0} (k k2 : KernelView C) (a a2 : ActorState) (m : MutexId) (pass : MutexPass) (r : Result Reply Refusal) (next : Option ThreadId) (more : Bool) → IsSameActor a a2 → IsLegal k.history
    → board_fits k.history.board ≡ true → HaveSeats (threads_of k.history) a.mutexes → HasOnce a.mutexes pass → Applied k a.thread.0 (Release m) r k2 → r ≡ Ok (Handed next more) → IfSome next (λ n. HasSeat a2.mutexes pass.mutex.0 n.0)
next_named k k2 a a2 m pass r None more same legal fits have once done told = tt
next_named {C} k k2 a a2 m pass r (Some next) more same legal fits have once done told =
    let named : Applied k a.thread.0 (Release m) (Ok (Handed (Some next) more)) k2 = subst (λ (r : Result Reply Refusal). Applied k a.thread.0 (Release m) r k2) told done in
    let entered = named.entered refl in
    let less : next.0 < threads_of k.history = next_is_there k.history k2.history.state a.thread.0 m next more entered.0 legal fits entered.1.extends.step.1 in
    subst (λ (z : List MutexSeatState). HasSeat z pass.mutex.0 next.0) (sym same.mutexes) (some_seat (threads_of k.history) next.0 pass.mutex.0 a.mutexes (λ s. IsPassOf pass s × (s.depth ≡ 1)) have once less)

is_timed_out : (r : Reply) → is_timeout r ≡ true → r ≡ TimedOut
is_timed_out TimedOut is = refl
is_timed_out _ is = absurd (cc)

-- who isn't outside is on the board
not_outside : (n t : ℕ) (b : Bool) → b ≡ true → (n ≤ t → b ≡ false) → t < n
not_outside n t b is outside = by (nat_lt t n) refl
  where
    by : (c : Bool) → nat_lt t n ≡ c → t < n
    by true less = grind (arith, nat_tests)
    by false far = let past : n ≤ t = grind (arith, nat_tests) in absurd (true≢false (sym is ∙ outside past))

module _ {C : Type 0} (k : KernelView C) (t : ℕ) (b : Bool) where
  -- what the kernel's readers said of a wait
  pub is_ended : (read : KernelView C) → read ≡ k → b ≡ has_ended read.history.state t → b ≡ true → has_ended k.history.state t ≡ true
  is_ended read same told is = ap (λ (k : KernelView C). has_ended k.history.state t) (sym same) ∙ (sym told ∙ is)

  pub on_board : (read : KernelView C) → read ≡ k → b ≡ true → (threads_of read.history ≤ t → b ≡ false) → t < threads_of k.history
  on_board read same is outside = not_outside (threads_of k.history) t b is (subst (λ (k : KernelView C). threads_of k.history ≤ t → b ≡ false) same outside)

  pub is_timed : (k1 read : KernelView C) (v : Bool) → IsRoomier k k1 → read ≡ k1 → b ≡ has_timed_out read.history.state t → b ≡ v → has_timed_out k.history.state t ≡ v
  is_timed k1 read v room same told is = ap (λ (h : History). has_timed_out h.state t) (sym (ap (λ (k : KernelView C). k.history) same ∙ room.history)) ∙ (sym told ∙ is)

module _ {C : Type 0} (x a : ActorState) (is : x ≡ a) (k k1 k2 : KernelView C) (m : MutexId) (new : List MutexSeatState) (a2 : ActorState) (same : IsSameActor (seated_at x new) a2) (u : Unit {0}) (room : Reserves k (Ok u) k1)
    (legal : IsLegal k.history) (fits : board_fits k.history.board ≡ true) (below : x.thread.0 < threads_of k.history) (over : has_ended k.history.state x.thread.0 ≡ true)
    (r : Result Reply Refusal) (done : Applied k1 x.thread.0 (Finish (keeps_stage (holds_stax x.staxes) (holds_mutex new))) r k2) where
  abbrev keeps : Bool
  keeps = keeps_stage (holds_stax x.staxes) (holds_mutex new)

  entered : EntersOne k x.thread.0 (Finish keeps) r k2
  entered = enters_made k k1 k2 x.thread.0 (Finish keeps) r u room done

  tells : (reply : Reply) × (r ≡ Ok reply) × (has_timed_out k.history.state x.thread.0 ≡ is_timeout reply)
  tells = finish_tells k.history k2.history.state x.thread.0 keeps r entered.1.0 legal fits below over entered.1.1.extends.step.1

  ends : (reply : Reply) → r ≡ Ok reply → EndsWait x k reply a2 k2
  ends reply told =
      subst (λ (seats : List MutexSeatState). EntersOne k x.thread.0 (Finish (keeps_stage (holds_stax x.staxes) (holds_mutex seats))) (Ok reply) k2) (sym same.mutexes)
      (subst (λ (r : Result Reply Refusal). EntersOne k x.thread.0 (Finish keeps) r k2) told entered)

  -- a wait whose deadline came first
  pub finishes_late : AtSeat m.0 x.mutexes new (ForgetsSo (Ok tt)) → has_timed_out k.history.state x.thread.0 ≡ true → Finishes a k m (Ok ended.TimedOut) a2 k2
  finishes_late forgets timed = subst (λ (z : ActorState). Finishes z k m (Ok ended.TimedOut) a2 k2) is
      (subst (λ seats. AtSeat m.0 x.mutexes seats (ForgetsSo (Ok tt))) (sym same.mutexes) forgets, ends TimedOut (tells.1 ∙ ap Ok (is_timed_out tells.0 (sym tells.2 ∙ timed))))

  -- a wait that ended with the mutex
  pub finishes_locked : (pass : MutexPass) → AtSeat m.0 x.mutexes new (AcceptsSo (Ok pass)) → has_timed_out k.history.state x.thread.0 ≡ false → Finishes a k m (Ok (ended.Locked pass)) a2 k2
  finishes_locked pass accepts timed = subst (λ (z : ActorState). Finishes z k m (Ok (ended.Locked pass)) a2 k2) is
      (subst (λ seats. AtSeat m.0 x.mutexes seats (AcceptsSo (Ok pass))) (sym same.mutexes) accepts, (tells.0, sym tells.2 ∙ timed, ends tells.0 tells.1))

module _ {C : Type 0} (a a1 : ActorState) (same : IsSameActor a a1) (k k' : KernelView C) (pass : MutexPass) (m : MutexId) (is : m ≡ pass.mutex) (r : Result Reply Refusal) (done : Applied k a.thread.0 (Release m) r k') where
  -- a release that was entered
  pub release_entered : (s : Result Reply Refusal) → r ≡ s → makes_entry s ≡ true → EntersOne k a.thread.0 (Release pass.mutex) s k'
  release_entered s told entry =
      let d : Applied k a.thread.0 (Release pass.mutex) s k' = subst (λ (z : MutexId × Result Reply Refusal). Applied k a.thread.0 (Release z.0) z.1 k') (λ i. (is i, told i)) done in
      (entry, d.entered entry)

  -- and after which the word was given
  pub releases_on : (next : Option ThreadId) (more : Bool) (a2 : ActorState) → r ≡ Ok (Handed next more) → AtSeat pass.mutex.0 a1.mutexes a2.mutexes (GivesTo next more) → Releases a k pass (Ok tt) a2 k'
  releases_on next more a2 told at = (next, more, release_entered (Ok (Handed next more)) told refl, subst (λ seats. AtSeat pass.mutex.0 seats a2.mutexes (GivesTo next more)) same.mutexes at)

  -- one that is never refused with an entry
  pub releases_not : (refusal : Refusal) → r ≡ Err refusal → (EntersOne k a.thread.0 (Release pass.mutex) (Err refusal) k' → ⊥) → EntersNone k k' × FindsNoRoom k refusal
  releases_not refusal told never =
      no_room k k' a.thread.0 (Release pass.mutex) refusal never (subst (λ (z : MutexId × Result Reply Refusal). Applied k a.thread.0 (Release z.0) z.1 k') (λ i. (is i, told i)) done)
