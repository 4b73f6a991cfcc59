-- The outcome of a caller's looks and of the end of its wait.
use Rattle.std.proofs.Common.{◌≡◌, ◌≢◌, ℕ, List, [], ◌∷◌, ◌++◌, not, Bool, true, false, true≢false, Option, Some, None, Result, Ok, Err, MatchOption, if◌then◌else◌, refl, sym, ap, ◌∙◌, subst, inl, inr, ⊎_elim}
use Rattle.evl_base.specs.declared.call.Call.{Call}
use Rattle.evl_base.specs.declared.call.Call.TheVariants.{Finish}
use Rattle.evl_base.specs.declared.entry.Entry.{Entry}
use Rattle.evl_base.specs.declared.numbers.ThreadId.{ThreadId}
use Rattle.evl_base.specs.declared.refusal.Refusal.{Refusal}
use Rattle.evl_base.specs.declared.refusal.Refusal.TheVariants.{Again, Invalid}
use Rattle.evl_base.specs.declared.reply.Reply.{Reply}
use Rattle.evl_kernel.specs.state.KernelViews.{KernelView, entry_of}
use Rattle.evl_kernel.specs.waiting.Waits.{has_ended}
use Rattle.evl_machine.specs.declared.unfinished.Unfinished.{Unfinished}
use Rattle.evl_machine.specs.declared.unfinished.Unfinished.TheVariants.{Element}
use Rattle.evl_machine.specs.declared.unfinished.WaitStep.{WaitStep}
use Rattle.evl_machine.specs.declared.unfinished.WaitStep.TheVariants.{Begins}
use Rattle.evl_core.specs.lock.Lock.{LockView}
use Rattle.evl_core.specs.declared.views.Account.{Account}
use Rattle.evl_core.specs.accounts.Accounts.{IsAccount, up_to_date}
use Rattle.evl_machine.specs.callers.Actors.{SeatedActor, call_refusal, keeps_stage, same_truth}
use Rattle.evl_machine.specs.calls.Calls.{Called, CalledAtLast, Enters, IsTurnedAway, KernelCall, own_refusal, wait_of_caller}
use Rattle.evl_machine.specs.callers.Handles.{CallerState}
use Rattle.evl_core.specs.accounts.Seats.{account_of}
use Rattle.evl_machine.specs.callers.InHand.{Opens}
use Rattle.evl_core.specs.rule.Known.{KernelMe, first_of, seen, lock_in}
use Rattle.evl_core.specs.words.MutexSeats.{holds_mutex}
use Rattle.evl_machine.specs.stax_locks.StaxSeats.{holds_stax}
use Rattle.evl_machine.specs.callers.Unfinished.{unfinished_wait, unfinished_from, wait_after, wait_step}
use Rattle.evl_machine.specs.calls.Waitings.{Look, Looked, Looks, LooksBy, WaitsOut, begins_wait, finish_of}
use Rattle.evl_core.specs.worlds.Events.{FailsToTake, Gives, LosesTakes, Takes}
use Rattle.evl_machine.proofs.callers.Calling.{took}
use Rattle.evl_machine.proofs.callers.Staying.{fits_stage}

module _ {C : Type 0} (first : KernelView C) where
  looks_by_more : (a : Account) (l : LockView) (xs : List (Account × LockView)) (b : Account) (m : LockView) (ys : List (Account × LockView)) (c : Account) (n : LockView) → LooksBy first a l xs b m → LooksBy first b m ys c n → LooksBy first a l (xs ++ ys) c n
  looks_by_more a l [] b m ys c n same more = subst (λ (z : Account × LockView). LooksBy first z.0 z.1 ys c n) (λ i. (same.0 i, same.1 i)) more
  looks_by_more a l (x ∷ xs) b m ys c n (one, rest) more = (one, looks_by_more x.0 x.1 xs b m ys c n rest more)

  -- looks, and then looks
  pub looks_more : (a : Account) (l : LockView) (b : Account) (m : LockView) (c : Account) (n : LockView) → Looks first a l b m → Looks first b m c n → Looks first a l c n
  looks_more a l b m c n (xs, before) (ys, after) = (xs ++ ys, looks_by_more a l xs b m ys c n before after)

  -- looks and lost takes leave the caller's own calls
  mine_stays : (a : Account) (l : LockView) (xs : List (Account × LockView)) (b : Account) (m : LockView) → LooksBy first a l xs b m → b.mine ≡ a.mine
  mine_stays a l [] b m same = ap (λ (x : Account). x.mine) same.0
  mine_stays a l (x ∷ xs) b m (one, rest) = mine_stays x.0 x.1 xs b m rest
      ∙ ⊎_elim (λ (look : Look first a l x.0 x.1). ap (λ (y : Account). y.mine) look.now) (λ (fails : FailsToTake first a l x.0 x.1). ap (λ (y : Account). y.mine) fails.0) one

  pub lost_mine : (a : Account) (l : LockView) (lost : List (Account × LockView)) (b : Account) (m : LockView) → LosesTakes first a l lost b m → b.mine ≡ a.mine
  lost_mine a l [] b m same = ap (λ (x : Account). x.mine) same.0
  lost_mine a l (x ∷ xs) b m (rest, fails) = ap (λ (y : Account). y.mine) fails.0 ∙ lost_mine a l xs x.0 x.1 rest

  -- a take that was lost, of a caller that looks
  pub look_lost : (a : Account) (l : LockView) (a' : Account) (l' : LockView) → FailsToTake first a l a' l' → Looks first a l a' l'
  look_lost a l a' l' fails = ((a', l') ∷ [], (inr fails, (refl, refl)))

module _ {C : Type 0} where
  -- what a caller knows that took the kernel and gave it back, between which no call was made
  pub look_opened : (first : KernelView C) (a : Account) (l : LockView) (thread : ThreadId) (me : KernelMe C) (k : KernelView C) → Opens first a thread me k → has_ended k.history.state thread.0 ≡ false → (a' : Account) (l' : LockView) → a' ≡ up_to_date k.history (account_of (seen me))
      → Takes first a l (account_of (seen me)) (lock_in me.0) → Gives (first_of me.0) (account_of (seen me)) (lock_in me.0) k a' l' → Looks first a l a' l'
  look_opened first a l thread me k opens going a' l' now takes gives =
      let f = opens.fits in
      let own : a.thread ≡ thread.0 = sym (ap (λ (y : Account). y.thread) opens.account) ∙ opens.held.own in
      let same : a' ≡ took k a = now ∙ (ap (up_to_date k.history) opens.account ∙ (λ i. record (took k a) { mine = f.mine i })) in
      let one : Look first a l (took k a) l' = record {
        room = k.room;
        now = refl;
        later = f.seen;
        stage = fits_stage a k.history opens.was f;
        goes_on = ap (has_ended k.history.state) own ∙ going;
        account = subst IsAccount opens.account opens.held.continues.before;
        held = account_of (seen me);
        between = lock_in me.0;
        kernel = k;
        takes = takes;
        gives = subst (λ (z : KernelView C × Account). Gives z.0 (account_of (seen me)) (lock_in me.0) k z.1 l') (λ i. (opens.first_is i, same i)) gives;
      } in
      subst (λ (y : Account). Looks first a l y l') (sym same) ((took k a, l') ∷ [], (inl one, (refl, refl)))

  -- what the kernel's reader said of a wait
  pub goes_on : (k read : KernelView C) (x a : SeatedActor C) (b : Bool) → x ≡ a → read ≡ k → b ≡ has_ended read.history.state x.thread.0 → b ≡ false → has_ended k.history.state a.thread.0 ≡ false
  goes_on k read x a b are same told is = subst (λ (z : SeatedActor C). has_ended k.history.state z.thread.0 ≡ false) are (ap (λ (k : KernelView C). has_ended k.history.state x.thread.0) (sym same) ∙ (sym told ∙ is))

keeps_as_held : (keep : Bool) → (if not (same_truth keep keep) then Some Invalid else None) ≡ None
keeps_as_held true = refl
keeps_as_held false = refl

-- who waits for an element finishes its wait as it keeps its stage
pub may_finish : (wait : Option Unfinished) (stax mutex keep : Bool) → wait ≡ Some Element → keep ≡ keeps_stage stax mutex → call_refusal wait stax mutex (Finish keep) ≡ None
may_finish wait stax mutex keep waits is = (λ i. call_refusal (waits i) stax mutex (Finish (is i))) ∙ keeps_as_held (keeps_stage stax mutex)

after_one : (w : Option Unfinished) (xs : List Entry) (e : Entry) → unfinished_from w (xs ++ e ∷ []) ≡ wait_after (unfinished_from w xs) (wait_step e.call) e.reply
after_one w [] e = refl
after_one w (x ∷ xs) e = after_one (wait_after w (wait_step x.call) x.reply) xs e

module _ {C : Type 0} where
  -- a wait for an element may be finished by its caller
  finish_is_free : (c : CallerState C) → wait_of_caller c ≡ Some Element → own_refusal c (finish_of c) ≡ None
  finish_is_free c waits = ap (λ w. call_refusal w (holds_stax c.staxes) (holds_mutex c.mutexes) (finish_of c)) waits ∙ keeps_as_held (keeps_stage (holds_stax c.staxes) (holds_mutex c.mutexes))

  finishes : (limit : ℕ) (c : CallerState C) (r : Result Reply Refusal) (new : CallerState C) → wait_of_caller c ≡ Some Element → KernelCall limit c (finish_of c) r new → Called limit c (finish_of c) r new
  finishes limit c r new waits call = subst (λ o. MatchOption o (KernelCall limit c (finish_of c) r new) (λ refusal. (r ≡ Err refusal) × (new ≡ c))) (sym (finish_is_free c waits)) call

  pub looked_more : (a b c : CallerState C) → Looked a b → Looked b c → Looked a c
  looked_more a b c (same, before) (still, after) = (
    still ∙ (λ i. record (same i) { account = c.account; lock = c.lock }),
    looks_more a.machine.first a.account a.lock b.account b.lock c.account c.lock before (subst (λ (s : CallerState C). Looks s.machine.first b.account b.lock c.account c.lock) same after),
  )

  -- a caller that has looked waits for what it waited for
  pub still_waits : (old over : CallerState C) → wait_of_caller old ≡ Some Element → Looked old over → wait_of_caller over ≡ Some Element
  still_waits old over waits looked = ap unfinished_wait (mine_stays old.machine.first old.account old.lock looked.1.0 over.account over.lock looked.1.1) ∙ waits

  -- a caller that has looked finishes its wait
  pub waits_out : (limit : ℕ) (old over : CallerState C) (r : Result Reply Refusal) (new : CallerState C) → wait_of_caller old ≡ Some Element → Looked old over → KernelCall limit over (finish_of over) r new → r ≢ Err Again → WaitsOut limit old r new
  waits_out limit old over r new waits looked call told = record {
    over = over;
    looked = looked;
    finished = finishes limit over r new (still_waits old over waits looked) call;
    told = told;
  }

  -- what an answer that begins a wait leaves unfinished
  pub begun_waits : (limit : ℕ) (old : CallerState C) (begin : Call) (r : Result Reply Refusal) (new : CallerState C) → wait_step begin ≡ Begins Element → begins_wait r ≡ true → CalledAtLast limit old begin r new → wait_of_caller new ≡ Some Element
  begun_waits limit old begin (Err refusal) new begins is called = absurd (true≢false (sym is))
  begun_waits limit old begin (Ok reply) new begins is called = by (own_refusal old begin) called
    where
      by : (o : Option Refusal) → MatchOption o ((last : CallerState C) × IsTurnedAway old last × KernelCall limit last begin (Ok reply) new) (λ refusal. (◌≡◌ {A = Result Reply Refusal} (Ok reply) (Err refusal)) × (new ≡ old)) → wait_of_caller new ≡ Some Element
      by None (last, away, (same, answered, acted)) =
          let e : Enters last.account begin (Ok reply) new.account = answered.entered refl in
          let entry = entry_of last.account.thread begin (Ok reply) e.plays in
          ap unfinished_wait e.mine ∙ (after_one None last.account.mine entry ∙ ap (λ (s : WaitStep). wait_after (unfinished_wait last.account.mine) s (Ok reply)) begins)
      by (Some refusal) (other, same) = absurd (cc)
