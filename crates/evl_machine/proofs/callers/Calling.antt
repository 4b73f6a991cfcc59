-- A call of the kernel between a take and a give.
use Rattle.std.proofs.Common.{◌≡◌, ◌≢◌, ◌+◌, ℕ, List, [], ◌∷◌, ◌++◌, Bool, true, false, true≢false, None, Result, Ok, Err, length, refl, sym, ap, ◌∙◌, subst, arith}
use Rattle.std.proofs.lemmas.List.{append-nil}
use lib.ListN.{get_elem?}
use Rattle.evl_base.specs.declared.numbers.ThreadId.{ThreadId}
use Rattle.evl_base.specs.declared.call.Call.{Call}
use Rattle.evl_base.specs.declared.entry.Entry.{Entry}
use Rattle.evl_base.specs.declared.reply.Reply.{Reply}
use Rattle.evl_base.specs.declared.play.Play.{Play}
use Rattle.evl_base.specs.declared.refusal.Refusal.{Refusal}
use Rattle.evl_base.specs.declared.refusal.Refusal.TheVariants.{NoMemory, HistoryFull, CoreBusy}
use Rattle.evl_kernel.specs.histories.Histories.{History}
use Rattle.evl_kernel.specs.state.Callbacks.{BringsNone, handlers_in}
use Rattle.evl_kernel.specs.state.KernelViews.{KernelView, IsKernelAnswer, Adds, entry_of, makes_entry}
use Rattle.evl_core.specs.lock.Lock.{LockView}
use Rattle.evl_core.specs.declared.views.Account.{Account}
use Rattle.evl_core.specs.accounts.Accounts.{GoesOn, IsAccount, MadeBy, Fits, saw, up_to_date, calls_by, lost_one}
use Rattle.evl_core.specs.accounts.Seats.{CoreMe, after_take, Taken, Continues, holding, resting, account_of, IsCaller, IsHeld}
use Rattle.evl_core.specs.rule.Known.{past_of, room_of}
use Rattle.evl_machine.specs.calls.Calls.{ActsOnCore, completes, Enters, Answered}
use Rattle.evl_core.specs.accounts.KernelCalls.{Applied}
use Rattle.evl_core.specs.worlds.Events.{FailsToTake, Gives, Takes}
use Rattle.evl_core.proofs.accounts.Accounts.{goes_on_threads, strangers_more, saw_account, goes_on_none, goes_on_more, made_by-append, starts_whole, starts_longer, calls_by-append, calls_by-own}
use Rattle.evl_machine.specs.callers.Actors.{ActorState, Suits}
use Rattle.evl_machine.proofs.callers.Staying.{fits_stage, suits_found}

-- what adds an entry goes on by it
pub adds_goes_on : (h new : History) (t : ℕ) (c : Call) (r : Result Reply Refusal) (plays : List Play) → Adds h t c r plays new → GoesOn h (entry_of t c r plays ∷ []) new
adds_goes_on h new t c r plays a = record {
  plays = plays;
  board = a.extends.board;
  bank = a.extends.bank;
  entries_are = a.extends.entries;
  plays_are = a.extends.plays_too;
  run = (plays, [], new.state, sym (append-nil plays), a.extends.step, (refl, refl));
}

-- of a kernel's answers just those without an entry don't complete
completes_as : (r : Result Reply Refusal) → IsKernelAnswer r → completes r ≡ makes_entry r
completes_as (Ok reply) is = refl
completes_as (Err CoreBusy) is = absurd is
completes_as (Err _) is = refl

-- a lost take changes nothing of what holds of a caller's account
pub lost_account : (a : Account) → IsAccount a → IsAccount (lost_one a)
lost_account a is = record { legal = is.legal; member = is.member; mine = is.mine; strangers = is.strangers }

-- where the core was busy one take more is lost, and nothing else has changed
pub calls_none : (limit : ℕ) (a : Account) (c : Call) → IsAccount a → Answered limit a c (Err CoreBusy) (lost_one a)
calls_none limit a c is = record {
  thread = refl;
  account = lost_account a is;
  later = starts_whole a.seen;
  entered = λ t. absurd (true≢false (sym t));
  refused = λ _. refl;
  busy = λ _. refl;
  lost = λ ne. absurd (ne refl);
  taken = λ ne. absurd (ne refl);
  full = λ e. absurd (cc);
  memory = λ e. absurd (cc);
}

-- what a caller knows once it gave back a kernel that goes on from the one that it took
pub given_account : (a : Account) (h : History) → Continues a h → IsAccount (up_to_date h a)
given_account a h c = record {
  legal = c.legal;
  member = let same = goes_on_threads a.seen h c.added c.longer in let m = c.before.member in omega arith;
  mine = refl;
  strangers = strangers_more a.seen h c.added a.thread c.longer c.own c.before.member c.before.strangers;
}

-- the kernel itself never says that the core is busy
never_busy : (r : Result Reply Refusal) → IsKernelAnswer r → r ≢ Err CoreBusy
never_busy r is busy = absurd (subst IsKernelAnswer busy is)

module _ {C : Type 0} where
  pub found_taken : (first : KernelView C) (a : Account) (l : LockView) (a' : Account) (l' : LockView) → FailsToTake first a l a' l' → ActsOnCore first a l (Err CoreBusy) a' l'
  found_taken first a l a' l' fails = record { busy = λ _. fails; free = λ ne. absurd (ne refl) }

  -- the seat's own place for the machine's first kernel stays as it was by the take
  pub took_and_gave : (first now : KernelView C) (a : Account) (l : LockView) (held : Account) (between : LockView) (a' : Account) (l' : LockView) (r : Result Reply Refusal) (k : KernelView C) → IsKernelAnswer r → Takes first a l held between → now ≡ first → Gives now held between k a' l' → ActsOnCore first a l r a' l'
  took_and_gave first now a l held between a' l' r k is takes same gives = record {
    busy = λ busy. absurd (never_busy r is busy);
    free = λ _. (held, between, k, takes, subst (λ (x : KernelView C). Gives x held between k a' l') same gives);
  }

  -- the account once the kernel was taken, and once it was given back after a call
  abbrev pub took : KernelView C → Account → Account
  took k a = saw k.history k.room a

  abbrev pub gave : KernelView C → KernelView C → Account → Account
  gave k k' a = up_to_date k'.history (took k a)

  abbrev out_of : KernelView C → CoreMe (KernelView C) → CoreMe (KernelView C)
  out_of k m = (after_take k.history k.room m.0, (0, None) ∷ [])

  abbrev pub TakenOut : CoreMe (KernelView C) → KernelView C → CoreMe (KernelView C) → Type 0
  TakenOut = Taken past_of room_of

  -- the seat after a take, where it had one account
  pub takes_hold : (a : Account) (k : KernelView C) (me me' : CoreMe (KernelView C)) → me ≡ resting a → TakenOut me k me' → me' ≡ holding (took k a)
  takes_hold a k me me' rests t = t.now ∙ ap (out_of k) rests

  pub fits_one : (a : Account) (k : KernelView C) (me me' : CoreMe (KernelView C)) → me ≡ resting a → TakenOut me k me' → Fits k.history a
  fits_one a k me me' rests t = t.fits 0 a (ap (λ (m : CoreMe (KernelView C)). get_elem? m.0.accounts 0) rests)

  pub took_account : (a : Account) (k : KernelView C) (me me' : CoreMe (KernelView C)) → me ≡ resting a → IsAccount a → TakenOut me k me' → IsAccount (took k a)
  took_account a k me me' rests is t = saw_account k.history k.room a t.legal t.strangers (fits_one a k me me' rests t) is

  -- the entries that a call added
  pub record Added (a : Account) (k k' : KernelView C) : Type 0 where
    pub added : List Entry
    pub longer : GoesOn k.history added k'.history
    pub own : MadeBy a.thread added

  pub added_by : (a : Account) (c : Call) (r : Result Reply Refusal) (k k' : KernelView C) → Applied k a.thread c r k' → (b : Bool) → makes_entry r ≡ b → Added a k k'
  added_by a c r k k' done true is = let e = done.entered is in record { added = entry_of a.thread c r e.0 ∷ []; longer = adds_goes_on k.history k'.history a.thread c r e.0 e.1; own = (refl, tt) }
  added_by a c r k k' done false is = record { added = []; longer = subst (λ (h : History). GoesOn k.history [] h) (sym (done.refused is)) (goes_on_none k.history); own = tt }

  pub continues : (a : Account) (c : Call) (r : Result Reply Refusal) (k k' : KernelView C) → IsAccount (took k a) → Applied k a.thread c r k' → Continues (took k a) k'.history
  continues a c r k k' is done = let x = added_by a c r k k' done (makes_entry r) refl in record {
    added = x.added;
    longer = x.longer;
    own = x.own;
    legal = done.legal;
    before = is;
  }

  pub mine_after : (a : Account) (k k' : KernelView C) (added : List Entry) → Fits k.history a → GoesOn k.history added k'.history → MadeBy a.thread added → calls_by a.thread k'.history.entries ≡ a.mine ++ added
  mine_after a k k' added f longer own =
      ap (calls_by a.thread) longer.entries_are ∙ (calls_by-append a.thread k.history.entries added ∙ (ap (λ (h : List Entry). h ++ calls_by a.thread added) f.mine ∙ ap (λ (h : List Entry). a.mine ++ h) (calls_by-own a.thread added own)))

  enters : (a : Account) (c : Call) (r : Result Reply Refusal) (k k' : KernelView C) → IsAccount a → Fits k.history a → Applied k a.thread c r k' → makes_entry r ≡ true → Enters a c r (gave k k' a)
  enters a c r k k' was f done is = let e = done.entered is in record {
    before = k.history;
    later = f.seen;
    stage = fits_stage a k.history was f;
    plays = e.0;
    adds = e.1;
    mine = mine_after a k k' (entry_of a.thread c r e.0 ∷ []) f (adds_goes_on k.history k'.history a.thread c r e.0 e.1) (refl, tt);
  }

  stays : (a : Account) (c : Call) (r : Result Reply Refusal) (k k' : KernelView C) → Fits k.history a → Applied k a.thread c r k' → makes_entry r ≡ false → calls_by a.thread k'.history.entries ≡ a.mine
  stays a c r k k' f done is = ap (λ (h : History). calls_by a.thread h.entries) (done.refused is) ∙ f.mine

  has_room : (c : Call) (r : Result Reply Refusal) (t : ℕ) (k k' : KernelView C) → Applied k t c r k' → r ≡ Err NoMemory → length k'.history.entries ≢ k.limit
  has_room c r t k k' done e full = let other : Err NoMemory ≡ Err HistoryFull = sym e ∙ done.filled (sym (ap (λ (h : History). length h.entries) (done.refused (ap makes_entry e))) ∙ full) in absurd (cc)

  pub calls : (limit : ℕ) (a : Account) (c : Call) (r : Result Reply Refusal) (k k' : KernelView C) → k.limit ≡ limit → IsAccount a → Fits k.history a → IsAccount (took k a) → Applied k a.thread c r k' → Answered limit a c r (gave k k' a)
  calls limit a c r k k' same was f is done = let x = added_by a c r k k' done (makes_entry r) refl in let as_entry = completes_as r done.answers in record {
    thread = refl;
    account = given_account (took k a) k'.history (continues a c r k k' is done);
    later = starts_longer k.history k'.history a.seen x.added x.longer f.seen;
    entered = λ is. enters a c r k k' was f done (sym as_entry ∙ is);
    refused = λ is. stays a c r k k' f done (sym as_entry ∙ is);
    busy = λ e. absurd (subst IsKernelAnswer e done.answers);
    lost = λ _. refl;
    taken = λ _. (k.room, refl);
    full = λ e. ap (λ (h : History). length h.entries) (done.refused (ap makes_entry e)) ∙ (done.full e ∙ same);
    memory = λ e. (ap (λ n. a.found ++ n ∷ []) (done.memory e), λ full. has_room c r a.thread k k' done e (full ∙ sym same));
  }

  applied_by : (me : CoreMe (KernelView C)) (thread : ThreadId) (c : Call) (r : Result Reply Refusal) (k k' : KernelView C) → IsCaller me thread → Applied k thread.0 c r k' → Applied k (account_of me).thread c r k'
  applied_by me thread c r k k' is done = subst (λ (t : ℕ). Applied k t c r k') (sym is.own) done

  pub is_caller : (b : Account) (me : CoreMe (KernelView C)) (thread : ThreadId) → me ≡ resting b → b.thread ≡ thread.0 → IsAccount b → IsCaller me thread
  is_caller b me thread e own is = let s : account_of me ≡ b = ap account_of e in record {
    rests = e ∙ ap resting (sym s);
    own = ap (λ (x : Account). x.thread) s ∙ own;
    account = subst IsAccount (sym s) is;
  }

  -- the seat after a take, a call and a give
  given_back : (me me' me'' : CoreMe (KernelView C)) (k k' : KernelView C) → me ≡ resting (account_of me) → TakenOut me k me' → me'' ≡ resting (up_to_date k'.history (account_of me')) → me'' ≡ resting (gave k k' (account_of me))
  given_back me me' me'' k k' rests t now =
      let s : account_of me' ≡ took k (account_of me) = ap account_of (takes_hold (account_of me) k me me' rests t) in now ∙ ap (λ (x : Account). resting (up_to_date k'.history x)) s

  pub called : (limit : ℕ) (me me' me'' : CoreMe (KernelView C)) (thread : ThreadId) (c : Call) (r : Result Reply Refusal) (k k' : KernelView C) → k.limit ≡ limit → IsCaller me thread → TakenOut me k me' → Applied k thread.0 c r k'
      → me'' ≡ resting (up_to_date k'.history (account_of me')) → Answered limit (account_of me) c r (account_of me'')
  called limit me me' me'' thread c r k k' same is t done now =
      subst (λ (x : Account). Answered limit (account_of me) c r x) (sym (ap account_of (given_back me me' me'' k k' is.rests t now)))
      (calls limit (account_of me) c r k k' same is.account (fits_one (account_of me) k me me' is.rests t) (took_account (account_of me) k me me' is.rests is.account t) (applied_by me thread c r k k' is done))

  -- the caller of a seat whose take was lost
  pub lost_caller : (me me' : CoreMe (KernelView C)) (thread : ThreadId) → IsCaller me thread → me' ≡ resting (lost_one (account_of me)) → IsCaller me' thread
  lost_caller me me' thread is lost = is_caller (lost_one (account_of me)) me' thread lost is.own (lost_account (account_of me) is.account)

  pub called_none : (limit : ℕ) (me me' : CoreMe (KernelView C)) (thread : ThreadId) (c : Call) → IsCaller me thread → me' ≡ resting (lost_one (account_of me)) → Answered limit (account_of me) c (Err CoreBusy) (account_of me')
  called_none limit me me' thread c is same = subst (λ (m : CoreMe (KernelView C)). Answered limit (account_of me) c (Err CoreBusy) (account_of m)) (sym same) (calls_none limit (account_of me) c is.account)

  -- a caller that takes the kernel, calls it and gives it back
  pub is_held : (me me' : CoreMe (KernelView C)) (thread : ThreadId) (k : KernelView C) → IsCaller me thread → TakenOut me k me' → IsHeld me' thread k
  is_held me me' thread k is t =
      let a = account_of me in
      let e = takes_hold a k me me' is.rests t in
      let s : account_of me' ≡ took k a = ap account_of e in record {
        holds = e ∙ ap holding (sym s);
        own = ap (λ (x : Account). x.thread) s ∙ is.own;
        continues = subst (λ (x : Account). Continues x k.history) (sym s) (record { added = []; longer = goes_on_none k.history; own = tt; legal = t.legal; before = took_account a k me me' is.rests is.account t });
      }

  pub held_applied : (me : CoreMe (KernelView C)) (thread : ThreadId) (c : Call) (r : Result Reply Refusal) (k k' : KernelView C) → IsHeld me thread k → Applied k thread.0 c r k' → IsHeld me thread k'
  held_applied me thread c r k k' is done =
      let a = account_of me in
      let x = added_by a c r k k' (subst (λ (t : ℕ). Applied k t c r k') (sym is.own) done) (makes_entry r) refl in
      let was = is.continues in record {
        holds = is.holds;
        own = is.own;
        continues = record {
          added = was.added ++ x.added;
          longer = goes_on_more a.seen k.history k'.history was.added x.added was.longer x.longer;
          own = made_by-append a.thread was.added x.added was.own x.own;
          legal = done.legal;
          before = was.before;
        };
      }

  pub gives_caller : (me me' : CoreMe (KernelView C)) (thread : ThreadId) (k : KernelView C) → IsHeld me thread k → me' ≡ resting (up_to_date k.history (account_of me)) → IsCaller me' thread
  gives_caller me me' thread k is now = is_caller (up_to_date k.history (account_of me)) me' thread now is.own (given_account (account_of me) k.history is.continues)
