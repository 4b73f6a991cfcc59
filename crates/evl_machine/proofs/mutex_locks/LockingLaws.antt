-- A caller that has the kernel in hand: what goes along with it, step by step.
use Rattle.std.proofs.Common.{◌≡◌, ℕ, List, [], true, Result, Ok, Err, length, map, refl, sym, ap, ◌∙◌, subst, arith}
use Rattle.evl_base.specs.declared.call.Call.{Call}
use Rattle.evl_base.specs.declared.call.Call.TheVariants.{Raise}
use Rattle.evl_base.specs.declared.mutex_kind.MutexKind.{MutexKind}
use Rattle.evl_base.specs.declared.numbers.MutexId.{MutexId}
use Rattle.evl_base.specs.declared.refusal.Refusal.{Refusal}
use Rattle.evl_base.specs.declared.refusal.Refusal.TheVariants.{NoMemory, HistoryFull}
use Rattle.evl_base.specs.declared.reply.Reply.{Reply}
use Rattle.evl_pipeline.specs.declared.plan.Plan.{Plan}
use Rattle.evl_kernel.specs.state.Callbacks.{AnswersByPlan, Stands, Whereabouts, handlers_in}
use Rattle.evl_kernel.specs.histories.Histories.{History, IsLegal}
use Rattle.evl_kernel.specs.state.KernelViews.{AddsEntry, KernelView, makes_entry}
use Rattle.evl_words.specs.declared.mutex.MutexPass.{MutexPass}
use Rattle.evl_words.specs.MutexCalls.{MutexSeatState}
use Rattle.evl_core.specs.accounts.Accounts.{GoesOn, calls_by, newcomer}
use Rattle.evl_machine.specs.callers.Actors.{ActorState, AreHeldAt, IsSameActor, Suits, stage_in}
use Rattle.evl_core.specs.accounts.KernelCalls.{Applied, FindsNoRoom, IsRoomier, Reserves}
use Rattle.evl_core.specs.words.Homes.{mutex_home}
use Rattle.evl_core.specs.rule.Known.{ComesFrom}
use Rattle.evl_machine.specs.callers.Unfinished.{unfinished_wait}
use Rattle.evl_machine.specs.callers.Handles.{MachineState}
use Rattle.evl_machine.specs.mutex_locks.Locking.{EntersNone, EntersOne, GoesAlong, LocksRaised}
use Rattle.evl_core.specs.words.MutexSeats.{TriesMutex}
use Rattle.evl_core.specs.words.MutexTokens.{AreTheSame}
use Rattle.evl_core.proofs.accounts.Accounts.{goes_on_none}
use Rattle.evl_machine.proofs.callers.Calling.{Added, added_by}
use Rattle.evl_core.proofs.accounts.Knowing.{comes_on}

-- the caller with other seats at the mutexes
abbrev pub seated_at : ActorState → List MutexSeatState → ActorState
seated_at a mutexes = record a { mutexes = mutexes }

pub the_same : (seats : List MutexSeatState) → AreTheSame seats seats
the_same seats = record { homes = refl; numbers = refl }

module _ {C : Type 0} where
  pub same_kernel : (k : KernelView C) → IsRoomier k k
  same_kernel k = record { history = refl; callbacks = refl; limit = refl; room = omega arith }

  pub comes_roomier : (k k' : KernelView C) → IsRoomier k k' → ComesFrom k k'
  comes_roomier k k' same = record {
    board = ap (λ (h : History). h.board) same.history;
    bank = ap (λ (h : History). h.bank) same.history;
    brings = λ number callback stands. subst (λ (w : Whereabouts C). Stands w number callback) same.callbacks stands;
    handlers_are = ap (λ (w : Whereabouts C). handlers_in w.bank) same.callbacks;
    limit = same.limit;
  }

  pub answers_roomier : (declared : C → ℕ) (plan : C → Plan) (k k' : KernelView C) → IsRoomier k k' → AnswersByPlan declared plan k.callbacks → AnswersByPlan declared plan k'.callbacks
  answers_roomier declared plan k k' same answers = subst (λ (w : Whereabouts C). AnswersByPlan declared plan w) (sym same.callbacks) answers

  pub answers_there : (declared : C → ℕ) (plan : C → Plan) (m m' : MachineState C) → m' ≡ m → AnswersByPlan declared plan m.first.callbacks → AnswersByPlan declared plan m'.first.callbacks
  answers_there declared plan m m' same answers = subst (λ (x : MachineState C). AnswersByPlan declared plan x.first.callbacks) (sym same) answers

  module _ (x a : ActorState) (is : x ≡ a) (k : KernelView C) where
    -- a step of a word at most, and nothing entered
    pub along_none : (k1 : KernelView C) (new : List MutexSeatState) → IsRoomier k k1 → AreHeldAt a.stage a.staxes → Suits a k.history → IsLegal k.history → AreTheSame x.mutexes new → GoesAlong a k (seated_at x new) k1
    along_none k1 new same held suits legal seats = subst (λ (z : ActorState). GoesAlong z k (seated_at x new) k1) is record {
      thread = refl;
      staxes = refl;
      homes = seats.homes;
      numbers = seats.numbers;
      held = subst (λ (z : ActorState). AreHeldAt z.stage z.staxes) (sym is) held;
      suits = record { stage = was.stage ∙ ap (λ (h : History). stage_in h x.thread.0) (sym same.history); wait = was.wait ∙ ap (λ (h : History). unfinished_wait (calls_by x.thread.0 h.entries)) (sym same.history) };
      added = [];
      longer = subst (λ (h : History). GoesOn k.history [] h) (sym same.history) (goes_on_none k.history);
      own = tt;
      comes = comes_roomier k k1 same;
      legal = subst IsLegal (sym same.history) legal;
      room = let r = same.room in omega (arith, r);
    }
      where
        was : Suits x k.history
        was = subst (λ (z : ActorState). Suits z k.history) (sym is) suits

    -- a step of a word at most, and then a call of the kernel
    pub along_call : (k1 : KernelView C) (new : List MutexSeatState) (c : Call) (r : Result Reply Refusal) (a2 : ActorState) (k2 : KernelView C) → IsRoomier k k1 → AreTheSame x.mutexes new
        → Applied k1 x.thread.0 c r k2 → IsSameActor (seated_at x new) a2 → Suits a2 k2.history → AreHeldAt a2.stage a2.staxes → GoesAlong a k a2 k2
    along_call k1 new c r a2 k2 same seats done actor suits held = subst (λ (z : ActorState). GoesAlong z k a2 k2) is record {
      thread = actor.thread;
      staxes = actor.staxes;
      homes = ap (map mutex_home) actor.mutexes ∙ seats.homes;
      numbers = ap (map (λ (s : MutexSeatState). s.number)) actor.mutexes ∙ seats.numbers;
      held = held;
      suits = suits;
      added = step.added;
      longer = subst (λ (h : History). GoesOn h step.added k2.history) same.history step.longer;
      own = step.own;
      comes = comes_on k k1 k2 (comes_roomier k k1 same) done.comes;
      legal = done.legal;
      room = let r = same.room in let more = done.room in omega (arith, r, more);
    }
      where
        step : Added (newcomer k.history x.thread.0) k1 k2
        step = added_by (newcomer k.history x.thread.0) c r k1 k2 done (makes_entry r) refl

  -- a step of a word more
  pub along_word : (a : ActorState) (k : KernelView C) (x a2 : ActorState) (k2 : KernelView C) (new : List MutexSeatState) → x ≡ a2 → GoesAlong a k a2 k2 → AreTheSame x.mutexes new → GoesAlong a k (seated_at x new) k2
  along_word a k x a2 k2 new is went seats = along (subst (λ (z : ActorState). GoesAlong a k z k2) (sym is) went)
    where
      along : GoesAlong a k x k2 → GoesAlong a k (seated_at x new) k2
      along went = record {
        thread = went.thread;
        staxes = went.staxes;
        homes = seats.homes ∙ went.homes;
        numbers = seats.numbers ∙ went.numbers;
        held = went.held;
        suits = record { stage = went.suits.stage; wait = went.suits.wait };
        added = went.added;
        longer = went.longer;
        own = went.own;
        comes = went.comes;
        legal = went.legal;
        room = went.room;
      }

  -- a call is entered where room was made for it
  pub enters_made : (k k1 k2 : KernelView C) (t : ℕ) (c : Call) (r : Result Reply Refusal) (u : Unit {0}) → Reserves k (Ok u) k1 → Applied k1 t c r k2 → EntersOne k t c r k2
  enters_made k k1 k2 t c r u room done = by r refl
    where
      full : r ≡ Err HistoryFull → ⊥
      full is = room.made.1 (ap (λ (h : History). length h.entries) (sym room.same.history) ∙ done.full is ∙ room.same.limit)

      memory : r ≡ Err NoMemory → ⊥
      memory is = let none = done.memory is in let some = room.made.0 in omega (arith, none, some)

      entered : makes_entry r ≡ true → EntersOne k t c r k2
      entered is = (is, subst (λ (h : History). AddsEntry h t c r k2.history) room.same.history (done.entered is))

      by : (s : Result Reply Refusal) → r ≡ s → EntersOne k t c r k2
      by (Ok reply) is = entered (ap makes_entry is)
      by (Err NoMemory) is = absurd (memory is)
      by (Err HistoryFull) is = absurd (full is)
      by (Err _) is = entered (ap makes_entry is)

  -- a call that is never refused with an entry is refused for want of room
  pub no_room : (k k' : KernelView C) (t : ℕ) (c : Call) (refusal : Refusal) → (EntersOne k t c (Err refusal) k' → ⊥) → Applied k t c (Err refusal) k' → EntersNone k k' × FindsNoRoom k refusal
  no_room k k' t c NoMemory never done = (done.refused refl, (done.memory refl, λ at. let no : Err NoMemory ≡ Err HistoryFull = done.filled at in absurd (cc)))
  no_room k k' t c HistoryFull never done = (done.refused refl, done.full refl)
  no_room k k' t c _ never done = absurd (never (refl, done.entered refl))

module _ {C : Type 0} (x a : ActorState) (is : x ≡ a) (k k2 : KernelView C) where
  -- a try that took a mutex with a ceiling, and its entry, which the kernel accepted
  pub locks_raised : (kinds : List MutexKind) (m : MutexId) (pass : MutexPass) (new : List MutexSeatState) (r : Result Reply Refusal) (a2 : ActorState) → TriesMutex kinds x.mutexes m.0 (Ok pass) new
      → IsSameActor (seated_at x new) a2 → EntersOne k x.thread.0 (Raise m) r k2 → (reply : Reply) × (r ≡ Ok reply) → LocksRaised kinds a k m (Ok pass) a2 k2
  locks_raised kinds m pass new r a2 tried same entered accepted =
      subst (λ (z : ActorState). LocksRaised kinds z k m (Ok pass) a2 k2) is
      (subst (λ seats. TriesMutex kinds x.mutexes m.0 (Ok pass) seats) (sym same.mutexes) tried, (accepted.0, subst (λ (r : Result Reply Refusal). EntersOne k x.thread.0 (Raise m) r k2) accepted.1 entered))
