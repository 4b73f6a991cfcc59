-- A caller that took the kernel and gave it back: what is known of it, and what it is afterwards.
use Rattle.std.proofs.Common.{◌≡◌, ◌++◌, ℕ, List, Result, map, MatchOption, Option, Some, None, true, slice_get, refl, sym, ap, ◌∙◌, subst}
use Rattle.std.specs.Bool.{⊤}
use Rattle.std.specs.List.{range_with_len}
use Rattle.std.specs.Option.{option_map}
use Rattle.std.proofs.lemmas.Option.{none-some, same_Some, slice_get-map}
use Rattle.atomic_table.specs.Seated.{TableId}
use Rattle.evl_base.specs.Board.{board_fits}
use Rattle.evl_base.specs.declared.call.Call.{Call}
use Rattle.evl_base.specs.declared.numbers.ThreadId.{ThreadId}
use Rattle.evl_base.specs.declared.refusal.Refusal.{Refusal}
use Rattle.evl_base.specs.declared.reply.Reply.{Reply}
use Rattle.evl_kernel.specs.histories.Histories.{History, IsLegal}
use Rattle.evl_kernel.specs.state.KernelViews.{KernelView}
use Rattle.evl_words.specs.MutexCalls.{MutexSeatState}
use Rattle.evl_words.specs.declared.mutex.place.MutexPlace.{MutexPlace}
use Rattle.evl_core.specs.declared.views.Account.{Account}
use Rattle.evl_core.specs.accounts.Accounts.{Fits, IsAccount, MadeBy, calls_by, up_to_date, lost_one, saw}
use Rattle.evl_machine.specs.callers.Actors.{ActorState, AreHeldAt, AwaitsOneOf, IsActor, IsSameActor, SeatedActor, Suits, acting, call_refusal, stage_in}
use Rattle.evl_machine.specs.callers.Callers.{HasInHand, IsResting, caller_by, machine_by}
use Rattle.evl_machine.specs.calls.Calls.{AreOwnedAsRecorded, TookKernel}
use Rattle.evl_core.specs.accounts.KernelCalls.{Applied, IsRoomier}
use Rattle.evl_core.specs.accounts.Seats.{IsCaller, IsHeld, Continues, account_of, resting, CoreMe}
use Rattle.evl_core.specs.worlds.Events.{FailsToTake, Gives, Takes}
use Rattle.evl_machine.specs.callers.Handles.{CallerState, HeldState, MachineState, caller_of, machine_of, returned, shown, turned_away}
use Rattle.evl_machine.specs.callers.OneSteps.{StepsOnWords}
use Rattle.evl_core.specs.words.Homes.{Home, mutex_home, stax_home, word_home, word_homes}
use Rattle.evl_core.specs.rule.Known.{ComesFrom, KernelMe, first_of, mutex_count, seen, lock_in}
use Rattle.evl_core.specs.lock.Lock.{LockView}
use Rattle.evl_machine.specs.mutex_locks.Locking.{GoesAlong, HaveSeats}
use Rattle.evl_machine.specs.callers.InHand.{HasMissed, HasOpened, HasShut, IsSameAside, Opens}
use Rattle.evl_core.specs.words.MutexTokens.{IsAtTable, KeepsPlaces, TellsTheSame}
use Rattle.evl_core.specs.words.MutexSeats.{holds_mutex}
use Rattle.evl_core.specs.words.Noted.{HasTaken, IsSettled, ceilings_in}
use Rattle.evl_machine.specs.stax_locks.StaxSeats.{holds_stax}
use Rattle.evl_machine.specs.callers.Unfinished.{unfinished_wait}
use Rattle.evl_machine.specs.calls.Visits.{FindsTaken, Visited, actor_of}
use Rattle.evl_core.proofs.accounts.Accounts.{goes_on_more, made_by-append}
use Rattle.evl_machine.proofs.callers.Calling.{TakenOut, fits_one, given_account, gives_caller, held_applied, is_held, lost_caller, mine_after, takes_hold}
use Rattle.evl_core.proofs.accounts.Knowing.{comes_on}
use Rattle.evl_machine.proofs.mutex_locks.LockingLaws.{comes_roomier}
use Rattle.evl_machine.proofs.mutex_locks.LockingTies.{other_call_stays, still_settled}
use Rattle.evl_core.proofs.worlds.QuietCore.{ends_quiet}
use Rattle.evl_machine.proofs.mutex_locks.SeatsAt.{acting_kept, at_own_table, still_at_table}
use Rattle.evl_core.proofs.ties.Settling.{settled_fresh, stay_same}
use Rattle.evl_machine.proofs.callers.Staying.{at_stage, fits_stage, suits_found}

module _ {C : Type 0} where
  -- what a seat has in hand that took the kernel
  pub opens_by : (first : KernelView C) (a : Account) (thread : ThreadId) (me me' : KernelMe C) (k : KernelView C) → IsCaller (seen me) thread → first_of me.0 ≡ first → account_of (seen me) ≡ a → TakenOut (seen me) k (seen me')
      → ComesFrom (first_of me.0) k → first_of me'.0 ≡ first_of me.0 → Opens first a thread me' k
  opens_by first a thread me me' k is from knows taken comes same = record {
    held = is_held (seen me) (seen me') thread k is taken;
    first_is = same ∙ from;
    comes = subst (λ (f : KernelView C). ComesFrom f k) from comes;
    account = ap account_of (takes_hold (account_of (seen me)) k (seen me) (seen me') is.rests taken) ∙ ap (saw k.history k.room) knows;
    fits = subst (Fits k.history) knows (fits_one (account_of (seen me)) k (seen me) (seen me') is.rests taken);
    was = subst IsAccount knows is.account;
  }

  -- an actor of which only what it knows of the core has changed
  module _ (x a : SeatedActor C) (table : TableId) (me : KernelMe C) (was : x ≡ a) (is : IsActor x) (same : table ≡ x.table) (from : first_of me.0 ≡ first_of x.me.0) (kept : KeepsPlaces x.me.0 me.0) where
    abbrev now : SeatedActor C
    now = record x { table = table; me = me }

    pub actor_kept : IsActor now
    actor_kept = record {
      held = is.held;
      awaits = is.awaits;
      staxes = is.staxes;
      places = still_at_table x.table (first_of x.me.0) (first_of me.0) table x.me.0 me.0 x.places same from kept is.places;
    }

    same_aside : IsSameAside x now
    same_aside = (same, acting_kept x table me same kept, from)

    -- what came of a take
    pub opened_or_missed : (out : Option (KernelView C)) → IsCaller (seen a.me) a.thread
        → MatchOption out (FailsToTake (first_of x.me.0) (account_of (seen x.me)) (lock_in x.me.0) (account_of (seen me)) (lock_in me.0)) (λ _. Takes (first_of x.me.0) (account_of (seen x.me)) (lock_in x.me.0) (account_of (seen me)) (lock_in me.0))
        → MatchOption out (seen me ≡ resting (lost_one (account_of (seen x.me)))) (λ k. TakenOut (seen x.me) k (seen me) × ComesFrom (first_of x.me.0) k)
        → MatchOption out ⊤ (λ k. HasTaken (account_of (seen x.me)).thread k.history me.0) → MatchOption out (HasMissed a now) (HasOpened a now)
    opened_or_missed out rests event taken holder = subst (λ (z : SeatedActor C). IsCaller (seen z.me) z.thread → MatchOption out (HasMissed z now) (HasOpened z now)) was (by out event taken holder) rests
      where
        by : (o : Option (KernelView C)) → MatchOption o (FailsToTake (first_of x.me.0) (account_of (seen x.me)) (lock_in x.me.0) (account_of (seen me)) (lock_in me.0)) (λ _. Takes (first_of x.me.0) (account_of (seen x.me)) (lock_in x.me.0) (account_of (seen me)) (lock_in me.0))
            → MatchOption o (seen me ≡ resting (lost_one (account_of (seen x.me)))) (λ k. TakenOut (seen x.me) k (seen me) × ComesFrom (first_of x.me.0) k)
            → MatchOption o ⊤ (λ k. HasTaken (account_of (seen x.me)).thread k.history me.0) → IsCaller (seen x.me) x.thread → MatchOption o (HasMissed x now) (HasOpened x now)
        by None event lost holder rests = record { same = same_aside; thread = refl; lost = lost; own = actor_kept; event = event }
        by (Some k) event took holder rests = record {
          same = same_aside;
          thread = refl;
          places = refl;
          opens = opens_by (first_of x.me.0) (account_of (seen x.me)) x.thread x.me me k rests refl refl took.0 took.1 from;
          holder = holder;
          own = actor_kept;
          event = event;
        }

    -- what came of a give
    pub has_shut : (k : KernelView C) → IsHeld (seen a.me) a.thread k → seen me ≡ resting (up_to_date k.history (account_of (seen x.me))) → Gives (first_of x.me.0) (account_of (seen x.me)) (lock_in x.me.0) k (account_of (seen me)) (lock_in me.0) → HasShut a k now
    has_shut k held given gave = subst (λ (z : SeatedActor C). IsHeld (seen z.me) z.thread k → HasShut z k now) was by held
      where
        by : IsHeld (seen x.me) x.thread k → HasShut x k now
        by held = record { same = same_aside; rests = gives_caller (seen x.me) (seen me) x.thread k held given; held = is.held; account = ap account_of given; event = gave }

  -- what a caller knows says what it has beside its seat at the core
  pub same_actor : (m : MachineState C) (a : Account) (l : LockView) (x : ActorState) → a.thread ≡ x.thread.0 → IsAccount a → Suits x a.seen → actor_of (caller_of m a l x.staxes x.mutexes) ≡ x
  same_actor m a l x own is suits =
      let stage : stage_in a.seen a.thread ≡ x.stage = ap (stage_in a.seen) own ∙ sym suits.stage in
      let wait : unfinished_wait a.mine ≡ x.wait = ap unfinished_wait (sym is.mine ∙ ap (λ t. calls_by t a.seen.entries) own) ∙ sym suits.wait in
      λ i. record { thread = record { 0 = own i }; stage = stage i; wait = wait i; staxes = x.staxes; mutexes = x.mutexes }

  module _ (first : KernelView C) (a : Account) (x : ActorState) (me : KernelMe C) (k : KernelView C) (opens : Opens first a x.thread me k) where
    pub opened_legal : IsLegal k.history
    opened_legal = opens.held.continues.legal

    saw_it : IsAccount (saw k.history k.room a)
    saw_it = subst IsAccount opens.account opens.held.continues.before

    own : a.thread ≡ x.thread.0
    own = sym (ap (λ (y : Account). y.thread) opens.account) ∙ opens.held.own

    pub opened_suits : Suits x a.seen → Suits x k.history
    opened_suits suits = suits_found x a k.history (sym own) opens.was opens.fits suits

    module _ (x' : ActorState) (k' : KernelView C) (went : GoesAlong x k x' k') where
      added_own : MadeBy a.thread went.added
      added_own = subst (λ t. MadeBy t went.added) (sym own) went.own

      -- the seat still has the kernel as it is now
      pub still_held : IsHeld (seen me) x.thread k'
      still_held =
          let was = opens.held.continues in
          let t = opens.held.own in record {
            holds = opens.held.holds;
            own = t;
            continues = record {
              added = was.added ++ went.added;
              longer = goes_on_more (account_of (seen me)).seen k.history k'.history was.added went.added was.longer went.longer;
              own = made_by-append (account_of (seen me)).thread was.added went.added was.own (subst (λ n. MadeBy n went.added) (sym t) went.own);
              legal = went.legal;
              before = was.before;
            };
          }

      pub still_comes : ComesFrom first k'
      still_comes = comes_on first k k' opens.comes went.comes

      continues : Continues (saw k.history k.room a) k'.history
      continues = record { added = went.added; longer = went.longer; own = added_own; legal = went.legal; before = saw_it }

      abbrev after : Account
      after = up_to_date k'.history (saw k.history k.room a)

      told_after : IsAccount after
      told_after = given_account (saw k.history k.room a) k'.history continues

      -- what is known of the whole visit
      pub visited : (m : MachineState C) (does : ActorState → KernelView C → ActorState → KernelView C → Type 0) (l : LockView) (a' : Account) (l' : LockView) → m.first ≡ first → Suits x a.seen → AreOwnedAsRecorded x.thread.0 x.mutexes k.history → a' ≡ after → does x k x' k'
          → StepsOnWords (shown k.history k.room (lock_in me.0) (caller_of m a l x.staxes x.mutexes)) (record (shown k.history k.room (lock_in me.0) (caller_of m a l x.staxes x.mutexes)) { mutexes = x'.mutexes })
          → Takes first a l (account_of (seen me)) (lock_in me.0) → Gives first (account_of (seen me)) (lock_in me.0) k' a' l' → Visited (caller_of m a l x.staxes x.mutexes) does (caller_of m a' l' x'.staxes x'.mutexes)
      visited m does l a' l' from suits owned is did words took gave = record {
        held = record { caller = shown k.history k.room (lock_in me.0) (caller_of m a l x.staxes x.mutexes); kernel = k };
        took = record {
          caller = refl;
          later = opens.fits.seen;
          just = saw_it;
          stage = fits_stage a k.history opens.was opens.fits;
          comes = subst (λ (f : KernelView C). ComesFrom f k) (sym from) opens.comes;
          quiet = ends_quiet k.history opened_legal;
          owned = subst (λ n. AreOwnedAsRecorded n x.mutexes k.history) (sym own) owned;
        };
        given = k';
        added = went.added;
        longer = went.longer;
        own = added_own;
        comes = went.comes;
        back = λ i. caller_of m (is i) l' (went.staxes i) x'.mutexes;
        mine = ap (λ (y : Account). y.mine) is ∙ mine_after a k k' went.added opens.fits went.longer added_own;
        just = subst IsAccount (sym is) told_after;
        does = subst (λ (z : ActorState × ActorState). does z.0 k z.1 k') (λ i. (before i, now i)) did;
        words = words;
        takes = subst (λ (z : KernelView C × Account). Takes z.0 a l z.1 (lock_in me.0)) (λ i. (sym from i, opens.account i)) took;
        gives = subst (λ (z : KernelView C × Account). Gives z.0 z.1 (lock_in me.0) k' a' l') (λ i. (sym from i, opens.account i)) gave;
      }
        where
          before : x ≡ actor_of (caller_of m a l x.staxes x.mutexes)
          before = sym (same_actor m a l x own opens.was suits)

          now : x' ≡ actor_of (caller_of m a' l' x'.staxes x'.mutexes)
          now = sym (same_actor m a' l' x' (ap (λ (y : Account). y.thread) is ∙ (own ∙ ap (λ (t : ThreadId). t.0) (sym went.thread))) (subst IsAccount (sym is) told_after) (subst (λ (h : History). Suits x' h) (sym (ap (λ (y : Account). y.seen) is)) went.suits))

      pub suits_after : (a' : Account) → a' ≡ after → Suits x' a'.seen
      suits_after a' is = subst (λ (h : History). Suits x' h) (sym (ap (λ (y : Account). y.seen) is)) went.suits

      stage_after : (a' : Account) → a' ≡ after → AreHeldAt (stage_in a'.seen a'.thread) x'.staxes
      stage_after a' is = at_stage x' a'.seen a'.thread x'.staxes went.held (suits_after a' is) (ap (λ (y : Account). y.thread) is ∙ (own ∙ ap (λ (t : ThreadId). t.0) (sym went.thread)))

      -- the whole visit of a caller whose machine is known by where its seats belong
      pub visited_at : (id id' : TableId) (first' : KernelView C) (does : ActorState → KernelView C → ActorState → KernelView C → Type 0) (l : LockView) (a' : Account) (l' : LockView) (old : CallerState C) → caller_of (machine_of id first x.staxes x.mutexes) a l x.staxes x.mutexes ≡ old → id' ≡ id → first' ≡ first_of me.0 → Suits x a.seen → AreOwnedAsRecorded x.thread.0 x.mutexes k.history
          → a' ≡ up_to_date k'.history (account_of (seen me)) → does x k x' k'
          → StepsOnWords (shown k.history k.room (lock_in me.0) (caller_of (machine_of id first x.staxes x.mutexes) a l x.staxes x.mutexes)) (record (shown k.history k.room (lock_in me.0) (caller_of (machine_of id first x.staxes x.mutexes) a l x.staxes x.mutexes)) { mutexes = x'.mutexes })
          → Takes first a l (account_of (seen me)) (lock_in me.0) → Gives (first_of me.0) (account_of (seen me)) (lock_in me.0) k' a' l'
          → Visited old does (caller_of (machine_of id' first' x'.staxes x'.mutexes) a' l' x'.staxes x'.mutexes)
      visited_at id id' first' does l a' l' old was same from suits owned is did words took gave =
          let machine : machine_of id' first' x'.staxes x'.mutexes ≡ machine_of id first x.staxes x.mutexes = λ i. record { id = same i; first = (from ∙ opens.first_is) i; staxes = map stax_home (went.staxes i); mutexes = went.homes i } in
          subst (λ (z : CallerState C × MachineState C). Visited z.0 does (caller_of z.1 a' l' x'.staxes x'.mutexes)) (λ i. (was i, sym machine i))
          (visited (machine_of id first x.staxes x.mutexes) does l a' l' refl suits owned (is ∙ ap (up_to_date k'.history) opens.account) did words took (subst (λ (f : KernelView C). Gives f (account_of (seen me)) (lock_in me.0) k' a' l') opens.first_is gave))

      pub stage_at : (a' : Account) → a' ≡ up_to_date k'.history (account_of (seen me)) → AreHeldAt (stage_in a'.seen a'.thread) x'.staxes
      stage_at a' is = stage_after a' (is ∙ ap (up_to_date k'.history) opens.account)

-- each seat at home at words for so many threads is one of so many
pub have_seats : (table : TableId) (threads count : ℕ) (seats : List MutexSeatState) → map mutex_home seats ≡ word_homes table threads count → HaveSeats threads seats
have_seats table threads count seats homes i s there =
    by (slice_get (range_with_len 0 count) i) (sym (ap (option_map mutex_home) there) ∙ sym (slice_get-map mutex_home seats i) ∙ ap (λ (hs : List Home). slice_get hs i) homes ∙ slice_get-map (word_home table threads) (range_with_len 0 count) i)
  where
    by : (o : Option ℕ) → Some (mutex_home s) ≡ option_map (word_home table threads) o → s.view.held.seats ≡ threads
    by None is = absurd (none-some (mutex_home s) (sym is))
    by (Some j) is = ap (λ (h : Home). h.bound) (same_Some (mutex_home s) (word_home table threads j) is)

-- who acts for a thread knows its stage and wait in the kernel that it took
pub suits_opened : {C : Type 0} {x o : SeatedActor C} {k : KernelView C} → HasOpened x o k → Suits (acting x) (account_of (seen x.me)).seen → Suits (acting o) k.history
suits_opened {C} {x} {o} {k} opened suits = subst (λ (z : ActorState). Suits z k.history) (sym opened.same.1) (opened_suits (first_of x.me.0) (account_of (seen x.me)) (acting x) o.me k opened.opens suits)

-- held staxes are held at the stage of the caller's thread, where it is at rest
pub stage_resting : {C : Type 0} (a : SeatedActor C) → AreHeldAt a.stage a.staxes → IsResting a → AreHeldAt (stage_in (account_of (seen a.me)).seen (account_of (seen a.me)).thread) a.staxes
stage_resting a held rests = at_stage (acting a) (account_of (seen a.me)).seen (account_of (seen a.me)).thread a.staxes held rests.1 rests.0.own

-- a caller that didn't find the kernel has lost one take more
module _ {C : Type 0} {x n : SeatedActor C} (missed : HasMissed x n) where
  pub caller_lost : caller_by n ≡ turned_away (lock_in n.me.0) (caller_by x)
  caller_lost = let same = missed.same in λ i. caller_of (machine_of (same.0 i) (same.2 i) (same.1 i).staxes (same.1 i).mutexes) (account_of (missed.lost i)) (lock_in n.me.0) (same.1 i).staxes (same.1 i).mutexes

  pub suits_lost : Suits (acting x) (account_of (seen x.me)).seen → Suits (acting n) (account_of (seen n.me)).seen
  suits_lost suits = subst (λ (z : ActorState × CoreMe (KernelView C)). Suits z.0 (account_of z.1).seen) (λ i. (sym missed.same.1 i, sym missed.lost i)) suits

  pub rests_lost : IsCaller (seen x.me) x.thread → IsCaller (seen n.me) n.thread
  rests_lost is = subst (IsCaller (seen n.me)) (sym missed.thread) (lost_caller (seen x.me) (seen n.me) x.thread is missed.lost)

  pub resting_lost : IsResting x → IsResting n
  resting_lost is = (rests_lost is.0, suits_lost is.1)

  pub stage_lost : IsResting x → AreHeldAt (stage_in (account_of (seen n.me)).seen (account_of (seen n.me)).thread) n.staxes
  stage_lost is = stage_resting n missed.own.held (resting_lost is)

  pub finds_taken : {old : CallerState C} → caller_by x ≡ old → FindsTaken old (caller_by n)
  finds_taken was = subst (λ (z : CallerState C). FindsTaken z (caller_by n)) was (caller_lost, missed.event)

pub same_core : {C : Type 0} (me me' : KernelMe C) → me' ≡ me → TellsTheSame me me'
same_core me me' same = record { core = ap seen same; first = ap (λ (m : KernelMe _). first_of m.0) same; lock = ap (λ (m : KernelMe _). lock_in m.0) same }

-- an actor after a step on a mutex's word
pub actor_at_mutexes : {C : Type 0} (a : SeatedActor C) (id : TableId) (first : KernelView C) (table : TableId) (me : KernelMe C) (places : List MutexPlace) → IsActor a → a.table ≡ id → first_of a.me.0 ≡ first → TellsTheSame a.me me → IsAtTable id first table me.0 places → IsActor (record a { table = table; me = me; places = places })
actor_at_mutexes a id first table me places is same from core at = record {
  held = is.held;
  awaits = subst (λ n. AwaitsOneOf n a.wait) (is.places.all ∙ ap mutex_count from ∙ sym at.all) is.awaits;
  staxes = is.staxes;
  places = at_own_table a id first table me places same (core.first ∙ from) at;
}

-- an actor that has the kernel, after a call of it that the actor doesn't refuse by itself
pub held_call : {C : Type 0} (m : MachineState C) (a a' : SeatedActor C) (k k' : KernelView C) (c : Call) (r : Result Reply Refusal) → HasInHand m a k → (a'.table ≡ a.table) × (a'.me ≡ a.me) × (a'.places ≡ a.places) → IsSameActor (acting a) (acting a')
    → call_refusal a.wait (holds_stax a.staxes) (holds_mutex (acting a).mutexes) c ≡ None → Applied k a.thread.0 c r k' → Suits (acting a') k'.history → HasInHand m a' k'
held_call {C} m a a' k k' c r has seat same free done suits = (
  has.0 ∙ (λ i. machine_of (sym seat.0 i) (first_of (sym seat.1 i).0) (sym same.staxes i) (sym same.mutexes i)),
  subst (λ (z : KernelMe C × ThreadId). IsHeld (seen z.0) z.1 k') (λ i. (sym seat.1 i, sym same.thread i)) (held_applied (seen a.me) a.thread c r k k' has.1 done),
  subst (λ (z : KernelMe C). ComesFrom (first_of z.0) k') (sym seat.1) (comes_on (first_of a.me.0) k k' has.2 done.comes),
  suits,
  subst (λ (z : KernelMe C). IsSettled z.0 k'.history.state) (sym seat.1)
      (still_settled a.me.0 k.history.state k'.history.state (other_call_stays (ceilings_in a.me.0) k k' a.thread.0 c r a.wait (holds_stax a.staxes) (holds_mutex (acting a).mutexes) has.1.continues.legal has.5 has.3.wait free done) has.4),
  ap board_fits done.comes.board ∙ has.5,
)

-- and once room was made in it
pub held_roomier : {C : Type 0} (m : MachineState C) (a : SeatedActor C) (k k' : KernelView C) → HasInHand m a k → IsRoomier k k' → HasInHand m a k'
held_roomier {C} m a k k' has same = (
  has.0,
  record { holds = has.1.holds; own = has.1.own; continues = subst (Continues (account_of (seen a.me))) (sym same.history) has.1.continues },
  comes_on (first_of a.me.0) k k' has.2 (comes_roomier k k' same),
  subst (Suits (acting a)) (sym same.history) has.3,
  subst (λ (h : History). IsSettled a.me.0 h.state) (sym same.history) has.4,
  ap (λ (h : History). board_fits h.board) same.history ∙ has.5,
)

-- and before any call of it
pub has_taken_it : {C : Type 0} {m : MachineState C} {x o : SeatedActor C} {k : KernelView C} → HasOpened x o k → Suits (acting x) (account_of (seen x.me)).seen → machine_by x ≡ m → board_fits m.first.history.board ≡ true → HasInHand m o k
has_taken_it {C} {m} {x} {o} {k} opened suits is fits =
    let same = opened.same in (
      sym is ∙ (λ i. machine_of (sym same.0 i) (sym same.2 i) (sym same.1 i).staxes (sym same.1 i).mutexes),
      subst (λ (t : ThreadId). IsHeld (seen o.me) t k) (sym opened.thread) opened.opens.held,
      subst (λ (f : KernelView C). ComesFrom f k) (sym same.2) opened.opens.comes,
      suits_opened opened suits,
      settled_fresh k.history o.me.0 k.history.state opened.holder.taken opened.holder.fresh (stay_same (ceilings_in o.me.0) k.history.state k.history.state refl),
      ap board_fits (opened.opens.comes.board ∙ ap (λ (s : MachineState C). s.first.history.board) is) ∙ fits,
    )

pub took_it : {C : Type 0} {m : MachineState C} {x o : SeatedActor C} {k : KernelView C} {old : CallerState C} → HasOpened x o k → caller_by x ≡ old → old.machine ≡ m → AreOwnedAsRecorded (acting o).thread.0 (acting o).mutexes k.history
    → TookKernel old (record { caller = caller_of m (account_of (seen o.me)) (lock_in o.me.0) o.staxes (acting o).mutexes; kernel = k })
took_it {C} {m} {x} {o} {k} {old} opened was is owned =
    let a = account_of (seen x.me) in
    let opens = opened.opens in
    let same = opened.same.1 in
    subst (λ (z : CallerState C). TookKernel z (record { caller = caller_of m (account_of (seen o.me)) (lock_in o.me.0) o.staxes (acting o).mutexes; kernel = k })) was
    record {
      caller = λ i. caller_of (sym (ap (λ (s : CallerState C). s.machine) was ∙ is) i) (opens.account i) (lock_in o.me.0) (same i).staxes (same i).mutexes;
      later = opens.fits.seen;
      just = opens.held.continues.before;
      stage = fits_stage a k.history opens.was opens.fits;
      comes = opens.comes;
      quiet = ends_quiet k.history opens.held.continues.legal;
      owned = subst (λ (z : ℕ × List MutexSeatState). AreOwnedAsRecorded z.0 z.1 k.history) (λ i. ((ap (λ (z : ActorState). z.thread.0) same ∙ sym (sym (ap (λ (y : Account). y.thread) opens.account) ∙ opens.held.own)) i, (same i).mutexes)) owned;
    }

-- an actor that has given the kernel back
module _ {C : Type 0} (m : MachineState C) (a n : SeatedActor C) (k : KernelView C) (has : HasInHand m a k) (given : (n.table ≡ a.table) × (acting n ≡ acting a) × (first_of n.me.0 ≡ first_of a.me.0)) (now : account_of (seen n.me) ≡ up_to_date k.history (account_of (seen a.me))) where
  pub given_suits : Suits (acting n) (account_of (seen n.me)).seen
  given_suits = subst (λ (z : ActorState × Account). Suits z.0 z.1.seen) (λ i. (sym given.1 i, sym now i)) has.3

  pub given_back : (h : HeldState C) → record { caller = caller_of m (account_of (seen a.me)) (lock_in a.me.0) a.staxes (acting a).mutexes; kernel = k } ≡ h → caller_by n ≡ returned h.kernel.history (lock_in n.me.0) h.caller
  given_back h is =
      (λ i. caller_of ((machine ∙ sym has.0) i) (now i) (lock_in n.me.0) (given.1 i).staxes (given.1 i).mutexes) ∙ ap (λ (h : HeldState C). returned h.kernel.history (lock_in n.me.0) h.caller) is
    where
      machine : machine_by n ≡ machine_by a
      machine = λ i. machine_of (given.0 i) (given.2 i) (given.1 i).staxes (given.1 i).mutexes

  pub given_event : (h : HeldState C) → record { caller = caller_of m (account_of (seen a.me)) (lock_in a.me.0) a.staxes (acting a).mutexes; kernel = k } ≡ h → Gives (first_of a.me.0) (account_of (seen a.me)) (lock_in a.me.0) k (account_of (seen n.me)) (lock_in n.me.0) → Gives h.caller.machine.first h.caller.account h.caller.lock h.kernel (account_of (seen n.me)) (lock_in n.me.0)
  given_event h is gave = subst (λ (h : HeldState C). Gives h.caller.machine.first h.caller.account h.caller.lock h.kernel (account_of (seen n.me)) (lock_in n.me.0)) is
      (subst (λ (f : KernelView C). Gives f (account_of (seen a.me)) (lock_in a.me.0) k (account_of (seen n.me)) (lock_in n.me.0)) (sym (ap (λ (m : MachineState C). m.first) has.0)) gave)
