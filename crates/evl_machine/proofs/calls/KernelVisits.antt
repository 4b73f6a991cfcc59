-- A caller that takes the kernel within one call, does something with it, and gives it back: what each step asks for, and what is known of the whole.
use Rattle.std.proofs.Common.{◌≡◌, ℕ, Bool, true, Result, None, map, slice_get, refl, sym, ap, ◌∙◌, subst}
use Rattle.atomic_table.specs.Seated.{TableId}
use Rattle.evl_base.specs.Board.{board_fits}
use Rattle.evl_base.specs.declared.call.Call.{Call}
use Rattle.evl_base.specs.declared.numbers.MutexId.{MutexId}
use Rattle.evl_base.specs.declared.numbers.ThreadId.{ThreadId}
use Rattle.evl_base.specs.declared.refusal.Refusal.{Refusal}
use Rattle.evl_base.specs.declared.reply.Reply.{Reply}
use Rattle.evl_pipeline.specs.declared.plan.Plan.{Plan}
use Rattle.evl_kernel.specs.state.Callbacks.{AnswersByPlan}
use Rattle.evl_kernel.specs.state.KernelViews.{KernelView}
use Rattle.evl_core.specs.declared.views.Account.{Account}
use Rattle.evl_core.specs.accounts.Accounts.{IsAccount, saw, up_to_date}
use Rattle.evl_machine.specs.callers.Actors.{ActorState, AreHeldAt, IsSameActor, SeatedActor, Suits, acting, call_refusal, stage_in}
use Rattle.evl_machine.specs.callers.Callers.{IsResting, caller_by, machine_by}
use Rattle.evl_machine.specs.calls.Calls.{ActsOnCore, Answered, AreOwnedAsRecorded}
use Rattle.evl_core.specs.accounts.KernelCalls.{Applied}
use Rattle.evl_core.specs.accounts.Seats.{IsHeld, account_of, CoreMe}
use Rattle.evl_core.specs.rule.Ceilings.{has_ceiling}
use Rattle.evl_core.specs.worlds.Events.{Gives}
use Rattle.evl_machine.specs.callers.Handles.{CallerState, MachineState, caller_of, machine_of, shown}
use Rattle.evl_machine.specs.callers.OneSteps.{MakesSome, StepsOnWords}
use Rattle.evl_core.specs.words.Homes.{mutex_home, stax_home}
use Rattle.evl_machine.specs.callers.InHand.{HasOpened, HasShut, MayShut}
use Rattle.evl_machine.specs.callers.JustTaken.{HasJustTaken}
use Rattle.evl_core.specs.rule.Known.{ComesFrom, KernelMe, first_of, seen, lock_in}
use Rattle.evl_core.specs.lock.Lock.{LockView}
use Rattle.evl_machine.specs.mutex_locks.Locking.{GoesAlong}
use Rattle.evl_machine.specs.mutex_locks.MutexLocks.{kind_of}
use Rattle.evl_core.specs.words.MutexTokens.{TellsTheSame}
use Rattle.evl_core.specs.words.Noted.{IsSettled}
use Rattle.evl_machine.specs.calls.Visits.{Visited}
use Rattle.evl_machine.proofs.callers.Calling.{calls, took_and_gave}
use Rattle.evl_core.proofs.accounts.Knowing.{answers_still}
use Rattle.evl_machine.proofs.mutex_locks.LockingLaws.{along_call, along_none, same_kernel, the_same}
use Rattle.evl_machine.proofs.mutex_locks.LockingTies.{other_settled, same_settled}
use Rattle.evl_machine.proofs.callers.OneSteps.{none_made, steps_on_words}
use Rattle.evl_machine.proofs.callers.Opened.{just_took, owned_seats}
use Rattle.evl_machine.proofs.callers.Visits.{same_core, stage_at, still_comes, still_held, suits_after, suits_opened, visited_at}

-- an actor for the same thread with the same seats
pub same_as : {a b : ActorState} → b ≡ a → IsSameActor a b
same_as is = record { thread = ap (λ (z : ActorState). z.thread) is; staxes = ap (λ (z : ActorState). z.staxes) is; mutexes = ap (λ (z : ActorState). z.mutexes) is }

pub same_on : {a b c : ActorState} → IsSameActor a b → IsSameActor b c → IsSameActor a c
same_on one two = record { thread = two.thread ∙ one.thread; staxes = two.staxes ∙ one.staxes; mutexes = two.mutexes ∙ one.mutexes }

module _ {C : Type 0} where
  -- what was done with the kernel: the token keeps what it knows of the core, the kernel goes on and the actor with it, and the ties are settled
  pub record HasDone (o : SeatedActor C) (k : KernelView C) (x' : SeatedActor C) (k' : KernelView C) : Type 0 where
    pub core : TellsTheSame o.me x'.me
    pub table : x'.table ≡ o.table
    pub along : GoesAlong (acting o) k (acting x') k'
    pub settled : IsSettled x'.me.0 k'.history.state
    pub made : MakesSome o.me.0 x'.me.0

  -- its token is the same
  pub does_call : (o x' : SeatedActor C) {k k' : KernelView C} {c : Call} {r : Result Reply Refusal} → (x'.table ≡ o.table) × (x'.me ≡ o.me) × (x'.places ≡ o.places) → IsSameActor (acting o) (acting x') → Applied k o.thread.0 c r k'
      → Suits (acting x') k'.history → AreHeldAt x'.stage x'.staxes → HasJustTaken o k → (stax mutex : Bool) → call_refusal o.wait stax mutex c ≡ None → HasDone o k x' k'
  does_call o x' {k} {k'} {c} {r} seat same done suits held just stax mutex free = record {
    core = same_core o.me x'.me seat.1;
    table = seat.0;
    along = along_call (acting o) (acting o) refl k k (acting o).mutexes c r (acting x') k' (same_kernel k) (the_same (acting o).mutexes) done same suits held;
    settled = subst (λ (m : KernelMe C). IsSettled m.0 k'.history.state) (sym seat.1) (other_settled o k just k' c r stax mutex free done);
    made = none_made o.me x'.me seat.1;
  }

  module _ {x o : SeatedActor C} {k : KernelView C} (opened : HasOpened x o k) where
    -- the kernel that it took answers by plan as its machine's first one does
    pub opened_answers : {declared : C → ℕ} {plan : C → Plan} {first : KernelView C} → first_of x.me.0 ≡ first → AnswersByPlan declared plan first.callbacks → AnswersByPlan declared plan k.callbacks
    opened_answers {declared} {plan} {first} from answers = answers_still declared plan first k (subst (λ (f : KernelView C). ComesFrom f k) from opened.opens.comes) answers

    module _ (suits : Suits (acting x) (account_of (seen x.me)).seen) where
      -- nothing was done
      pub does_nothing : board_fits (first_of x.me.0).history.board ≡ true → HasDone o k o k
      does_nothing fits = record {
        core = same_core o.me o.me refl;
        table = refl;
        along = along_none (acting o) (acting o) refl k k (acting o).mutexes (same_kernel k) opened.own.held (suits_opened opened suits) opened.opens.held.continues.legal (the_same (acting o).mutexes);
        settled = same_settled o k (just_took opened suits refl fits) k.history refl;
        made = none_made o.me o.me refl;
      }

      module _ {x' : SeatedActor C} {k' : KernelView C} (did : HasDone o k x' k') where
        along : GoesAlong (acting x) k (acting x') k'
        along = subst (λ (z : ActorState). GoesAlong z k (acting x') k') opened.same.1 did.along

        has_still : IsHeld (seen x'.me) x'.thread k'
        has_still = subst (λ (z : CoreMe (KernelView C) × ThreadId). IsHeld z.0 z.1 k') (λ i. (sym did.core.core i, sym along.thread i)) (still_held (first_of x.me.0) (account_of (seen x.me)) (acting x) o.me k opened.opens (acting x') k' along)

        comes_still : ComesFrom (first_of x'.me.0) k'
        comes_still = subst (λ (f : KernelView C). ComesFrom f k') (sym (did.core.first ∙ opened.opens.first_is)) (still_comes (first_of x.me.0) (account_of (seen x.me)) (acting x) o.me k opened.opens (acting x') k' along)

        -- so the kernel may go back
        pub may_shut : {table : TableId} → x.table ≡ table → MayShut table x' k'
        may_shut at = record { machine = did.table ∙ opened.same.0 ∙ at; comes = comes_still; held = has_still; settled = did.settled }

        module _ {n : SeatedActor C} (shut : HasShut x' k' n) where
          account : account_of (seen n.me) ≡ up_to_date k'.history (account_of (seen o.me))
          account = shut.account ∙ ap (λ (m : CoreMe (KernelView C)). up_to_date k'.history (account_of m)) did.core.core

          pub stage_back : AreHeldAt (stage_in (account_of (seen n.me)).seen (account_of (seen n.me)).thread) n.staxes
          stage_back = subst (λ (z : ActorState). AreHeldAt (stage_in (account_of (seen n.me)).seen (account_of (seen n.me)).thread) z.staxes) (sym shut.same.1)
              (stage_at (first_of x.me.0) (account_of (seen x.me)) (acting x) o.me k opened.opens (acting x') k' along (account_of (seen n.me)) account)

          pub suits_back : Suits (acting n) (account_of (seen n.me)).seen
          suits_back = subst (λ (z : ActorState). Suits z (account_of (seen n.me)).seen) (sym shut.same.1)
              (suits_after (first_of x.me.0) (account_of (seen x.me)) (acting x) o.me k opened.opens (acting x') k' along (account_of (seen n.me)) (account ∙ ap (up_to_date k'.history) opened.opens.account))

          pub rests_back : IsResting n
          rests_back = (shut.rests, suits_back)

          gives : Gives (first_of x'.me.0) (account_of (seen o.me)) (lock_in o.me.0) k' (account_of (seen n.me)) (lock_in n.me.0)
          gives = subst (λ (z : CoreMe (KernelView C) × LockView). Gives (first_of x'.me.0) (account_of z.0) z.1 k' (account_of (seen n.me)) (lock_in n.me.0)) (λ i. (did.core.core i, did.core.lock i)) shut.event

          -- its steps on words are those of its caller
          words : StepsOnWords (shown k.history k.room (lock_in o.me.0) (caller_by x)) (record (shown k.history k.room (lock_in o.me.0) (caller_by x)) { mutexes = (acting x').mutexes })
          words =
              let first : first_of x'.me.0 ≡ first_of x.me.0 = did.core.first ∙ opened.opens.first_is in
              let taken = opened.same.1 in
              let account : account_of (seen x'.me) ≡ saw k.history k.room (account_of (seen x.me)) = ap account_of did.core.core ∙ opened.opens.account in
              let before : caller_by o ≡ shown k.history k.room (lock_in o.me.0) (caller_by x) = λ i. caller_of (machine_of (opened.same.0 i) (opened.opens.first_is i) (taken i).staxes (taken i).mutexes) (opened.opens.account i) (lock_in o.me.0) (taken i).staxes (taken i).mutexes in
              let after : caller_by x' ≡ record (shown k.history k.room (lock_in o.me.0) (caller_by x)) { mutexes = (acting x').mutexes } = λ i. caller_of (record { id = (did.table ∙ opened.same.0) i; first = first i; staxes = map stax_home (along.staxes i); mutexes = along.homes i }) (account i) (did.core.lock i) (along.staxes i) (acting x').mutexes in
              subst (λ (z : CallerState C × CallerState C). StepsOnWords z.0 z.1) (λ i. (before i, after i)) (steps_on_words o x' opened.own.places.its did.made)

          -- what is known of the visit
          pub visited : {old : CallerState C} {does : ActorState → KernelView C → ActorState → KernelView C → Type 0} → caller_by x ≡ old → does (acting o) k (acting x') k' → Visited old does (caller_by n)
          visited {old} {does} was done =
              let a = account_of (seen n.me) in
              let first : first_of n.me.0 ≡ first_of o.me.0 = shut.same.2 ∙ did.core.first in
              let owned : AreOwnedAsRecorded (acting x).thread.0 (acting x).mutexes k.history = subst (λ (z : ActorState). AreOwnedAsRecorded z.thread.0 z.mutexes k.history) opened.same.1 (owned_seats opened) in
              subst (λ (z : ActorState). Visited old does (caller_of (machine_of n.table (first_of n.me.0) z.staxes z.mutexes) a (lock_in n.me.0) z.staxes z.mutexes)) (sym shut.same.1)
              (visited_at (first_of x.me.0) (account_of (seen x.me)) (acting x) o.me k opened.opens (acting x') k' along x.table n.table (first_of n.me.0) does (lock_in x.me.0) a (lock_in n.me.0) old was (shut.same.0 ∙ did.table ∙ opened.same.0) first suits owned account
              (subst (λ (z : ActorState). does z k (acting x') k') opened.same.1 done) words opened.event (subst (λ (f : KernelView C). Gives f (account_of (seen o.me)) (lock_in o.me.0) k' a (lock_in n.me.0)) did.core.first gives))

          -- and of a call
          module _ {c : Call} {r : Result Reply Refusal} (done : Applied k o.thread.0 c r k') where
            pub called_by : Answered (first_of x.me.0).limit (account_of (seen x.me)) c r (account_of (seen n.me))
            called_by =
                let opens = opened.opens in
                let own = sym opens.held.own ∙ ap (λ (y : Account). y.thread) opens.account in
                subst (λ (y : Account). Answered (first_of x.me.0).limit (account_of (seen x.me)) c r y) (sym (account ∙ ap (up_to_date k'.history) opens.account))
                (calls (first_of x.me.0).limit (account_of (seen x.me)) c r k k' opens.comes.limit opens.was opens.fits (subst IsAccount opens.account opens.held.continues.before) (subst (λ (t : ℕ). Applied k t c r k') (ap (λ (t : ThreadId). t.0) opened.thread ∙ own) done))

            pub acted_by : ActsOnCore (first_of x.me.0) (account_of (seen x.me)) (lock_in x.me.0) r (account_of (seen n.me)) (lock_in n.me.0)
            acted_by = took_and_gave (first_of x.me.0) (first_of x'.me.0) (account_of (seen x.me)) (lock_in x.me.0) (account_of (seen o.me)) (lock_in o.me.0) (account_of (seen n.me)) (lock_in n.me.0) r k' done.answers opened.event (did.core.first ∙ opened.opens.first_is) gives

-- the caller of a machine, which is the machine that is given here
module _ {C : Type 0} (old : CallerState C) {told m : MachineState C} (belongs : old.machine ≡ m) (same : told ≡ m) where
  -- whether a mutex has a ceiling is read off the machine
  pub its_kind : {ceiling : Bool} (mutex : MutexId) → has_ceiling (kind_of old mutex) ≡ ceiling → has_ceiling (slice_get told.first.history.board.mutexes.items mutex.0) ≡ ceiling
  its_kind mutex is = ap (λ (s : MachineState C). has_ceiling (slice_get s.first.history.board.mutexes.items mutex.0)) (same ∙ sym belongs) ∙ is

  module _ (x : SeatedActor C) (was : caller_by x ≡ old) where
    pub its_machine : machine_by x ≡ told
    its_machine = ap (λ (s : CallerState C). s.machine) was ∙ belongs ∙ sym same

    pub its_id : x.table ≡ told.id
    its_id = ap (λ (s : MachineState C). s.id) its_machine

    pub its_first : first_of x.me.0 ≡ told.first
    its_first = ap (λ (s : MachineState C). s.first) its_machine

    pub its_homes : map mutex_home (acting x).mutexes ≡ told.mutexes
    its_homes = ap (λ (s : MachineState C). s.mutexes) its_machine

    -- an actor that took the kernel is at the machine's table still
    pub its_table : {o : SeatedActor C} {k : KernelView C} → HasOpened x o k → (o.table ≡ told.id) × (first_of o.me.0 ≡ told.first)
    its_table opened = (opened.same.0 ∙ its_id, opened.same.2 ∙ its_first)
