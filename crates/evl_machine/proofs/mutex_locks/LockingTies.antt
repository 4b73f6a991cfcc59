-- All that a visit of the kernel finds by the ties, and how it settles them: for each call on a mutex, and for every other one.
use Rattle.std.proofs.Common.{◌≡◌, ◌≢◌, ◌⊎◌, ⊎_elim, ◌<◌, ◌+◌, eqb, ne_eqb, ℕ, zero, suc, not, Bool, true, false, true≢false, List, [], ◌∷◌, length, map, Option, Some, None, is_some, option_map, Result, Ok, Err, if◌then◌else◌, slice_get, refl, sym, ap, ◌∙◌, subst, arith}
use Rattle.std.specs.Prelude.{bit_and, bit_or, ◌||◌, ◌&&◌, ◌==◌}
use Rattle.std.specs.Option.{option_map_or}
use mathlib.Core.Logic.{dite}
use native.Mathlib.Decide.{ℕ_discrete}
use prog.Atomic.{either}
use Rattle.evl_base.specs.Board.{board_fits}
use Rattle.evl_base.specs.declared.board.Board.{Board}
use Rattle.evl_base.specs.declared.call.Call.{Call}
use Rattle.evl_base.specs.declared.call.Call.TheVariants.{Claim, Release, Raise, Finish}
use Rattle.evl_base.specs.declared.mutex_kind.MutexKind.{MutexKind}
use Rattle.evl_base.specs.declared.numbers.MutexId.{MutexId}
use Rattle.evl_base.specs.declared.numbers.ThreadId.{ThreadId}
use Rattle.evl_base.specs.declared.refusal.Refusal.{Refusal}
use Rattle.evl_base.specs.declared.refusal.Refusal.TheVariants.{Invalid}
use Rattle.evl_base.specs.declared.reply.Reply.{Reply}
use Rattle.evl_base.specs.declared.reply.Reply.TheVariants.{Handed}
use Rattle.evl_base.specs.declared.stage.Stage.TheVariants.{Oob}
use Rattle.evl_base.specs.Limits.{thread_limit}
use Rattle.evl_mutex.specs.Mutexes.{Mutex, opened_mutex}
use Rattle.evl_kernel.specs.declared.waits.Awaited.{Awaited}
use Rattle.evl_kernel.specs.declared.waits.Awaited.TheVariants.{Sem, Flags, Writing, Reading, Mutex as OnMutex}
use Rattle.evl_kernel.specs.declared.waits.Wait.{Wait}
use Rattle.evl_kernel.specs.waiting.Endings.{has_got_mutex}
use Rattle.evl_kernel.specs.calls.Families.{task_of}
use Rattle.evl_kernel.specs.histories.Histories.{History, IsLegal, Step}
use Rattle.evl_kernel.specs.state.KernelViews.{KernelView, makes_entry}
use Rattle.evl_kernel.specs.calls.MutexEffects.{has_got, record_at}
use Rattle.evl_kernel.specs.histories.MutexRests.{got_it, is_for, touches_mutex}
use Rattle.evl_kernel.specs.state.States.{State}
use Rattle.evl_kernel.specs.histories.WaitOwners.{awaited_at}
use Rattle.evl_kernel.specs.waiting.Waits.{has_ended, has_timed_out, wait_at}
use Rattle.evl_kernel.proofs.calls.AnswerLaws.{finish_tells, next_is_there}
use Rattle.evl_kernel.proofs.histories.MutexEnds.{waits_end_rightly}
use Rattle.evl_kernel.proofs.state.OpeningLaws.{threads_few}
use Rattle.evl_kernel.proofs.histories.OwnRunLaws.{mutexes_by_themselves}
use Rattle.evl_kernel.proofs.waiting.ProperSteps.{proper_at}
use Rattle.evl_words.specs.declared.mutex.Claim.TheVariants.{Won, Queued, Seizing}
use Rattle.evl_words.specs.declared.mutex.MutexPass.{MutexPass}
use Rattle.evl_words.specs.Mutex as word
use Rattle.evl_words.specs.Mutex.{owned, offered, claimed_word}
use Rattle.evl_words.specs.MutexBits.{mutex_word, offer_word, offers_to}
use Rattle.evl_words.specs.MutexWorld.{MutexKind as Kind, MutexView, accepts, awaits, claims, forgets, frees, offers, owns, settles, step_word, tries}
use Rattle.evl_words.proofs.MutexWords.{accept-word, mark-word}
use Rattle.evl_machine.specs.declared.unfinished.Unfinished.{Unfinished}
use Rattle.evl_machine.specs.declared.unfinished.Unfinished.TheVariants.{Mutex as of_mutex}
use Rattle.evl_core.specs.declared.views.Noted.{Noted as Note}
use Rattle.evl_core.specs.accounts.Accounts.{threads_of}
use Rattle.evl_machine.specs.callers.Actors.{IsActor, SeatedActor, acting, call_refusal, same_truth, keeps_stage, waits_for_mutex}
use Rattle.evl_core.specs.accounts.KernelCalls.{Applied}
use Rattle.evl_machine.specs.callers.JustTaken.{HasJustTaken}
use Rattle.evl_core.specs.rule.Known.{CoreHand, ceilings_of, first_of, mutex_count}
use Rattle.evl_machine.specs.mutex_locks.Locking.{EntersOne}
use Rattle.evl_core.specs.words.MutexSeats.{HasOnce}
use Rattle.evl_core.specs.words.MutexTokens.{part_of}
use Rattle.evl_core.specs.words.Noted.{Found, FoundAny, FoundClaimed, FoundFree, FoundOffered, FoundTaken, IsSettled, Notes, NotesGiven, ceilings_in, number_of}
use Rattle.evl_core.specs.rule.Ties.{AreTied, IsLeft, StandsNoted}
use Rattle.evl_machine.proofs.callers.AwaitedCalls.{kept, kept_of, mutex_awaited, none_awaited, unfinished_is}
use Rattle.evl_core.proofs.ties.FoundWords.{Shown, offer_found, owned_found, queued_found, seizing_found, shown, won_found}
use Rattle.evl_core.proofs.words.MutexStepLaws.{owner_is, part_is}
use Rattle.evl_core.proofs.words.SeatLists.{some-within}
use Rattle.evl_machine.proofs.mutex_locks.SeatsAt.{once_at}
use Rattle.evl_core.proofs.ties.Settling.{settled_fresh, settled_noting, stay_same, stood_fresh}
use Rattle.evl_core.proofs.ties.TieFinds.{over_finds, raise_passes, release_passes}
use Rattle.evl_core.proofs.ties.TieRecords.{tied_refused}
use Rattle.evl_core.proofs.rule.TieRule.{from_true}
use Rattle.evl_core.proofs.ties.TieSteps.{not_seized, word_given}
use Rattle.evl_core.proofs.ties.TieVisits.{OthersStay, TiesStay, accept_stays, claim_stays, finish_stays, left_offered, other_stays, raise_stays, refused_stays, release_stays, tied_plain}

opened_there : (kinds : List MutexKind) (i : ℕ) → i < length kinds → (kind : MutexKind) × (slice_get (map opened_mutex kinds) i ≡ Some (opened_mutex kind))
opened_there [] i less = absurd (omega (arith, less))
opened_there (kind ∷ kinds) zero less = (kind, refl)
opened_there (kind ∷ kinds) (suc i) less = opened_there kinds i (omega (arith, less))

-- a mutex of the board is recorded
pub recorded : (h : History) → IsLegal h → (i : ℕ) → i < length h.board.mutexes.items → (m : Mutex) × (record_at h.state i ≡ Some m)
recorded h legal i less =
    let o = opened_there h.board.mutexes.items i less in
    let r = mutexes_by_themselves i h legal (opened_mutex o.0) o.1 in
    (r.0, r.1)

-- who waits for one mutex has got no other
got_elsewhere : (s : State) (k : ℕ) (id : MutexId) → awaited_at s k ≡ Some (OnMutex id) → (j : ℕ) → j ≢ id.0 → has_got s j k ≡ false
got_elsewhere s k id on j other = by (wait_at s k) on
  where
    at : (w : Wait) → w.on ≡ OnMutex id → got_it j (Some w) ≡ false
    at w is = ap (λ (a : Awaited). is_for j a && option_map_or Rattle.evl_kernel.specs.histories.MutexRests.is_done w.outcome false) is ∙ ap (λ b. b && option_map_or Rattle.evl_kernel.specs.histories.MutexRests.is_done w.outcome false) (ne_eqb id.0 j (λ e. other (sym e)))

    by : (o : Option Wait) → option_map (λ (w : Wait). w.on) o ≡ Some (OnMutex id) → got_it j o ≡ false
    by None is = refl
    by (Some w) is = at w (cc)

-- who waits for no mutex has got none by its wait
got_no_mutex : (o : Option Wait) → waits_for_mutex (kept (option_map (λ (w : Wait). w.on) o)) ≡ false → has_got_mutex o ≡ false
got_no_mutex None free = refl
got_no_mutex (Some w) free = by w.on free
  where
    by : (a : Awaited) → waits_for_mutex (Some (kept_of a)) ≡ false → option_map_or (Rattle.evl_kernel.specs.waiting.Endings.got_mutex a) w.outcome false ≡ false
    by (OnMutex id) free = absurd (true≢false free)
    by (Sem id) free = none w.outcome
      where
        none : (o : Option Reply) → option_map_or (Rattle.evl_kernel.specs.waiting.Endings.got_mutex (Sem id)) o false ≡ false
        none None = refl
        none (Some r) = refl
    by (Flags id) free = none w.outcome
      where
        none : (o : Option Reply) → option_map_or (Rattle.evl_kernel.specs.waiting.Endings.got_mutex (Flags id)) o false ≡ false
        none None = refl
        none (Some r) = refl
    by (Writing id way) free = none w.outcome
      where
        none : (o : Option Reply) → option_map_or (Rattle.evl_kernel.specs.waiting.Endings.got_mutex (Writing id way)) o false ≡ false
        none None = refl
        none (Some r) = refl
    by (Reading id way) free = none w.outcome
      where
        none : (o : Option Reply) → option_map_or (Rattle.evl_kernel.specs.waiting.Endings.got_mutex (Reading id way)) o false ≡ false
        none None = refl
        none (Some r) = refl

-- a call that its caller doesn't refuse is about no mutex, but for the end of a wait for one
plain_finish : (waits same : Bool) → (if waits || not same then Some Invalid else None) ≡ None → waits ≡ false
plain_finish true same free = absurd (cc)
plain_finish false same free = refl

pub touches_none : (s : State) (k : ℕ) (stax mutex : Bool) (c : Call) → call_refusal (kept (awaited_at s k)) stax mutex c ≡ None → touches_mutex s k (task_of c) ≡ false
touches_none s k stax mutex (Claim id owner until) free = absurd (cc)
touches_none s k stax mutex (Release id) free = absurd (cc)
touches_none s k stax mutex (Raise id) free = absurd (cc)
touches_none s k stax mutex (Finish keep) free = got_no_mutex (wait_at s k) (plain_finish (waits_for_mutex (kept (awaited_at s k))) (same_truth keep (keeps_stage stax mutex)) free)
touches_none s k stax mutex _ free = refl

module _ {C : Type 0} where
  -- what an entered call did
  abbrev pub step_of : (k k' : KernelView C) (t : ℕ) (c : Call) (r : Result Reply Refusal) → (e : EntersOne k t c r k') → Step k.history.state t c r e.1.0 k'.history.state
  step_of k k' t c r e = e.1.1.extends.step.1

  -- every other call leaves the ties
  pub other_call_stays : (ceilings : ℕ → Bool) (k k' : KernelView C) (t : ℕ) (c : Call) (r : Result Reply Refusal) (wait : Option Unfinished) (stax mutex : Bool) → IsLegal k.history → board_fits k.history.board ≡ true
      → wait ≡ Rattle.evl_machine.specs.callers.Unfinished.unfinished_wait (Rattle.evl_core.specs.accounts.Accounts.calls_by t k.history.entries) → call_refusal wait stax mutex c ≡ None → Applied k t c r k' → TiesStay ceilings k.history.state k'.history.state
  other_call_stays ceilings k k' t c r wait stax mutex legal fits is free done = by (makes_entry r) refl
    where
      by : (b : Bool) → makes_entry r ≡ b → TiesStay ceilings k.history.state k'.history.state
      by true entered =
          let e = done.entered entered in
          other_stays ceilings k.history legal fits t e.0 k'.history.state c r e.1.extends.step.1
          (touches_none k.history.state t stax mutex c (ap (λ (w : Option Unfinished). call_refusal w stax mutex c) (sym (is ∙ unfinished_is k.history legal fits t)) ∙ free))
      by false none = stay_same ceilings k.history.state k'.history.state (ap (λ (h : History). h.state) (done.refused none))

  -- a mutex with a ceiling, and a thread that may raise it: it is out-of-band and waits for nothing
  pub record MayRaise (a : SeatedActor C) (id : MutexId) : Type 0 where
    pub less : id.0 < mutex_count (first_of a.me.0)
    pub ceiling : ceilings_in a.me.0 id.0 ≡ true
    pub free : a.wait ≡ None
    pub oob : a.stage ≡ Oob

  -- a mutex that an actor has once is one of the board, and its own in its word
  pub owner_once : (a : SeatedActor C) (pass : MutexPass) → IsActor a → HasOnce (acting a).mutexes pass → (pass.mutex.0 < mutex_count (first_of a.me.0)) × (owns (part_of a.me.0 pass.mutex.0).held.role ≡ true)
  owner_once a pass own once =
      let i = pass.mutex.0 in
      let there = once_at a.table a.me.0 a.places pass once in
      let its = own.places.its in (
        subst (λ n. i < n) own.places.all (some-within _ a.places i there),
        ap (λ (x : MutexView). owns x.held.role) (part_is a.me.0 a.places i its) ∙ ap owns (owner_is a.me.0 a.places i its pass there),
      )

  -- what holds of an actor holds of the one that a function was lent
  module _ (x a : SeatedActor C) (is : x ≡ a) where
    pub just_as : (k : KernelView C) → HasJustTaken a k → HasJustTaken x k
    just_as k just = subst (λ (z : SeatedActor C). HasJustTaken z k) (sym is) just

    pub idle_as : a.wait ≡ None → x.wait ≡ None
    idle_as free = ap (λ (z : SeatedActor C). z.wait) is ∙ free

    pub count_as : (i : ℕ) → IsActor x → i < length a.places → i < mutex_count (first_of x.me.0)
    count_as i own less = subst (λ n. i < n) own.places.all (subst (λ (z : SeatedActor C). i < length z.places) (sym is) less)

    pub ceiling_as : (key : KernelView C) (i : ℕ) (b : Bool) → first_of a.me.0 ≡ key → ceilings_of key i ≡ b → ceilings_in x.me.0 i ≡ b
    ceiling_as key i b from told = ap (λ (z : SeatedActor C). ceilings_in z.me.0 i) is ∙ ap (λ (f : KernelView C). ceilings_of f i) from ∙ told

    pub may_raise : (key : KernelView C) (id : MutexId) → IsActor x → id.0 < length a.places → first_of a.me.0 ≡ key → ceilings_of key id.0 ≡ true → (a.wait ≡ None) × (a.stage ≡ Oob) → MayRaise x id
    may_raise key id own less from told may = record { less = count_as id.0 own less; ceiling = ceiling_as key id.0 true from told; free = idle_as may.0; oob = ap (λ (z : SeatedActor C). z.stage) is ∙ may.1 }

  -- what was settled stays so over calls that leave the ties
  pub still_settled : (hand : CoreHand C) (s t : State) → TiesStay (ceilings_in hand) s t → IsSettled hand s → IsSettled hand t
  still_settled hand s t stay settled h is i word stands = stay i word (settled h is i word stands)

  module _ (a : SeatedActor C) (k : KernelView C) (just : HasJustTaken a k) where
    abbrev thread : ℕ
    thread = a.thread.0

    abbrev ceilings : ℕ → Bool
    ceilings = ceilings_in a.me.0

    near : thread < thread_limit
    near = let few = threads_few k.history.board just.fits in let here = just.member in omega (arith, few, here)

    there : thread < k.history.state.threads
    there = subst (λ n. thread < n) (sym (proper_at k.history just.legal just.fits).threads_are) just.member

    idle : a.wait ≡ None → awaited_at k.history.state thread ≡ None
    idle free = none_awaited k.history just.legal just.fits thread (sym just.suits.wait ∙ free)

    waits_on : (id : MutexId) → a.wait ≡ Some (of_mutex id) → awaited_at k.history.state thread ≡ Some (OnMutex id)
    waits_on id waits = mutex_awaited k.history just.legal just.fits thread id (sym just.suits.wait ∙ waits)

    on_record : (i : ℕ) → i < mutex_count (first_of a.me.0) → (m : Mutex) × (record_at k.history.state i ≡ Some m)
    on_record i less = recorded k.history just.legal i (subst (λ (b : Board). i < length b.mutexes.items) (sym just.comes.board) less)

    -- nothing was entered, and no step made on a word
    pub same_settled : (h : History) → h ≡ k.history → IsSettled a.me.0 h.state
    same_settled h same = settled_fresh k.history a.me.0 h.state just.taken.taken just.taken.fresh (stay_same ceilings k.history.state h.state (ap (λ (h : History). h.state) same))

    -- a call that is about no mutex
    pub other_settled : (k' : KernelView C) (c : Call) (r : Result Reply Refusal) (stax mutex : Bool) → call_refusal a.wait stax mutex c ≡ None → Applied k thread c r k' → IsSettled a.me.0 k'.history.state
    other_settled k' c r stax mutex free done =
        settled_fresh k.history a.me.0 k'.history.state just.taken.taken just.taken.fresh (other_call_stays ceilings k k' thread c r a.wait stax mutex just.legal just.fits just.suits.wait free done)

    -- what stood at the first step on a word
    stood : (new : CoreHand C) (i : ℕ) (kind : Kind) (so : Found) → (n : Notes i kind so a.me.0 new) → AreTied ceilings k.history.state i n.found
    stood new i kind so n = stood_fresh k.history a.me.0 new i kind so just.taken.taken just.taken.fresh n

    settled_by : (new : CoreHand C) (after : State) (i : ℕ) (kind : Kind) (so : Found) → (n : Notes i kind so a.me.0 new) → AreTied ceilings after i (step_word n.found (number_of a.me.0) (part_of a.me.0 i) kind) → OthersStay ceilings i k.history.state after → IsSettled new after
    settled_by new after i kind so n mine others = settled_noting k.history a.me.0 new after i kind so just.taken.taken n mine others

    others_same : (i : ℕ) (h : History) → h ≡ k.history → OthersStay ceilings i k.history.state h.state
    others_same i h same j word ne tied = stay_same ceilings k.history.state h.state (ap (λ (h : History). h.state) same) j word tied

    -- a try at a ceiling that found the mutex taken
    pub lost_settled : (new : CoreHand C) (i : ℕ) (h : History) → Notes i tries FoundTaken a.me.0 new → h ≡ k.history → IsSettled new h.state
    lost_settled new i h n same =
        let left : step_word n.found (number_of a.me.0) (part_of a.me.0 i) tries ≡ n.found = ap (λ b. either b (number_of a.me.0 + 1) n.found) (ne_eqb n.found 0 n.found_so) in
        settled_by new h.state i tries FoundTaken n
        (subst (λ w. AreTied ceilings h.state i w) (sym left) (stay_same ceilings k.history.state h.state (ap (λ (h : History). h.state) same) i n.found (stood new i tries FoundTaken n)))
        (others_same i h same)

    -- the kernel accepts a raise of what was free
    pub raise_accepted : (id : MutexId) (k' : KernelView C) (r : Result Reply Refusal) → MayRaise a id → AreTied ceilings k.history.state id.0 0
        → EntersOne k thread (Raise id) r k' → (reply : Reply) × (r ≡ Ok reply)
    raise_accepted id k' r may tied entered =
        let m = on_record id.0 may.less in
        raise_passes ceilings k.history.state thread there (idle may.free) id m.0 r entered.1.0 k'.history.state m.1 may.ceiling tied (sym just.suits.stage ∙ may.oob) entered.1.1.extends.step.1

    raised_stays : (id : MutexId) (k' : KernelView C) (r : Result Reply Refusal) → MayRaise a id → AreTied ceilings k.history.state id.0 0
        → EntersOne k thread (Raise id) r k' → AreTied ceilings k'.history.state id.0 (thread + 1) × OthersStay ceilings id.0 k.history.state k'.history.state
    raised_stays id k' r may tied entered =
        let ok = raise_accepted id k' r may tied entered in
        raise_stays ceilings k.history just.legal just.fits thread entered.1.0 k'.history.state id ok.0
        (subst (λ (x : Result Reply Refusal). Step k.history.state thread (Raise id) x entered.1.0 k'.history.state) ok.1 entered.1.1.extends.step.1) near tied

    -- a try at a ceiling that took the mutex
    module _ (new : CoreHand C) (id : MutexId) (k' : KernelView C) (r : Result Reply Refusal) (n : Notes id.0 tries FoundFree a.me.0 new) (may : MayRaise a id) (entered : EntersOne k thread (Raise id) r k') where
      was_free : AreTied ceilings k.history.state id.0 0
      was_free = subst (λ w. AreTied ceilings k.history.state id.0 w) n.found_so (stood new id.0 tries FoundFree n)

      pub won_accepted : (reply : Reply) × (r ≡ Ok reply)
      won_accepted = raise_accepted id k' r may was_free entered

      pub won_settled : IsSettled new k'.history.state
      won_settled =
          let both = raised_stays id k' r may was_free entered in
          let left : step_word n.found (number_of a.me.0) (part_of a.me.0 id.0) tries ≡ thread + 1 = λ j. either (eqb (n.found_so j) 0) (just.taken.number j + 1) (n.found_so j) in
          settled_by new k'.history.state id.0 tries FoundFree n (subst (λ w. AreTied ceilings k'.history.state id.0 w) (sym left) both.0) both.1

    -- the kernel accepts a release by the owner
    pub release_accepted : (id : MutexId) (k' : KernelView C) (r : Result Reply Refusal) → id.0 < mutex_count (first_of a.me.0) → owns (part_of a.me.0 id.0).held.role ≡ true → a.wait ≡ None
        → EntersOne k thread (Release id) r k' → (reply : Reply) × (r ≡ Ok reply)
    release_accepted id k' r less owner free entered =
        let m = on_record id.0 less in
        release_passes ceilings k.history.state thread there (idle free) id m.0 r entered.1.0 k'.history.state m.1 (just.taken.owned id.0 less owner m.0 m.1) entered.1.1.extends.step.1

    released_stays : (id : MutexId) (next : Option ThreadId) (more : Bool) (k' : KernelView C) (w : ℕ) → (marked : Bool) × (w ≡ mutex_word (owned (number_of a.me.0) marked)) → AreTied ceilings k.history.state id.0 w → EntersOne k thread (Release id) (Ok (Handed next more)) k'
        → AreTied ceilings k'.history.state id.0 (word_given (option_map (λ (n : ThreadId). n.0) next) more) × OthersStay ceilings id.0 k.history.state k'.history.state
    released_stays id next more k' w (marked, is) tied entered =
        release_stays ceilings k.history just.legal just.fits thread entered.1.0 k'.history.state id next more entered.1.1.extends.step.1 marked near low
        (subst (λ x. AreTied ceilings k.history.state id.0 x) (is ∙ ap (λ n. mutex_word (owned n marked)) just.taken.number) tied)
      where
        low : (n : ThreadId) → next ≡ Some n → n.0 < thread_limit
        low n is =
            let few = threads_few k.history.board just.fits in
            let step : Step k.history.state thread (Release id) (Ok (Handed (Some n) more)) entered.1.0 k'.history.state = subst (λ (o : Option ThreadId). Step k.history.state thread (Release id) (Ok (Handed o more)) entered.1.0 k'.history.state) is entered.1.1.extends.step.1 in
            let here = next_is_there k.history k'.history.state thread id n more entered.1.0 just.legal just.fits step in
            omega (arith, few, here)

    -- a mutex that its owner handed on
    pub given_settled : (new : CoreHand C) (id : MutexId) (next : Option ThreadId) (more : Bool) (k' : KernelView C) → NotesGiven id.0 next more a.me.0 new → EntersOne k thread (Release id) (Ok (Handed next more)) k' → IsSettled new k'.history.state
    given_settled new id (Some next) more k' n entered =
        let mine = owned_found (number_of a.me.0) (part_of a.me.0 id.0) (part_of new id.0) (offers next.0 more) n.found n.does n.does.event.may.0 in
        let both = released_stays id (Some next) more k' n.found mine (stood new id.0 (offers next.0 more) FoundAny n) entered in
        settled_by new k'.history.state id.0 (offers next.0 more) FoundAny n both.0 both.1
    given_settled new id None more k' n entered =
        let mine = owned_found (number_of a.me.0) (part_of a.me.0 id.0) (part_of new id.0) frees n.found n.does n.does.event.may in
        let both = released_stays id None more k' n.found mine (stood new id.0 frees FoundAny n) entered in
        settled_by new k'.history.state id.0 frees FoundAny n both.0 both.1

    -- a claim that won, and was settled
    module _ (mid new : CoreHand C) (id : MutexId) (one : Notes id.0 claims (FoundClaimed Won) a.me.0 mid) (two : Notes id.0 settles FoundAny mid new) where
      nobody : AreTied ceilings k.history.state id.0 0
      nobody = subst (λ w. AreTied ceilings k.history.state id.0 w) (won_found one.found (shown (number_of a.me.0) (part_of a.me.0 id.0) (part_of mid id.0) claims one.found one.does) one.found_so) (stood mid id.0 claims (FoundClaimed Won) one)

      mine_now : (after : State) → AreTied ceilings after id.0 (thread + 1) → OthersStay ceilings id.0 k.history.state after → IsSettled new after
      mine_now after tied others =
          let first : ceilings_in mid ≡ ceilings = ap (λ f. ceilings_of f) one.first in
          settled_noting k.history mid new after id.0 settles FoundAny (one.taken ∙ just.taken.taken) two
          (subst (λ (z : (ℕ → Bool) × ℕ). AreTied z.0 after id.0 z.1) (λ j. (sym first j, sym (one.number ∙ just.taken.number) j + 1)) tied)
          (subst (λ (f : ℕ → Bool). OthersStay f id.0 k.history.state after) (sym first) others)

      pub begun_accepted : (k' : KernelView C) (r : Result Reply Refusal) → MayRaise a id → EntersOne k thread (Raise id) r k' → (reply : Reply) × (r ≡ Ok reply)
      begun_accepted k' r may entered = raise_accepted id k' r may nobody entered

      pub begun_settled : (k' : KernelView C) (r : Result Reply Refusal) → MayRaise a id → EntersOne k thread (Raise id) r k' → IsSettled new k'.history.state
      begun_settled k' r may entered = let both = raised_stays id k' r may nobody entered in mine_now k'.history.state both.0 both.1

      pub plain_settled : (h : History) → ceilings id.0 ≡ false → h ≡ k.history → IsSettled new h.state
      plain_settled h plain same =
          let small = near in
          let state : h.state ≡ k.history.state = ap (λ (h : History). h.state) same in
          mine_now h.state
          (subst (λ (s : State). AreTied ceilings s id.0 (thread + 1)) (sym state) (tied_plain ceilings k.history.state id.0 0 (thread + 1) (omega arith) (omega (arith, small)) plain nobody))
          (others_same id.0 h same)

    -- a claim that queued, and the kernel's answer to the wait
    pub queued_settled : (new : CoreHand C) (id : MutexId) (owner : ThreadId) (until : Option ℕ) (k' : KernelView C) (r : Result Reply Refusal) → Notes id.0 claims (FoundClaimed (Queued owner)) a.me.0 new → EntersOne k thread (Claim id owner until) r k' → IsSettled new k'.history.state
    queued_settled new id owner until k' r n entered =
        let s = shown (number_of a.me.0) (part_of a.me.0 id.0) (part_of new id.0) claims n.found n.does in
        let who = queued_found n.found s owner n.found_so in
        let tied : AreTied ceilings k.history.state id.0 (mutex_word s.mutex) = subst (λ w. AreTied ceilings k.history.state id.0 w) s.word (stood new id.0 claims (FoundClaimed (Queued owner)) n) in
        let left : step_word n.found (number_of a.me.0) (part_of a.me.0 id.0) claims ≡ mutex_word (claimed_word s.mutex thread) = ap (λ w. bit_or w 2147483648) s.word ∙ mark-word s.mutex thread s.below in
        let both = by s who tied r entered.1.1.extends.step.1 in
        settled_by new k'.history.state id.0 claims (FoundClaimed (Queued owner)) n (subst (λ w. AreTied ceilings k'.history.state id.0 w) (sym left) both.0) both.1
      where
        by : (s : Shown n.found) → (s.mutex ≢ word.unowned) × (Rattle.evl_words.specs.MutexBits.number_in (mutex_word s.mutex) ≡ owner.0 + 1) → AreTied ceilings k.history.state id.0 (mutex_word s.mutex)
            → (x : Result Reply Refusal) → Step k.history.state thread (Claim id owner until) x entered.1.0 k'.history.state → AreTied ceilings k'.history.state id.0 (mutex_word (claimed_word s.mutex thread)) × OthersStay ceilings id.0 k.history.state k'.history.state
        by s who tied (Ok reply) step = claim_stays ceilings k.history just.legal just.fits thread entered.1.0 k'.history.state id owner until reply step s.mutex s.below near who.0 who.1 tied
        by s who tied (Err why) step =
            let stay = refused_stays ceilings k.history.state k'.history.state thread (Claim id owner until) why entered.1.0 step in
            (stay id.0 (mutex_word (claimed_word s.mutex thread)) (tied_refused ceilings id.0 k.history.state s.mutex thread s.below near who.0 tied), λ j w ne t. stay j w t)

    -- nobody else has won a mutex and not settled it
    pub never_seizing : (new : CoreHand C) (id : MutexId) → id.0 < mutex_count (first_of a.me.0) → Notes id.0 claims (FoundClaimed Seizing) a.me.0 new → ⊥
    never_seizing new id less n =
        let s = seizing_found n.found (shown (number_of a.me.0) (part_of a.me.0 id.0) (part_of new id.0) claims n.found n.does) n.found_so in
        let m = on_record id.0 less in
        let tied : AreTied ceilings k.history.state id.0 (mutex_word (word.seized s.0)) = subst (λ w. AreTied ceilings k.history.state id.0 w) s.1 (stood new id.0 claims (FoundClaimed Seizing) n) in
        not_seized m.0 s.0 (tied m.0 m.1).1.owner

    -- a wait that is over
    module _ (id : MutexId) (less : id.0 < mutex_count (first_of a.me.0)) (waits : a.wait ≡ Some (of_mutex id)) (over : has_ended k.history.state thread ≡ true) where
      finds : (new : CoreHand C) (kind : Kind) (so : Found) (n : Notes id.0 kind so a.me.0 new) → offers_to n.found (number_of a.me.0) ≡ not (has_timed_out k.history.state thread)
      finds new kind so n =
          let m = on_record id.0 less in
          ap (offers_to n.found) just.taken.number ∙ over_finds ceilings k.history just.legal just.fits thread id m.0 n.found m.1 (stood new id.0 kind so n) (waits_on id waits) over

      -- the kernel ends it, where there is room
      ended : (k' : KernelView C) (keep : Bool) (r : Result Reply Refusal) → EntersOne k thread (Finish keep) r k' → (reply : Reply) × EntersOne k thread (Finish keep) (Ok reply) k'
      ended k' keep r entered =
          let t = finish_tells k.history k'.history.state thread keep r entered.1.0 just.legal just.fits just.member over entered.1.1.extends.step.1 in
          (t.0, subst (λ (x : Result Reply Refusal). EntersOne k thread (Finish keep) x k') t.1 entered)

      -- whose deadline came first isn't offered the mutex
      pub late_forgets : (new : CoreHand C) → has_timed_out k.history.state thread ≡ true → Notes id.0 forgets (FoundOffered true) a.me.0 new → ⊥
      late_forgets new late n = true≢false (sym n.found_so ∙ finds new forgets (FoundOffered true) n ∙ ap not late)

      pub late_settled : (new : CoreHand C) (k' : KernelView C) (keep : Bool) (r : Result Reply Refusal) → has_timed_out k.history.state thread ≡ true → Notes id.0 forgets (FoundOffered false) a.me.0 new → EntersOne k thread (Finish keep) r k' → IsSettled new k'.history.state
      late_settled new k' keep r late n entered =
          let e = ended k' keep r entered in
          let stay = finish_stays ceilings k.history just.legal just.fits thread e.1.1.0 k'.history.state keep e.0 e.1.1.1.extends.step.1 none in
          settled_by new k'.history.state id.0 forgets (FoundOffered false) n (stay id.0 n.found (stood new id.0 forgets (FoundOffered false) n)) (λ j w ne t. stay j w t)
        where
          none : (j : ℕ) → has_got k.history.state j thread ≡ false
          none j = dite (ℕ_discrete j id.0)
              (λ (e : j ≡ id.0). ap (λ n. has_got k.history.state n thread) e ∙ waits_end_rightly k.history just.legal just.fits thread id (waits_on id waits) over ∙ ap not late)
              (λ (ne : j ≢ id.0). got_elsewhere k.history.state thread id (waits_on id waits) j ne)

      -- who got the mutex is offered it
      pub got_accepts : (new : CoreHand C) → has_timed_out k.history.state thread ≡ false → Notes id.0 awaits (FoundOffered false) a.me.0 new → ⊥
      got_accepts new got n = true≢false (ap not (sym got) ∙ sym (finds new awaits (FoundOffered false) n) ∙ n.found_so)

      pub got_settled : (mid new : CoreHand C) (k' : KernelView C) (keep : Bool) (r : Result Reply Refusal) → Notes id.0 awaits (FoundOffered true) a.me.0 mid → Notes id.0 accepts FoundAny mid new → EntersOne k thread (Finish keep) r k' → IsSettled new k'.history.state
      got_settled mid new k' keep r one two entered =
          let e = ended k' keep r entered in
          let offer = offer_found (number_of a.me.0) (part_of a.me.0 id.0) (part_of mid id.0) awaits one.found one.does one.found_so in
          let marked = offer.0 in
          let first : ceilings_in mid ≡ ceilings = ap (λ f. ceilings_of f) one.first in
          let found : one.found ≡ offer_word thread marked = offer.1 ∙ ap (λ n. offer_word n marked) just.taken.number in
          let stands = subst (λ (o : Option Note). StandsNoted (ceilings_in mid) k.history.state id.0 o two.found) one.note (two.stood k.history (one.taken ∙ just.taken.taken)) in
          let left = from_true (id.0 == id.0) (IsLeft (ceilings_in mid id.0) one.found two.found) (AreTied (ceilings_in mid) k.history.state id.0 two.found) (Rattle.std.proofs.Common.eq-eqb id.0 id.0 refl) stands in
          let still : two.found ≡ offer_word thread marked = left_offered (ceilings_in mid) (ceilings_in mid id.0) thread marked two.found (subst (λ w. IsLeft (ceilings_in mid id.0) w two.found) found left) in
          let both = accept_stays ceilings k.history just.legal just.fits thread e.1.1.0 k'.history.state id keep e.0 e.1.1.1.extends.step.1 marked near (got_elsewhere k.history.state thread id (waits_on id waits))
          (subst (λ w. AreTied ceilings k.history.state id.0 w) found (stood mid id.0 awaits (FoundOffered true) one)) in
          let now : step_word two.found (number_of mid) (part_of mid id.0) accepts ≡ mutex_word (owned thread marked) = ap (λ w. bit_and w 18446744072635809791) still ∙ accept-word thread marked near in
          settled_noting k.history mid new k'.history.state id.0 accepts FoundAny (one.taken ∙ just.taken.taken) two
          (subst (λ (z : (ℕ → Bool) × ℕ). AreTied z.0 k'.history.state id.0 z.1) (λ j. (sym first j, sym now j)) both.0)
          (subst (λ (f : ℕ → Bool). OthersStay f id.0 k.history.state k'.history.state) (sym first) both.1)
