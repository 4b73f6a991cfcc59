-- A token's steps are its caller's.
use Rattle.std.proofs.Common.{◌≡◌, ℕ, List, [], ◌∷◌, Option, Some, None, refl, sym, ap, ◌∙◌, subst, Bool}
use Rattle.evl_base.specs.declared.numbers.ThreadId.{ThreadId}
use Rattle.evl_kernel.specs.state.KernelViews.{KernelView}
use Rattle.evl_words.specs.Hands.{place}
use Rattle.evl_words.specs.MutexCalls.{MutexSeatState}
use Rattle.evl_words.specs.MutexWorld.{MutexKind, MutexView, frees, offers}
use Rattle.evl_words.specs.declared.history.Place.{Place}
use Rattle.evl_core.specs.declared.views.ThreadView.{ThreadView}
use Rattle.evl_core.specs.accounts.Seats.{first_account}
use Rattle.evl_core.specs.rule.Known.{ComesFrom, CoreHand, KernelMe, accounts_in, ceilings_of, first_of, lock_in, mutex_count, past_of, room_of}
use Rattle.evl_core.specs.rule.ThreadRule.{mutex_of}
use Rattle.evl_core.specs.words.MutexTokens.{AreItsPlaces, part_of}
use Rattle.evl_core.specs.words.Noted.{MakesOne, NotesGiven}
use Rattle.evl_core.specs.worlds.OneWorld.{OneKind, on_word}
use Rattle.evl_core.specs.rule.TieTells.{EventOf}
use Rattle.evl_machine.specs.callers.Actors.{SeatedActor}
use Rattle.evl_machine.specs.callers.Callers.{caller_by}
use Rattle.evl_machine.specs.callers.Handles.{CallerState}
use Rattle.evl_machine.specs.callers.OneSteps.{EventsOnWords, IsOfThread, MakesEach, MakesSome, StepsInOne, StepsOnWords}
use Rattle.evl_machine.proofs.callers.Together.{placed_at}

heads : {A : Type 0} {x y : A} {xs ys : List A} → x ∷ xs ≡ y ∷ ys → x ≡ y
heads h = cc

module _ {C : Type 0} where
  of_thread : (a : SeatedActor C) (k : ℕ) (v : ThreadView (KernelView C) MutexView) → a.me.0 ≡ place k v ∷ [] → IsOfThread k v (caller_by a)
  of_thread a k v one = record {
    account = sym (ap (λ (hand : CoreHand C). first_account (accounts_in hand)) one);
    first = sym (ap (λ (hand : CoreHand C). first_of hand) one);
    lock = sym (ap (λ (hand : CoreHand C). lock_in hand) one);
    mutexes = λ i s there.
        let p = placed_at a.table a.me.0 a.places i s there in
        subst (λ (x : MutexSeatState). mutex_of x.mutex.0 v ≡ x.view) p.2 (sym (ap (λ (hand : CoreHand C). part_of hand p.0.mutex.0) one));
  }

  pub steps_in_one : (x n : SeatedActor C) (old : CallerState C) → caller_by x ≡ old → (kind : OneKind (KernelView C)) → MakesOne kind x.me.0 n.me.0 → StepsInOne kind old (caller_by n)
  steps_in_one x n old was kind one = subst (λ (z : CallerState C). StepsInOne kind z (caller_by n)) was (record {
    number = one.number;
    before = one.before;
    after = one.after;
    was = of_thread x one.number one.before one.one;
    is = of_thread n one.number one.after one.now;
    found = one.found;
    event = one.event;
  })

  -- a step that noted what it did, and one more; and then no step
  pub one_made : (x a : SeatedActor C) → x ≡ a → (i : ℕ) (kind : MutexKind) (new : CoreHand C) → MakesOne (on_word i kind) x.me.0 new → MakesSome a.me.0 new
  one_made x a is i kind new one = ((i, kind) ∷ [], (a.me.0, refl, subst (λ (z : SeatedActor C). MakesOne (on_word i kind) z.me.0 new) is one))

  pub two_made : (x a : SeatedActor C) → x ≡ a → (i j : ℕ) (kind next : MutexKind) (between new : CoreHand C) → MakesOne (on_word i kind) x.me.0 between → MakesOne (on_word j next) between new → MakesSome a.me.0 new
  two_made x a is i j kind next between new one two = ((j, next) ∷ (i, kind) ∷ [], (between, (a.me.0, refl, subst (λ (z : SeatedActor C). MakesOne (on_word i kind) z.me.0 between) is one), two))

  pub none_made : (old new : KernelMe C) → new ≡ old → MakesSome old.0 new.0
  none_made old new same = ([], ap (λ (m : KernelMe C). m.0) same)

  pub made_then : (old : CoreHand C) (m new : KernelMe C) → new ≡ m → MakesSome old m.0 → MakesSome old new.0
  made_then old m new same made = subst (λ (z : KernelMe C). MakesSome old z.0) (sym same) made

  -- the step by which a mutex is given to the next owner, or to nobody
  pub given_made : (i : ℕ) (next : Option ThreadId) (more : Bool) (old new : CoreHand C) → NotesGiven i next more old new → MakesSome old new
  given_made i (Some next) more old new noted = ((i, offers next.0 more) ∷ [], (old, refl, noted.event))
  given_made i None more old new noted = ((i, frees) ∷ [], (old, refl, noted.event))

  each_event : (steps : List (ℕ × MutexKind)) (old new : CoreHand C) (k : ℕ) (v : ThreadView (KernelView C) MutexView) → old ≡ place k v ∷ [] → MakesEach steps old new → (u : ThreadView (KernelView C) MutexView) × (new ≡ place k u ∷ []) × EventsOnWords k v steps u
  each_event [] old new k v one same = (v, same ∙ one, refl)
  each_event ((i, kind) ∷ earlier) old new k v one (between, before, last) =
      let t = each_event earlier old between k v one before in
      let at : place last.number last.before ≡ place k t.0 = heads (sym last.one ∙ t.1) in (
        last.after,
        last.now ∙ ap (λ (p : Place (ThreadView (KernelView C) MutexView)). place p.number last.after ∷ []) at,
        (t.0, last.found, t.2, subst (λ (p : Place (ThreadView (KernelView C) MutexView)). EventOf past_of room_of ComesFrom ceilings_of mutex_count p.number p.view (on_word i kind) last.found last.after) at last.event),
      )

  -- of a token that acts for one thread
  pub steps_on_words : (o n : SeatedActor C) → AreItsPlaces o.me.0 o.places → MakesSome o.me.0 n.me.0 → StepsOnWords (caller_by o) (caller_by n)
  steps_on_words o n its (steps, made) =
      let t = each_event steps o.me.0 n.me.0 its.number its.thread its.one made in record {
        number = its.number;
        before = its.thread;
        after = t.0;
        was = of_thread o its.number its.thread its.one;
        is = of_thread n its.number t.0 t.1;
        steps = steps;
        events = t.2;
      }
