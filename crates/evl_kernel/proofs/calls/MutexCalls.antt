-- The calls on mutexes, as steps of their records.
use Rattle.std.proofs.Common.{◌≡◌, ◌≢◌, ◌<◌, ℕ, suc, ◌==◌, Bool, true, false, List, [], ◌∷◌, length, Option, Some, None, option_map, Result, Ok, Err, IfOk, IfErr, is_ok, slice_get, if◌then◌else◌, refl, sym, ap, ◌∙◌, arith}
use Rattle.std.specs.List.{list_any}
use Rattle.std.specs.Option.{option_map_or}
use Rattle.std.proofs.lemmas.Bool.{false≢true}
use Rattle.std.proofs.lemmas.Bool.Decides.{nat_tests}
use Rattle.evl_base.specs.declared.numbers.ThreadId.{ThreadId}
use Rattle.evl_base.specs.declared.refusal.Refusal.{Refusal}
use Rattle.evl_base.specs.declared.refusal.Refusal.TheVariants.{Unknown, NotOwner}
use Rattle.evl_base.specs.declared.reply.Reply.TheVariants.{Begun, Handed}
use Rattle.evl_mutex.specs.Mutexes.{Mutex, is_open_to, is_waited_for_by, released_mutex, claimed_mutex as with_waiter}
use Rattle.evl_mutex.specs.declared.waiter.Waiter.{Waiter}
use Rattle.evl_mutex.specs.Owners.{Owners, IsClaim, IsRelease, changed_at, claim_answer, claim_answer_at, claim_refusal, claim_refusal_at, claimed_by, is_thread, is_waiting, rank_of, with_mutex, would_ring}
use Rattle.evl_mutex.specs.Views.{numbers_of}
use Rattle.evl_kernel.specs.state.States.{Elements}
use Rattle.evl_kernel.specs.calls.Effects.{Answered}
use Rattle.evl_kernel.specs.calls.Semaphores.{one_served}
use Rattle.evl_kernel.specs.calls.Mutexes as recorded
use Rattle.evl_kernel.specs.calls.Mutexes.{mutex as machine, thread_named}
use Rattle.evl_kernel.specs.calls.Elements.{ElementStep, element, on_mutex, wakes}
use Rattle.evl_kernel.specs.state.ElementsViews.{ElementsView, owners_of}
use Rattle.evl_kernel.specs.waiting.Standing.{in_mutex, stands_at}
use Rattle.evl_kernel.proofs.calls.ElementSteps.{nth-done, nth-refused, nth-unknown}
use Rattle.evl_kernel.proofs.state.SchedLaws.{named-number}

-- the elements with other owners
abbrev pub with_owners : ElementsView → Owners → ElementsView
with_owners v o = record { elements = record v.elements { mutexes = o.mutexes }; base = o.base }

-- a release
module _ (v : ElementsView) (after : Owners) (n owner : ℕ) where
  abbrev pub let_go : ElementStep
  let_go = on_mutex n (recorded.release owner)

  -- what the step comes to, whom it wakes, that the base ranks stay, and that a refusal leaves all as it was
  pub record Released (result : Result (Option ThreadId × Bool) Refusal) : Type 0 where
    pub done : IfOk result (λ handed. element v.elements let_go ≡ Ok (Handed handed.0 handed.1, record v.elements { mutexes = after.mutexes }))
    pub served : IfOk result (λ handed. wakes v.elements let_go ≡ one_served (option_map (λ next. next.0) handed.0))
    pub refused : IfErr result (λ e. (element v.elements let_go ≡ Err e) × (with_owners v after ≡ v))
    pub base : after.base ≡ v.base

  abbrev with_kind : List Mutex → Elements
  with_kind mutexes = record v.elements { mutexes = mutexes }

  handed : (result : Result (Option ThreadId × Bool) Refusal) (m : Mutex) → slice_get v.elements.mutexes n ≡ Some m → is_open_to owner m ≡ true
      → numbers_of result ≡ Ok ((released_mutex m).next, (released_mutex m).more) → after ≡ with_mutex (owners_of v) n (released_mutex m).after → Released result
  handed (Err refusal) m here is_open e left = absurd cc
  handed (Ok answer) m here is_open e left =
      let next : option_map (λ next. next.0) answer.0 ≡ (released_mutex m).next = ap (λ (r : Result (Option ℕ × Bool) Refusal). next_in r) e in
      let more : answer.1 ≡ (released_mutex m).more = ap (λ (r : Result (Option ℕ × Bool) Refusal). more_in r) e in
      let is : answer.0 ≡ option_map thread_named (released_mutex m).next = sym (named-number answer.0) ∙ ap (option_map thread_named) next in
      record {
        done = nth-done machine with_kind v.elements.mutexes n (recorded.release owner) m (released_mutex m).after (Handed answer.0 answer.1) here
            (rw is_open (λ i. Ok (Handed (sym is i) (sym more i), (released_mutex m).after)))
            ∙ ap (λ (x : Owners). Ok (Handed answer.0 answer.1, with_kind x.mutexes)) (sym left);
        served = rw here (ap one_served (sym next));
        refused = tt;
        base = ap (λ (x : Owners). x.base) left;
      }
    where
      next_in : Result (Option ℕ × Bool) Refusal → Option ℕ
      next_in (Ok x) = x.0
      next_in (Err refusal) = None

      more_in : Result (Option ℕ × Bool) Refusal → Bool
      more_in (Ok x) = x.1
      more_in (Err refusal) = false

  refuses : (result : Result (Option ThreadId × Bool) Refusal) (refusal : Refusal) → numbers_of result ≡ Err refusal → element v.elements let_go ≡ Err refusal → after ≡ owners_of v → Released result
  refuses (Ok answer) refusal e is same = absurd cc
  refuses (Err own) refusal e is same = record {
    done = tt;
    served = tt;
    refused = (is ∙ sym (ap in_own e), ap (with_owners v) same);
    base = ap (λ (x : Owners). x.base) same;
  }
    where
      in_own : Result (Option ℕ × Bool) Refusal → Answered Elements
      in_own (Ok x) = Err refusal
      in_own (Err e) = Err e

  pub released-step : (result : Result (Option ThreadId × Bool) Refusal) → IsRelease (owners_of v) n owner (numbers_of result) after → Released result
  released-step result by = at (slice_get v.elements.mutexes n) refl
    where
      opened : (m : Mutex) → slice_get v.elements.mutexes n ≡ Some m → (b : Bool) → is_open_to owner m ≡ b → Released result
      opened m here true is = let (e, left) = by.handed m here is in handed result m here is e left
      opened m here false is =
          let (e, same) = by.refused NotOwner (rw (here, is) refl) in
          refuses result NotOwner e (nth-refused machine with_kind v.elements.mutexes n (recorded.release owner) m NotOwner here (rw is refl)) same

      at : (found : Option Mutex) → slice_get v.elements.mutexes n ≡ found → Released result
      at None none =
          let (e, same) = by.refused Unknown (rw none refl) in
          refuses result Unknown e (nth-unknown machine with_kind v.elements.mutexes n (recorded.release owner) none) same
      at (Some m) here = opened m here (is_open_to owner m) refl

-- a claim that nothing else refuses is refused where it would close a ring
module _ (o : Owners) (n waiter owner : ℕ) where
  pub unstanding : ((m : ℕ) → stands_at in_mutex o.mutexes m waiter ≡ false) → is_waiting o waiter ≡ false
  unstanding away = walk o.mutexes away
    where
      walk : (ms : List Mutex) → ((m : ℕ) → stands_at in_mutex ms m waiter ≡ false) → list_any (is_waited_for_by waiter) ms ≡ false
      walk [] none = refl
      walk (m ∷ ms) none = rw (none 0) (walk ms (λ k. none (suc k)))

  pub unrefused : ((m : ℕ) → stands_at in_mutex o.mutexes m waiter ≡ false) → option_map_or (is_open_to owner) (slice_get o.mutexes n) false ≡ true → owner ≢ waiter
      → waiter < length o.base → owner < length o.base → claim_refusal o n waiter owner ≡ None
  unrefused away is_open differs low named_low =
      rw (unstanding away) (at (slice_get o.mutexes n) is_open)
    where
      here : is_thread o waiter ≡ true
      here = grind (arith, nat_tests)

      there : is_thread o owner ≡ true
      there = grind (arith, nat_tests)

      other : (owner == waiter) ≡ false
      other = grind (arith, nat_tests)

      at : (found : Option Mutex) → option_map_or (is_open_to owner) found false ≡ true → claim_refusal_at o waiter owner found ≡ None
      at None e = absurd (false≢true e)
      at (Some m) e = rw (here, there, other, e) refl

  pub ring-told : claim_refusal o n waiter owner ≡ None → (answer : Result (Unit {0}) Refusal) → answer ≡ claim_answer o n waiter owner → is_ok answer ≡ false → would_ring o waiter owner ≡ true
  ring-told none answer is refused = by (would_ring o waiter owner) (ap is_ok (sym (is ∙ rw none refl)) ∙ refused)
    where
      by : (ring : Bool) → is_ok (claim_answer_at ring None) ≡ false → ring ≡ true
      by true e = refl
      by false e = absurd (false≢true (sym e))

-- a claim that isn't refused is a step of the mutex
module _ (v : ElementsView) (after : Owners) (n waiter owner : ℕ) where
  abbrev w : Waiter
  w = record { thread = waiter; rank = rank_of (owners_of v) waiter }

  pub claimed-step : (answer : Result (Unit {0}) Refusal) → IsClaim (owners_of v) n waiter owner answer after → option_map_or (is_open_to owner) (slice_get v.elements.mutexes n) false ≡ true → is_ok answer ≡ true
      → element v.elements (on_mutex n (recorded.claim w owner)) ≡ Ok (Begun, record v.elements { mutexes = after.mutexes })
  claimed-step answer is is_open ok = at (slice_get v.elements.mutexes n) refl is_open
    where
      left : after ≡ claimed_by (owners_of v) n waiter owner
      left = is.after_is ∙ ap (λ (b : Bool). if b then claimed_by (owners_of v) n waiter owner else owners_of v) ok

      at : (found : Option Mutex) → slice_get v.elements.mutexes n ≡ found → option_map_or (is_open_to owner) found false ≡ true
          → element v.elements (on_mutex n (recorded.claim w owner)) ≡ Ok (Begun, record v.elements { mutexes = after.mutexes })
      at None here e = absurd (false≢true e)
      at (Some m) here e =
          nth-done machine (λ (mutexes : List Mutex). record v.elements { mutexes = mutexes }) v.elements.mutexes n (recorded.claim w owner) m (with_waiter m w owner) Begun here refl
          ∙ ap (λ (x : Owners). Ok (Begun, record v.elements { mutexes = x.mutexes })) (sym (left ∙ ap (changed_at (owners_of v) n (λ m. with_waiter m w owner)) here))

-- a raise ends no wait
pub raise_wakes : (e : Elements) (n thread : ℕ) → wakes e (on_mutex n (recorded.raise thread)) ≡ []
raise_wakes e n thread = by (slice_get e.mutexes n)
  where
    by : (o : Option Mutex) → option_map_or (λ (m : Mutex). recorded.mutex_wakes m (recorded.raise thread)) o [] ≡ []
    by None = refl
    by (Some m) = refl
