-- Each kind of step leaves the waits proper.
use Rattle.std.proofs.Common.{◌≡◌, ◌≤◌, ℕ, ◌==◌, Bool, true, false, ◌||◌, List, [], ◌∷◌, length, Option, Some, None, Ok, Err, refl, sym, ap, ◌∙◌, subst}
use Rattle.std.proofs.lemmas.Bool.{false≢true, eq-eqb, eqb-true, or_parts, or_right}
use Rattle.std.proofs.lemmas.List.{length-set}
use Rattle.std.proofs.lemmas.Option.{same_Some}
use Rattle.evl_base.proofs.Plain.{eqb-swap_false}
use Rattle.evl_base.specs.Limits.{thread_limit}
use Rattle.evl_base.specs.declared.reply.Reply.{Reply}
use Rattle.evl_base.specs.declared.reply.Reply.TheVariants.{TimedOut}
use Rattle.evl_kernel.specs.declared.waits.Awaited.{Awaited}
use Rattle.evl_kernel.specs.declared.waits.Wait.{Wait}
use Rattle.evl_kernel.specs.state.States.{State, Elements}
use Rattle.evl_kernel.specs.calls.Effects.{Answered, if_done, lifted}
use Rattle.evl_kernel.specs.calls.Elements.{ElementStep, element, elements, touched, wakes, with_elements}
use Rattle.evl_kernel.specs.waiting.Waits.{wait_at, woken, all_woken}
use Rattle.evl_kernel.specs.waiting.Endings.{drop_step, leaving_queue}
use Rattle.evl_kernel.specs.settling.Settling.{deadline_left}
use Rattle.evl_kernel.specs.histories.WaitInvariant.{WaitsAreProper}
use Rattle.evl_kernel.specs.state.Records.{WaitsAreKept}
use Rattle.evl_kernel.specs.waiting.Standing.{is_served, stands_for}
use Rattle.evl_kernel.proofs.calls.LeavesLaws.{Leaves}
use Rattle.evl_kernel.proofs.calls.QueueLaws.{Dropped, IsAsked, Stepped, asked_goes, drop_goes}
use Rattle.evl_kernel.proofs.waiting.WaitLaws.{ProperBeside, proper_all, proper_beside, proper_woken}
use Rattle.evl_kernel.proofs.waiting.WaitRecords.{away_after, idle_away}

-- proper, with a place for the wait of each thread
pub record IsProper (n : ℕ) (s : State) : Type 0 where
  pub proper : WaitsAreProper s
  pub threads_are : s.threads ≡ n
  pub places : length s.waits ≡ n

-- what the records keep of them
pub kept_of : (n : ℕ) (s : State) → n ≤ thread_limit → IsProper n s → WaitsAreKept n (elements s) s.waits
kept_of n s few h = record { few = few; sound = h.proper.sound; places = h.places; going = λ on thread stands. h.proper.stands on thread stands }

-- the waits of these end, who stand nowhere
pub is_woken : (n : ℕ) (s : State) (served : List (ℕ × Reply)) → s.threads ≡ n → length s.waits ≡ n → ProperBeside s (λ t. is_served t served)
    → ((t : ℕ) → is_served t served ≡ true → (on : Awaited) → stands_for (elements s) on t ≡ false) → IsProper n (all_woken s served)
is_woken n s [] threads_are places h away = record { proper = proper_all s h; threads_are = threads_are; places = places }
is_woken n s ((thread, outcome) ∷ others) threads_are places h away =
    is_woken n (woken s thread outcome) others threads_are (length-set s.waits thread _ ∙ places)
    (proper_woken s thread outcome (λ t. is_served t others) h (away thread (ap (λ (b : Bool). b || is_served thread others) (eq-eqb thread thread refl))))
    (λ t is. away t (or_right (thread == t) (is_served t others) is))

module _ (n : ℕ) (few : n ≤ thread_limit) (s : State) (h : IsProper n s) where
  -- a step of an element: these are let go
  pub beside_after : (served : List (ℕ × Reply)) (after : Elements) → Stepped (elements s) served after → ProperBeside (with_elements s after) (λ t. is_served t served)
  beside_after served after stepped = record {
    sound = stepped.sound;
    stands = λ on t ne is. h.proper.stands on t (sym (stepped.goes.same on t ne) ∙ is);
    waits = λ on t ne is. stepped.goes.same on t ne ∙ h.proper.waits on t is;
    ready = λ t ne. h.proper.ready t;
    dated = λ t date ne. h.proper.dated t date;
  }

  pub proper_asked : (by : Option ℕ) (step : ElementStep) → IsAsked step → Leaves (IsProper n) (touched s by step).effect
  proper_asked by step asked = left (element (elements s) step) refl
    where
      left : (a : Answered Elements) → element (elements s) step ≡ a → Leaves (IsProper n) (lifted (λ e. all_woken (with_elements s e) (wakes (elements s) step)) a)
      left (Err refusal) is = tt
      left (Ok (reply, after)) is =
          let stepped = asked_goes (elements s) h.proper.sound after reply step asked is in
          is_woken n (with_elements s after) (wakes (elements s) step) h.threads_are h.places (beside_after (wakes (elements s) step) after stepped)
          (away_after n (elements s) s.waits (kept_of n s few h) (wakes (elements s) step) after stepped)

  -- A thread's wait ends over these elements, where it is in no queue, and then end the waits of the threads that this served.
  ends_over : (thread : ℕ) (after : Elements) (served : List (ℕ × Reply)) → ProperBeside (with_elements s after) (λ t. (thread == t) || is_served t served) → ((on : Awaited) → stands_for after on thread ≡ false)
      → ((t : ℕ) → is_served t served ≡ true → (on : Awaited) → stands_for after on t ≡ false) → IsProper n (all_woken (with_elements (woken s thread TimedOut) after) served)
  ends_over thread after served beside away others = is_woken n (with_elements s after) ((thread, TimedOut) ∷ served) h.threads_are h.places beside (λ t is on. by t is on (thread == t) refl)
    where
      or_second : (a b : Bool) → (a || b) ≡ true → a ≡ false → b ≡ true
      or_second true b e f = absurd (false≢true (sym f))
      or_second false b e f = e

      by : (t : ℕ) → ((thread == t) || is_served t served) ≡ true → (on : Awaited) (b : Bool) → (thread == t) ≡ b → stands_for after on t ≡ false
      by t is on true same = ap (stands_for after on) (sym (eqb-true thread t same)) ∙ away on
      by t is on false other = others t (or_second (thread == t) (is_served t served) is other) on

  -- it leaves the queue in which it waited
  module _ (thread : ℕ) (w : Wait) (its : wait_at s thread ≡ Some w) (served : List (ℕ × Reply)) (after : Elements) (gone : Dropped (elements s) w.on thread served after) where
    -- it was in just that queue, and so is in none
    left_away : (on : Awaited) → stands_for after on thread ≡ false
    left_away on = test (stands_for after on thread) refl
      where
        test : (b : Bool) → stands_for after on thread ≡ b → b ≡ false
        test false stands = refl
        test true stands =
            let same : on ≡ w.on = sym (ap (λ (x : Wait). x.on) (same_Some _ _ (sym its ∙ h.proper.stands on thread (gone.drops.old on thread stands)))) in
            sym stands ∙ (ap (λ (x : Awaited). stands_for after x thread) same ∙ gone.drops.gone)

    served_away : (t : ℕ) → is_served t served ≡ true → (on : Awaited) → stands_for after on t ≡ false
    served_away t is on = test (stands_for after on t) refl
      where
        test : (b : Bool) → stands_for after on t ≡ b → b ≡ false
        test false stands = refl
        test true stands =
            let went = gone.drops.left t is in
            let same : on ≡ went.on = ap (λ (x : Wait). x.on) (same_Some _ _ (sym (h.proper.stands on t (gone.drops.old on t stands)) ∙ h.proper.stands went.on t went.stood)) in
            sym stands ∙ (ap (λ (x : Awaited). stands_for after x t) same ∙ went.gone)

    ended : IsProper n (all_woken (with_elements (woken s thread TimedOut) after) served)
    ended = ends_over thread after served (record {
      sound = gone.sound;
      stands = λ on t ne stands. h.proper.stands on t (sym (gone.drops.same on t (eqb-swap_false thread t (or_parts (thread == t) (is_served t served) ne).0) (or_parts (thread == t) (is_served t served) ne).1) ∙ stands);
      waits = λ on t ne is. gone.drops.same on t (eqb-swap_false thread t (or_parts (thread == t) (is_served t served) ne).0) (or_parts (thread == t) (is_served t served) ne).1 ∙ h.proper.waits on t is;
      ready = λ t ne. h.proper.ready t;
      dated = λ t date ne. h.proper.dated t date;
    }) left_away served_away

  -- a deadline
  pub proper_expired : (thread : ℕ) → IsProper n (deadline_left s thread).1
  proper_expired thread = by (wait_at s thread) refl
    where
      timed : State
      timed = woken s thread TimedOut

      left : (w : Wait) → wait_at s thread ≡ Some w → (a : Answered Elements) → element (elements s) (drop_step thread w.on) ≡ a
          → IsProper n (if_done timed (lifted (λ e. all_woken (with_elements timed e) (wakes (elements s) (drop_step thread w.on))) a))
      left w its (Ok (reply, after)) is =
          ended thread w its (wakes (elements s) (drop_step thread w.on)) after
          (subst (Dropped (elements s) w.on thread (wakes (elements s) (drop_step thread w.on))) (ap (if_done (elements s)) is) (drop_goes (elements s) h.proper.sound thread w.on))
      left w its (Err refusal) is =
          ends_over thread (elements s) [] (proper_beside s (λ t. (thread == t) || false) h.proper)
          (left_away thread w its (wakes (elements s) (drop_step thread w.on)) (elements s)
          (subst (Dropped (elements s) w.on thread (wakes (elements s) (drop_step thread w.on))) (ap (if_done (elements s)) is) (drop_goes (elements s) h.proper.sound thread w.on)))
          (λ t is on. absurd (false≢true is))

      by : (o : Option Wait) → wait_at s thread ≡ o → IsProper n (if_done timed (leaving_queue timed thread o).effect)
      by None none = ends_over thread (elements s) [] (proper_beside s (λ t. (thread == t) || false) h.proper) (idle_away n (elements s) s.waits (kept_of n s few h) thread none) (λ t is on. absurd (false≢true is))
      by (Some w) its = left w its (element (elements s) (drop_step thread w.on)) refl
