-- For what a thread waits is changed by its own calls alone.
use Rattle.std.proofs.Common.{◌≡◌, ◌≢◌, ◌<◌, ◌≤◌, if◌then◌else◌, ◌⊎◌, ⊎_elim, ℕ, zero, suc, ◌==◌, eq-eqb, ne_eqb, Bool, true, false, List, [], ◌∷◌, length, Option, Some, None, option_map, Result, Ok, Err, slice_index_or, slice_set, refl, sym, ap, ◌∙◌, subst, arith}
use Rattle.std.specs.Option.{option_map_or}
use Rattle.std.proofs.lemmas.Bool.{false≢true, eqb-true}
use Rattle.evl_base.specs.Limits.{thread_limit}
use Rattle.evl_base.specs.declared.call.Call.{Call}
use Rattle.evl_base.specs.declared.entry.Entry.{Entry}
use Rattle.evl_base.specs.declared.play.Play.{Play}
use Rattle.evl_base.specs.declared.refusal.Refusal.{Refusal}
use Rattle.evl_base.specs.declared.refusal.Refusal.TheVariants.{Invalid}
use Rattle.evl_base.specs.declared.reply.Reply.{Reply}
use Rattle.evl_base.specs.declared.reply.Reply.TheVariants.{TimedOut}
use Rattle.evl_kernel.specs.declared.waits.Awaited.{Awaited}
use Rattle.evl_kernel.specs.declared.waits.Wait.{Wait}
use Rattle.evl_kernel.specs.declared.waits.Wanted.{Wanted}
use Rattle.evl_kernel.specs.state.States.{State, Elements}
use Rattle.evl_kernel.specs.calls.Effects.{Answered, Effect, lifted, leaving, if_done}
use Rattle.evl_kernel.specs.calls.Elements.{ElementStep, element, elements, with_elements, wakes, serves, stepping_to, touched}
use Rattle.evl_kernel.specs.waiting.Waits.{wait_of, wait_at, with_wait, going_on, ended_by, is_past, suspended, wait_begun as begun, woken, all_woken}
use Rattle.evl_kernel.specs.waiting.Beginnings.{awaited_by, begin_refusal, begin_step, beginning}
use Rattle.evl_kernel.specs.waiting.Endings.{drop_step, finish, goes_inband, inband_if, outcome_of}
use Rattle.evl_kernel.specs.calls.TimerCalls.{posted_if}
use Rattle.evl_kernel.specs.calls.Families.{Task, on_lines, on_clock, on_threads, on_element, on_staged, raises, begins, ends, performing, task_of}
use Rattle.evl_kernel.specs.calls.Serving.{answer, ends_a_wait, general_refusal}
use Rattle.evl_kernel.specs.settling.Settling.{deadline_left}
use Rattle.evl_kernel.specs.histories.Histories.{Follows, Run, Step, opened_kernel as opened}
use Rattle.evl_kernel.specs.histories.WaitOwners.{awaited_along, awaited_at, awaited_after, WaitsAreOfTheirCalls, WaitsGoBy, WaitsAreTheThreadsOwn}
use Rattle.evl_kernel.proofs.calls.LeavesLaws.{Leaves, leaves-if_done, leaves-refused}
use Rattle.evl_kernel.proofs.state.OpeningLaws.{threads_few}
use Rattle.evl_kernel.proofs.calls.ThreadSteps.{leaves-threads}
use Rattle.evl_kernel.proofs.histories.StateWalk.{KeptByEach, KeptByOwn, follows_holds, holds-answer}
use Rattle.evl_kernel.proofs.waiting.ProperLaws.{IsProper}
use Rattle.evl_kernel.proofs.waiting.ProperSteps.{kept_by_each, kept_by_own, passed_all, proper_at, proper_opening}
use Rattle.evl_pipeline.proofs.PortLaws.{at-none}
use Rattle.evl_kernel.proofs.waiting.WaitLaws.{index_set, wait_there}
use Rattle.evl_kernel.proofs.waiting.WaitRecords.{index_here}

abbrev on_of : Option Wait → Option Awaited
on_of o = option_map (λ (w : Wait). w.on) o

module _ (t : ℕ) (X : Option Awaited) where
  abbrev Waits : State → Type 0
  Waits s = awaited_at s t ≡ X

  -- what ended a wait doesn't change for what it was
  waits_woken : (s : State) (thread : ℕ) (outcome : Reply) → Waits s → Waits (woken s thread outcome)
  waits_woken s thread outcome h = by (t == thread) refl
    where
      v : Option Wait
      v = option_map (ended_by outcome) (wait_at s thread)

      same_on : (o : Option Wait) → on_of (option_map (ended_by outcome) o) ≡ on_of o
      same_on None = refl
      same_on (Some w) = refl

      gone : (ws : List (Option Wait)) (k : ℕ) (o : Option Wait) → slice_index_or ws k None ≡ o → slice_index_or (slice_set ws k (option_map (ended_by outcome) o)) k None ≡ None → on_of o ≡ None
      gone [] k o is e = ap on_of (sym is)
      gone (x ∷ xs) zero None is e = refl
      gone (x ∷ xs) zero (Some w) is e = absurd (cc)
      gone (x ∷ xs) (suc k) o is e = gone xs k o is e

      here : awaited_at s thread ≡ X → on_of (wait_of (slice_set s.waits thread v) thread) ≡ X
      here was = ⊎_elim (λ (e : slice_index_or (slice_set s.waits thread v) thread None ≡ v). ap on_of e ∙ same_on (wait_at s thread) ∙ was)
          (λ (e : slice_index_or (slice_set s.waits thread v) thread None ≡ None). ap on_of e ∙ sym (gone s.waits thread (wait_at s thread) refl e) ∙ was)
          (index_set s.waits thread v)

      by : (b : Bool) → (t == thread) ≡ b → on_of (wait_of (slice_set s.waits thread v) t) ≡ X
      by true e = subst (λ (k : ℕ). on_of (wait_of (slice_set s.waits thread v) k) ≡ X) (sym (eqb-true t thread e)) (here (ap (awaited_at s) (sym (eqb-true t thread e)) ∙ h))
      by false ne = ap on_of (wait_there s thread v t ne) ∙ h

  waits_all_woken : (s : State) (served : List (ℕ × Reply)) → Waits s → Waits (all_woken s served)
  waits_all_woken s [] h = h
  waits_all_woken s ((thread, outcome) ∷ others) h = waits_all_woken (woken s thread outcome) others (waits_woken s thread outcome h)

  waits_stepping : (then_ : State → State) (s : State) (step : ElementStep) → ((e : Elements) → Waits (then_ (with_elements s e))) → Leaves Waits (stepping_to then_ s step)
  waits_stepping then_ s step kept = by (element (elements s) step)
    where
      by : (a : Answered Elements) → Leaves Waits (lifted (λ e. all_woken (then_ (with_elements s e)) (wakes (elements s) step)) a)
      by (Ok (reply, e)) = waits_all_woken (then_ (with_elements s e)) (wakes (elements s) step) (kept e)
      by (Err refusal) = tt

  waits_touched : (s : State) (by : Option ℕ) (step : ElementStep) → Waits s → Leaves Waits (touched s by step).effect
  waits_touched s by step h = waits_stepping (λ x. x) s step (λ e. h)

  waits_expired : (s : State) (thread : ℕ) → Waits s → Waits (deadline_left s thread).1
  waits_expired s thread h = by (wait_at s thread)
    where
      after : State
      after = woken s thread TimedOut

      ended : Waits after
      ended = waits_woken s thread TimedOut h

      by : (o : Option Wait) → Waits (if_done after (option_map_or (λ (w : Wait). touched after None (drop_step thread w.on)) o (record { touches = []; effect = Err Invalid })).effect)
      by None = ended
      by (Some w) = leaves-if_done Waits after _ ended (waits_touched after None (drop_step thread w.on) ended)

  waits_by_each : KeptByEach Waits
  waits_by_each = record {
    lined = λ s q h. h;
    banked = λ s number home b h. h;
    clocked = λ s c same h. h;
    paid = λ s before delta now h. h;
    asked = λ s by step plain may h. waits_touched s by step h;
    expired = λ s thread h. waits_expired s thread h;
  }

  -- a wait that begins, where what is left has it at once
  waits_beginning : (s : State) (caller : ℕ) (wants : Wanted) (until : Option ℕ) → ((e : Elements) (served : Option Reply) → Waits (begun (with_elements s e) caller (awaited_by wants) until served)) → Leaves Waits (beginning s caller wants until).effect
  waits_beginning s caller wants until kept =
      let step = begin_step s caller wants in
      leaves-refused Waits (begin_refusal s caller wants) _ (λ none. waits_stepping (λ x. begun x caller (awaited_by wants) until (serves (elements s) step)) s step (λ e. kept e (serves (elements s) step)))

  waits_begun : (s : State) (caller : ℕ) (on : Awaited) (until : Option ℕ) (served : Option Reply) → ((v : Wait) → v.on ≡ on → on_of (wait_of (slice_set s.waits caller (Some v)) t) ≡ X) → Waits (begun s caller on until served)
  waits_begun s caller on until (Some outcome) set = set (ended_by outcome (going_on on)) refl
  waits_begun s caller on until None set = by (is_past s.clock.now until)
    where
      by : (b : Bool) → Waits (posted_if b (suspended s caller on until))
      by true = set (going_on on) refl
      by false = set (going_on on) refl

  waits_finish : (s : State) (caller : ℕ) (keep : Bool) → Waits (with_wait s caller None) → Leaves Waits (finish s caller keep)
  waits_finish s caller keep free = by (outcome_of (wait_at s caller))
    where
      goes : (b : Bool) → Waits (inband_if b (with_wait s caller None) caller)
      goes true = free
      goes false = free

      by : (r : Result Reply Refusal) → Leaves Waits (leaving (inband_if (goes_inband s caller keep) (with_wait s caller None) caller) r)
      by (Ok reply) = goes (goes_inband s caller keep)
      by (Err refusal) = tt

  -- another thread's call
  waits_by_another : (s : State) (caller : ℕ) (asked : Call) → (t == caller) ≡ false → KeptByOwn Waits s caller asked
  waits_by_another s caller asked ne = record {
    threads = λ step is passed h. leaves-threads Waits (λ x q hx. hx) s caller step h;
    begun = λ wants until is passed h. waits_beginning s caller wants until (λ e served. waits_begun (with_elements s e) caller (awaited_by wants) until served (λ v on. ap on_of (wait_there s caller (Some v) t ne) ∙ h));
    ended = λ keep is h. waits_finish s caller keep (ap on_of (wait_there s caller None t ne) ∙ h);
  }

pub waits_step : (count : ℕ) (old : State) → IsProper count old → (caller : ℕ) (asked : Call) (reply : Result Reply Refusal) (plays : List Play) (new : State) → Step old caller asked reply plays new → WaitsGoBy old caller asked reply new
waits_step count old proper caller asked reply plays new step = record { others = others; own = own (task_of asked) refl reply step }
  where
    others : (t : ℕ) → t ≢ caller → awaited_at new t ≡ awaited_at old t
    others t ne = follows_holds (Waits t (awaited_at old t)) (waits_by_each t (awaited_at old t)) old (answer old caller asked) reply plays new refl
        (holds-answer (Waits t (awaited_at old t)) (waits_by_each t (awaited_at old t)) old caller asked (waits_by_another t (awaited_at old t) old caller asked (ne_eqb t caller ne)) refl) step

    -- its own: a refusal leaves all, and so does a call that neither begins nor ends a wait
    keeps : (r : Result Reply Refusal) → Step old caller asked r plays new → ((wants : Wanted) (until : Option ℕ) → task_of asked ≡ begins wants until → ⊥) → ((keep : Bool) → task_of asked ≡ ends keep → ⊥) → awaited_at new caller ≡ awaited_at old caller
    keeps r step unbegun unended = follows_holds (Waits caller (awaited_at old caller)) (waits_by_each caller (awaited_at old caller)) old (answer old caller asked) r plays new refl
        (holds-answer (Waits caller (awaited_at old caller)) (waits_by_each caller (awaited_at old caller)) old caller asked (record {
          threads = λ step is passed h. leaves-threads (Waits caller (awaited_at old caller)) (λ x q hx. hx) old caller step h;
          begun = λ wants until is passed h. absurd (unbegun wants until is);
          ended = λ keep is h. absurd (unended keep is);
        }) refl) step

    refused : (why : Refusal) (e : Effect) → Follows old e (Err why) plays new → awaited_at new caller ≡ awaited_at old caller
    refused why (Err other) (same, none, stays) = ap (λ (x : State). awaited_at x caller) stays
    refused why (Ok (given, changed)) (same, settles) = absurd (cc)

    -- where what it does gives this, it is so after settling
    becomes : (X : Option Awaited) (said : Reply) → Leaves (Waits caller X) (answer old caller asked) → Step old caller asked (Ok said) plays new → awaited_at new caller ≡ X
    becomes X said left step = by (answer old caller asked) left step
      where
        by : (e : Effect) → Leaves (Waits caller X) e → Follows old e (Ok said) plays new → awaited_at new caller ≡ X
        by (Err why) left (same, none, stays) = absurd (cc)
        by (Ok (given, changed)) left follows = follows_holds (Waits caller X) (waits_by_each caller X) changed (Ok (given, changed)) (Ok said) plays new left left follows

    begins_so : (wants : Wanted) (until : Option ℕ) → task_of asked ≡ begins wants until → Leaves (Waits caller (Some (awaited_by wants))) (answer old caller asked)
    begins_so wants until is = leaves-refused P (general_refusal old caller asked) _ (λ passed. subst (λ (k : Task). Leaves P (performing old caller k).effect) (sym is)
        (let there = (passed_all old caller asked (ap ends_a_wait is) passed).there in
        let within : caller < length old.waits = omega (arith, there, proper.threads_are, proper.places) in
        waits_beginning caller (Some (awaited_by wants)) old caller wants until (λ e served. waits_begun caller (Some (awaited_by wants)) (with_elements old e) caller (awaited_by wants) until served (λ v on. ap on_of (index_here old.waits caller (Some v) None within) ∙ ap (λ (a : Awaited). Some a) on))))
      where
        P : State → Type 0
        P = Waits caller (Some (awaited_by wants))

    ends_so : (keep : Bool) → task_of asked ≡ ends keep → Leaves (Waits caller None) (answer old caller asked)
    ends_so keep is = leaves-refused (Waits caller None) (general_refusal old caller asked) _ (λ passed. subst (λ (k : Task). Leaves (Waits caller None) (performing old caller k).effect) (sym is)
        (waits_finish caller None old caller keep (⊎_elim (λ (e : slice_index_or (slice_set old.waits caller None) caller None ≡ None). ap on_of e) (λ (e : slice_index_or (slice_set old.waits caller None) caller None ≡ None). ap on_of e) (index_set old.waits caller None))))

    own : (task : Task) → task_of asked ≡ task → (r : Result Reply Refusal) → Step old caller asked r plays new → awaited_at new caller ≡ awaited_after task r (awaited_at old caller)
    own (begins wants until) is (Ok said) step = becomes (Some (awaited_by wants)) said (begins_so wants until is) step
    own (begins wants until) is (Err why) step = refused why (answer old caller asked) step
    own (ends keep) is (Ok said) step = becomes None said (ends_so keep is) step
    own (ends keep) is (Err why) step = refused why (answer old caller asked) step
    own (on_lines x) is r step = keeps r step (λ wants until e. absurd (let f = sym is ∙ e in cc)) (λ keep e. absurd (let f = sym is ∙ e in cc))
    own (on_clock x) is r step = keeps r step (λ wants until e. absurd (let f = sym is ∙ e in cc)) (λ keep e. absurd (let f = sym is ∙ e in cc))
    own (on_threads x) is r step = keeps r step (λ wants until e. absurd (let f = sym is ∙ e in cc)) (λ keep e. absurd (let f = sym is ∙ e in cc))
    own (on_element x) is r step = keeps r step (λ wants until e. absurd (let f = sym is ∙ e in cc)) (λ keep e. absurd (let f = sym is ∙ e in cc))
    own (on_staged x) is r step = keeps r step (λ wants until e. absurd (let f = sym is ∙ e in cc)) (λ keep e. absurd (let f = sym is ∙ e in cc))
    own (raises x) is r step = keeps r step (λ wants until e. absurd (let f = sym is ∙ e in cc)) (λ keep e. absurd (let f = sym is ∙ e in cc))

pub waits_own : WaitsAreTheThreadsOwn
waits_own h legal fits caller asked reply plays new step = waits_step h.board.threads h.state (proper_at h legal fits) caller asked reply plays new step

run_awaits : (count : ℕ) → count ≤ thread_limit → (old : State) (entries : List Entry) (plays : List Play) (new : State) → IsProper count old → Run old entries plays new → (t : ℕ) → awaited_at new t ≡ awaited_along t entries (awaited_at old t)
run_awaits count few old [] plays new proper run t = ap (λ (x : State). awaited_at x t) run.1
run_awaits count few old (e ∷ es) plays new proper (mine, rest, mid, split, (counted, step), run) t =
    let one = waits_step count old proper e.caller.0 e.call e.reply mine mid step in
    let fine = follows_holds (IsProper count) (kept_by_each count few) old (answer old e.caller.0 e.call) e.reply mine mid proper (holds-answer (IsProper count) (kept_by_each count few) old e.caller.0 e.call (kept_by_own count few old e.caller.0 e.call) proper) step in
    run_awaits count few mid es rest new fine run t ∙ ap (awaited_along t es) (by one (e.caller.0 == t) refl)
  where
    by : WaitsGoBy old e.caller.0 e.call e.reply mid → (b : Bool) → (e.caller.0 == t) ≡ b → awaited_at mid t ≡ (if b then awaited_after (task_of e.call) e.reply (awaited_at old t) else awaited_at old t)
    by one true is = subst (λ (n : ℕ). awaited_at mid n ≡ awaited_after (task_of e.call) e.reply (awaited_at old n)) (eqb-true e.caller.0 t is) one.own
    by one false ne = one.others t (λ x. false≢true (sym ne ∙ eq-eqb e.caller.0 t (sym x)))

pub waits_along : WaitsAreOfTheirCalls
waits_along h legal fits t =
    run_awaits h.board.threads (threads_few h.board fits) (opened h) h.entries h.plays h.state (proper_opening h.board h.bank fits) legal t ∙ ap (awaited_along t h.entries) (ap on_of (at-none {A = Wait} h.board.threads t))
