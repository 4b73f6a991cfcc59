-- In every legal history each thread that is recorded at a mutex is attached, and ranks are the effective ones.
use Rattle.std.proofs.Common.{◌≡◌, ◌≤◌, ◌<◌, ℕ, zero, suc, ◌==◌, Bool, true, false, ◌||◌, List, [], ◌∷◌, Option, Some, None, is_some, option_map, Result, Ok, Err, slice_get, slice_set, slice_index_or, if◌then◌else◌, refl, sym, ap, ◌∙◌, subst}
use Rattle.std.specs.List.{list_any}
use Rattle.std.specs.Option.{option_map_or}
use Rattle.std.proofs.lemmas.Bool.{false≢true, eqb-true}
use Rattle.std.proofs.lemmas.List.{length-replicate}
use Rattle.std.proofs.lemmas.Option.{same_Some}
use Rattle.evl_base.proofs.Plain.{some-none}
use Rattle.evl_base.specs.Board.{board_fits}
use Rattle.evl_base.specs.declared.board.Board.{Board}
use Rattle.evl_base.specs.declared.call.Call.{Call}
use Rattle.evl_base.specs.declared.refusal.Refusal.{Refusal}
use Rattle.evl_base.specs.declared.refusal.Refusal.TheVariants.{Busy, Invalid, Unknown}
use Rattle.evl_base.specs.declared.reply.Reply.{Reply}
use Rattle.evl_base.specs.declared.reply.Reply.TheVariants.{TimedOut}
use Rattle.evl_base.specs.declared.stage.Stage.TheVariants.{Inband}
use Rattle.evl_mutex.specs.Mutexes as mutex
use Rattle.evl_mutex.specs.Mutexes.{Mutex, IsSoundMutex, is_owned_by, is_waited_for_by}
use Rattle.evl_mutex.specs.Chains.{HasNoRing, waits_for}
use Rattle.evl_mutex.specs.Owners.{IsSound}
use Rattle.evl_mutex.specs.Ranks.{IsEffective}
use Rattle.evl_mutex.proofs.CallLaws.{low_wait}
use Rattle.evl_mutex.proofs.RankLaws.{effective-is}
use Rattle.evl_mutex.proofs.SoundLaws.{all-at}
use Rattle.evl_sched.specs.declared.seat.Seat.{Seat}
use Rattle.evl_sched.specs.Calls.{attach_refusal, set_policy_refusal, stranger_refusal}
use Rattle.evl_sched.specs.Charges.{charged, refilled_groups}
use Rattle.evl_sched.specs.Groups.{is_new_second}
use Rattle.evl_sched.specs.Threads as threads
use Rattle.evl_sched.specs.Threads.{Sched, stage_set}
use Rattle.evl_sched.proofs.SeatLaws.{SamePolicies, attached-same, policies-charged, policies-stage_set}
use Rattle.evl_kernel.specs.declared.waits.Awaited.{Awaited}
use Rattle.evl_kernel.specs.declared.waits.Awaited.TheVariants as awaited_of
use Rattle.evl_kernel.specs.declared.waits.Wait.{Wait}
use Rattle.evl_kernel.specs.declared.waits.Wanted.{Wanted}
use Rattle.evl_kernel.specs.declared.waits.Wanted.TheVariants as wanted
use Rattle.evl_base.specs.Limits.{thread_limit}
use Rattle.evl_kernel.specs.state.States.{Elements, Handler, State, with_sched}
use Rattle.evl_kernel.specs.calls.Effects.{Answered, Effect, if_done, leaving, lifted}
use Rattle.evl_kernel.specs.calls.Mutexes as mutex_step
use Rattle.evl_kernel.specs.calls.Elements.{ElementStep, on_sem, on_flags, on_xbuf, on_mutex, element, elements, serves, stepping_to, touched, wakes, with_elements}
use Rattle.evl_kernel.specs.waiting.Waits.{all_woken, wait_begun as begun, is_past, suspended, wait_at, with_wait, woken}
use Rattle.evl_kernel.specs.waiting.Beginnings.{awaited_by, begin_refusal, begin_step, beginning, may_name, step_of_waiter}
use Rattle.evl_kernel.specs.waiting.Endings.{drop_step, finish, goes_inband, inband_if, outcome_of}
use Rattle.evl_kernel.specs.settling.Settling.{deadline_left}
use Rattle.evl_kernel.specs.calls.ThreadCalls as thread_call
use Rattle.evl_kernel.specs.calls.ThreadCalls.{detach_refusal, owner_refusal, owns_in, rank_by}
use Rattle.evl_kernel.specs.calls.TimerCalls.{posted_if}
use Rattle.evl_kernel.specs.calls.Families.{ThreadStep, attach, detach, set_policy, set_stage, pick, tell_rank, thread_effect}
use Rattle.evl_kernel.specs.calls.Serving.{ends_a_wait}
use Rattle.evl_kernel.specs.state.Openings.{opening}
use Rattle.evl_kernel.specs.histories.Histories.{History, IsLegal, opened_kernel}
use Rattle.evl_kernel.specs.waiting.Standing.{in_mutex, owners_in, stands_for}
use Rattle.evl_kernel.specs.histories.OwnerInvariant.{OwnersStayProper, is_recorded}
use Rattle.evl_kernel.proofs.calls.LeavesLaws.{Leaves, leaves-if_done, leaves-refused}
use Rattle.evl_kernel.proofs.calls.BeginLaws.{known_owner, known_waiter, named_by, passes, waiter_passes}
use Rattle.evl_kernel.proofs.state.OpeningLaws.{sound_of, threads_few}
use Rattle.evl_kernel.proofs.calls.OwnerSteps.{OfAll, OfNewcomers, OfRecorded, all_after}
use Rattle.evl_kernel.proofs.waiting.ProperLaws.{IsProper}
use Rattle.evl_kernel.proofs.waiting.ProperSteps.{kept_by_each as proper_by_each, kept_by_own as proper_by_own, over_none, passed_all, proper_opening, stands_nowhere}
use Rattle.evl_kernel.proofs.calls.QueueLaws.{IsAsked}
use Rattle.evl_kernel.proofs.calls.QueueSteps.{was_at_it}
use Rattle.evl_kernel.proofs.state.RankLaws.{attached_of}
use Rattle.evl_kernel.proofs.calls.AskedSteps.{MayRaise}
use Rattle.evl_kernel.proofs.histories.StateWalk.{KeptByEach, KeptByOwn, run_holds}
use Rattle.evl_kernel.proofs.waiting.WaitRecords.{index_there}

-- somebody sits there
abbrev HasSeat : List (Option Seat) → ℕ → Type 0
HasSeat seats t = is_some (slice_index_or seats t None) ≡ true

-- each thread that is recorded at a mutex is attached
abbrev AreSeated : State → Type 0
AreSeated s = OfAll (HasSeat s.sched.seats) s.elements.mutexes

-- where nobody who was attached goes
more_seated : (s : State) (q : Sched) → ((t : ℕ) → HasSeat s.sched.seats t → HasSeat q.seats t) → AreSeated s → AreSeated (with_sched s q)
more_seated s q more h n m here t is = more t (h n m here t is)

same_seated : (s : State) (q : Sched) → SamePolicies s.sched q → AreSeated s → AreSeated (with_sched s q)
same_seated s q same h = more_seated s q (λ t sits. attached-same s.sched q same t ∙ sits) h

-- a seat is set
seat_set : (seats : List (Option Seat)) (n : ℕ) (seat : Seat) (t : ℕ) → HasSeat seats t → HasSeat (slice_set seats n (Some seat)) t
seat_set [] n seat t sits = sits
seat_set (x ∷ xs) zero seat zero sits = refl
seat_set (x ∷ xs) zero seat (suc t) sits = sits
seat_set (x ∷ xs) (suc n) seat zero sits = sits
seat_set (x ∷ xs) (suc n) seat (suc t) sits = seat_set xs n seat t sits

-- it changes, if somebody sits there
seat_changed : (change : Seat → Seat) (seats : List (Option Seat)) (n t : ℕ) → HasSeat seats t → HasSeat (slice_set seats n (option_map change (slice_index_or seats n None))) t
seat_changed change [] n t sits = sits
seat_changed change (None ∷ xs) zero zero sits = sits
seat_changed change (Some seat ∷ xs) zero zero sits = refl
seat_changed change (x ∷ xs) zero (suc t) sits = sits
seat_changed change (x ∷ xs) (suc n) zero sits = sits
seat_changed change (x ∷ xs) (suc n) (suc t) sits = seat_changed change xs n t sits

-- a thread that isn't recorded leaves
module _ (s : State) (caller : ℕ) (away : (on : Awaited) → stands_for (elements s) on caller ≡ false) (unowned : detach_refusal s caller ≡ None) where
  owns_nothing : owns_in s.elements.mutexes caller ≡ false
  owns_nothing = by (owns_in s.elements.mutexes caller) (passes (stranger_refusal s.sched caller) (owner_refusal s caller) unowned).1
    where
      by : (b : Bool) → (if b then Some Busy else None) ≡ None → b ≡ false
      by true e = absurd (some-none _ e)
      by false e = refl

  not_first : (a b : Bool) → (a || b) ≡ false → a ≡ false
  not_first true b e = e
  not_first false b e = refl

  not_second : (a b : Bool) → (a || b) ≡ false → b ≡ false
  not_second true b e = absurd (false≢true (sym e))
  not_second false b e = e

  none_owned : (ms : List Mutex) → list_any (is_owned_by caller) ms ≡ false → (n : ℕ) (m : Mutex) → slice_get ms n ≡ Some m → is_owned_by caller m ≡ false
  none_owned [] none n m here = cc
  none_owned (x ∷ xs) none zero m here = ap (is_owned_by caller) (sym (same_Some _ _ here)) ∙ not_first (is_owned_by caller x) (list_any (is_owned_by caller) xs) none
  none_owned (x ∷ xs) none (suc n) m here = none_owned xs (not_second (is_owned_by caller x) (list_any (is_owned_by caller) xs) none) n m here

  unrecorded : (n : ℕ) (m : Mutex) → slice_get s.elements.mutexes n ≡ Some m → is_recorded m caller ≡ false
  unrecorded n m here =
      let unowned_here : is_owned_by caller m ≡ false = none_owned s.elements.mutexes owns_nothing n m here in
      let nowhere : is_waited_for_by caller m ≡ false = sym (was_at_it in_mutex s.elements.mutexes n m m here caller) ∙ away (awaited_of.Mutex (record { 0 = n })) in
      ap (λ (b : Bool). b || is_waited_for_by caller m) unowned_here ∙ nowhere

  seated_detached : AreSeated s → AreSeated (with_sched s (threads.detached s.sched caller))
  seated_detached h n m here t is = by (caller == t) refl
    where
      by : (b : Bool) → (caller == t) ≡ b → HasSeat (slice_set s.sched.seats caller None) t
      by true same = absurd (false≢true (sym (unrecorded n m here) ∙ (ap (is_recorded m) (eqb-true caller t same) ∙ is)))
      by false ne = ap (λ (o : Option Seat). is_some o) (index_there s.sched.seats caller t None None ne) ∙ h n m here t is

seated_threads : (s : State) (caller : ℕ) (step : ThreadStep) → ((on : Awaited) → stands_for (elements s) on caller ≡ false) → AreSeated s → Leaves AreSeated (thread_effect s caller step)
seated_threads s caller (attach policy stage) away h = leaves-refused AreSeated (attach_refusal s.sched caller policy) _ (λ passed.
    more_seated s (threads.attached s.sched caller policy stage) (seat_set s.sched.seats caller (threads.new_seat policy stage)) h)
seated_threads s caller detach away h = leaves-refused AreSeated (detach_refusal s caller) _ (λ passed. seated_detached s caller away passed h)
seated_threads s caller (set_policy policy) away h = leaves-refused AreSeated (set_policy_refusal s.sched caller policy) _ (λ passed.
    more_seated s (threads.policy_set s.sched caller policy) (seat_changed (threads.new_policy policy) s.sched.seats caller) h)
seated_threads s caller (set_stage stage) away h = leaves-refused AreSeated (stranger_refusal s.sched caller) _ (λ passed.
    same_seated s (stage_set s.sched caller stage) (policies-stage_set s.sched caller stage) h)
seated_threads s caller pick away h = h
seated_threads s caller (tell_rank thread) away h = leaves-refused AreSeated (stranger_refusal s.sched thread) _ (λ passed. h)

seated_paid : (s : State) (before delta now : ℕ) → AreSeated s → AreSeated (thread_call.paid_between s before delta now)
seated_paid s before delta now h = by (is_new_second before now)
  where
    rank : ℕ → ℕ
    rank = thread_call.rank_of s

    paid : AreSeated (with_sched s (charged rank s.sched delta))
    paid = same_seated s (charged rank s.sched delta) (policies-charged rank s.sched delta) h

    by : (b : Bool) → AreSeated (with_sched s (if b then refilled_groups (charged rank s.sched delta) else charged rank s.sched delta))
    by true = paid
    by false = paid

-- waits that end move nobody
seated_woken : (s : State) (served : List (ℕ × Reply)) → AreSeated s → AreSeated (all_woken s served)
seated_woken s [] h = h
seated_woken s ((thread, outcome) ∷ others) h = seated_woken (woken s thread outcome) others h

-- a step of an element, where whom it names is attached
seated_stepping : (then_ : State → State) (s : State) (step : ElementStep) → ((e : Elements) → AreSeated (with_elements s e) → AreSeated (then_ (with_elements s e)))
    → OfNewcomers (HasSeat s.sched.seats) step → AreSeated s → Leaves AreSeated (stepping_to then_ s step)
seated_stepping then_ s step kept named h = by (element (elements s) step) refl
  where
    by : (a : Answered Elements) → element (elements s) step ≡ a → Leaves AreSeated (lifted (λ e. all_woken (then_ (with_elements s e)) (wakes (elements s) step)) a)
    by (Ok (reply, e)) is = seated_woken (then_ (with_elements s e)) (wakes (elements s) step) (kept e (all_after (HasSeat s.sched.seats) (elements s) e reply step is named h))
    by (Err refusal) is = tt

seated_touched : (s : State) (by : Option ℕ) (step : ElementStep) → OfNewcomers (HasSeat s.sched.seats) step → AreSeated s → Leaves AreSeated (touched s by step).effect
seated_touched s by step named h = seated_stepping (λ x. x) s step (λ e here. here) named h

-- a step that is asked for names nobody, but for a raise
asked_named : (s : State) (step : ElementStep) → IsAsked step → MayRaise s step → OfNewcomers (HasSeat s.sched.seats) step
asked_named s (on_sem n step) asked may = tt
asked_named s (on_flags n step) asked may = tt
asked_named s (on_xbuf n step) asked may = tt
asked_named s (on_mutex n (mutex_step.release thread)) asked may = tt
asked_named s (on_mutex n (mutex_step.raise thread)) asked may = attached_of s.sched thread (passes (if is_some (slice_get (elements s).mutexes n) then None else Some Unknown) (stranger_refusal s.sched thread) may).1
asked_named s (on_mutex n (mutex_step.claim w owner)) asked may = absurd (false≢true asked)
asked_named s (on_mutex n (mutex_step.drop t)) asked may = absurd (false≢true asked)

-- a deadline
drop_named : (s : State) (thread : ℕ) (on : Awaited) → OfNewcomers (HasSeat s.sched.seats) (drop_step thread on)
drop_named s thread (awaited_of.Sem id) = tt
drop_named s thread (awaited_of.Flags id) = tt
drop_named s thread (awaited_of.Writing id way) = tt
drop_named s thread (awaited_of.Reading id way) = tt
drop_named s thread (awaited_of.Mutex id) = tt

seated_expired : (s : State) (thread : ℕ) → AreSeated s → AreSeated (deadline_left s thread).1
seated_expired s thread h = by (wait_at s thread)
  where
    after : State
    after = woken s thread TimedOut

    ended : AreSeated after
    ended = h

    by : (o : Option Wait) → AreSeated (if_done after (option_map_or (λ (w : Wait). touched after None (drop_step thread w.on)) o (record { touches = []; effect = Err Invalid })).effect)
    by None = ended
    by (Some w) = leaves-if_done AreSeated after _ ended (seated_touched after None (drop_step thread w.on) (drop_named after thread w.on) ended)

-- a wait is finished
seated_finish : (s : State) (caller : ℕ) (keep : Bool) → AreSeated s → Leaves AreSeated (finish s caller keep)
seated_finish s caller keep h = by (outcome_of (wait_at s caller))
  where
    free : State
    free = with_wait s caller None

    goes : (b : Bool) → AreSeated (inband_if b free caller)
    goes true = same_seated free (stage_set s.sched caller Inband) (policies-stage_set s.sched caller Inband) h
    goes false = h

    by : (r : Result Reply Refusal) → Leaves AreSeated (leaving (inband_if (goes_inband s caller keep) free caller) r)
    by (Ok reply) = goes (goes_inband s caller keep)
    by (Err refusal) = tt

-- a wait begins
seated_begun : (s : State) (caller : ℕ) (on : Awaited) (until : Option ℕ) (served : Option Reply) → AreSeated s → AreSeated (begun s caller on until served)
seated_begun s caller on until (Some outcome) h = h
seated_begun s caller on until None h = by (is_past s.clock.now until)
  where
    by : (b : Bool) → AreSeated (posted_if b (suspended s caller on until))
    by true = h
    by false = h

claim_named : (s : State) (caller rank : ℕ) (wants : Wanted) → HasSeat s.sched.seats caller → may_name s caller wants ≡ true → OfNewcomers (HasSeat s.sched.seats) (step_of_waiter caller rank wants)
claim_named s caller rank (wanted.Sem id) sits may = tt
claim_named s caller rank (wanted.Flags id kind) sits may = tt
claim_named s caller rank (wanted.Write id way bytes) sits may = tt
claim_named s caller rank (wanted.Read id way len) sits may = tt
claim_named s caller rank (wanted.Mutex id owner) sits may = (sits, known_owner s caller id owner may)

seated_beginning : (s : State) (caller : ℕ) (wants : Wanted) (until : Option ℕ) → AreSeated s → Leaves AreSeated (beginning s caller wants until).effect
seated_beginning s caller wants until h = leaves-refused AreSeated (begin_refusal s caller wants) _ (λ none.
    let step = begin_step s caller wants in
    let passed = waiter_passes s caller wants none in
    seated_stepping (λ x. begun x caller (awaited_by wants) until (serves (elements s) step)) s step (λ e. seated_begun (with_elements s e) caller (awaited_by wants) until (serves (elements s) step))
    (claim_named s caller (thread_call.rank_of s caller) wants (attached_of s.sched caller (known_waiter s caller wants passed)) (named_by s caller wants passed)) h)

-- the waits are proper, too: so who leaves waits for nothing
abbrev Stays : ℕ → State → Type 0
Stays n s = IsProper n s × AreSeated s

module _ (n : ℕ) (few : n ≤ thread_limit) where
  both : (e : Effect) → Leaves (IsProper n) e → Leaves AreSeated e → Leaves (Stays n) e
  both (Ok (reply, s)) proper seated = (proper, seated)
  both (Err refusal) proper seated = tt

  stays_each : KeptByEach (Stays n)
  stays_each =
      let proper = proper_by_each n few in
      record {
        lined = λ s q h. (proper.lined s q h.0, h.1);
        banked = λ s number home b h. (proper.banked s number home b h.0, h.1);
        clocked = λ s c same h. (proper.clocked s c same h.0, h.1);
        paid = λ s before delta now h. (proper.paid s before delta now h.0, seated_paid s before delta now h.1);
        asked = λ s by step plain may h. both _ (proper.asked s by step plain may h.0) (seated_touched s by step (asked_named s step plain may) h.1);
        expired = λ s thread h. (proper.expired s thread h.0, seated_expired s thread h.1);
      }

  stays_own : (s : State) (caller : ℕ) (asked : Call) → KeptByOwn (Stays n) s caller asked
  stays_own s caller asked =
      let proper = proper_by_own n few s caller asked in
      record {
        threads = λ step is passed h. both _ (proper.threads step is passed h.0)
            (seated_threads s caller step (stands_nowhere n few s h.0 caller (over_none s caller (passed_all s caller asked (ap ends_a_wait is) passed).idle)) h.1);
        begun = λ wants until is passed h. both _ (proper.begun wants until is passed h.0) (seated_beginning s caller wants until h.1);
        ended = λ keep is h. both _ (proper.ended keep is h.0) (seated_finish s caller keep h.1);
      }

-- nobody is recorded in a new kernel
seated_opening : (board : Board) (bank : List Handler) → AreSeated (opening board bank)
seated_opening board bank n m here = sound_of mutex.opened_mutex (OfRecorded (HasSeat (opening board bank).sched.seats)) (λ kind t is. absurd (false≢true is)) board.mutexes.items n m here

stays_at : (h : History) → IsLegal h → board_fits h.board ≡ true → Stays h.board.threads h.state
stays_at h legal fits =
    let few = threads_few h.board fits in
    run_holds (Stays h.board.threads) (stays_each h.board.threads few) (stays_own h.board.threads few) (opened_kernel h) h.entries h.plays h.state
    (proper_opening h.board h.bank fits, seated_opening h.board h.bank) legal

-- the computed rank is the effective one
rank_is_effective : (base : ℕ → ℕ) (mutexes : List Mutex) (thread : ℕ) → HasNoRing (waits_for mutexes) → ((from to : ℕ) → waits_for mutexes from ≡ Some to → from < thread_limit)
    → IsEffective base mutexes thread (rank_by base mutexes thread)
unfolding rank_by
rank_is_effective base mutexes thread none low = effective-is thread_limit base mutexes thread none low

pub owners_stay : OwnersStayProper
owners_stay h legal fits = record {
  ring_free = sound.no_ring;
  claimed = λ n m here. (one n m here).owned;
  raised = λ n m here. (one n m here).raised;
  attached = stays.1;
  effective = λ thread. rank_is_effective (threads.base_of s.sched) s.elements.mutexes thread sound.no_ring low;
}
  where
    s : State
    s = h.state

    stays : Stays h.board.threads s
    stays = stays_at h legal fits

    sound : IsSound (owners_in s.elements)
    sound = stays.0.proper.sound.mutexes

    one : (n : ℕ) (m : Mutex) → slice_get s.elements.mutexes n ≡ Some m → IsSoundMutex m
    one n m here = all-at IsSoundMutex s.elements.mutexes n m here sound.each

    low : (from to : ℕ) → waits_for s.elements.mutexes from ≡ Some to → from < thread_limit
    low from to is = subst (λ (count : ℕ). from < count) (length-replicate {A = ℕ} thread_limit 0) (low_wait (owners_in s.elements) sound from to is)
