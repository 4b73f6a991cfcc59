-- No call and no play changes how many threads, quota groups and elements there are, or of which sizes and kinds.
use Rattle.std.proofs.Common.{◌≡◌, ℕ, ◌-◌, nat_le, Bool, true, false, List, [], ◌∷◌, map, Option, Some, None, Result, Ok, Err, is_some, slice_get, slice_set, if◌then◌else◌, refl, ap, ◌∙◌, subst}
use Rattle.std.specs.Option.{option_map, option_map_or}
use Rattle.std.proofs.lemmas.List.{length-map, length-set, map-set}
use Rattle.std.proofs.lemmas.Option.{slice_get-map}
use Rattle.evl_base.specs.declared.board.Board.{Board}
use Rattle.evl_base.specs.declared.call.Call.{Call}
use Rattle.evl_base.specs.declared.mutex_kind.MutexKind.{MutexKind}
use Rattle.evl_base.specs.declared.policy.Policy.{Policy}
use Rattle.evl_base.specs.declared.policy.Policy.TheVariants.{Fifo, Rr, Quota, Weak}
use Rattle.evl_base.specs.declared.refusal.Refusal.{Refusal}
use Rattle.evl_base.specs.declared.refusal.Refusal.TheVariants.{Busy, Invalid, NotOwner}
use Rattle.evl_base.specs.declared.reply.Reply.{Reply}
use Rattle.evl_base.specs.declared.reply.Reply.TheVariants.{TimedOut}
use Rattle.evl_base.specs.declared.stage.Stage.{Stage}
use Rattle.evl_base.specs.declared.stage.Stage.TheVariants.{Inband}
use Rattle.evl_sched.specs.declared.group.Group.{Group}
use Rattle.evl_sched.specs.declared.seat.Seat.{Seat}
use Rattle.evl_sched.specs.Calls.{attach_refusal, set_policy_refusal, stranger_refusal}
use Rattle.evl_sched.specs.Charges.{slice_charged, policy_charged, thread_charged, charged, refilled_groups, refilled_at}
use Rattle.evl_sched.specs.Groups.{drained, drained_group, is_new_second, opened_group, refilled_budgets}
use Rattle.evl_sched.specs.Picks.{picked}
use Rattle.evl_sched.specs.Threads as threads
use Rattle.evl_sched.specs.Threads.{Sched, seat_at, with_seat}
use Rattle.evl_sync.specs.FlagGroups as flags
use Rattle.evl_sync.specs.FlagGroups.{FlagGroup}
use Rattle.evl_sync.specs.Semaphores as semaphores
use Rattle.evl_sync.specs.Semaphores.{Semaphore}
use Rattle.evl_xbuf.specs.Xbufs as xbufs
use Rattle.evl_xbuf.specs.Xbufs.{Xbuf, reading_stage, writing_stage}
use Rattle.evl_xbuf.proofs.SizeLaws.{KeepsSizes, write-sized, read-sized, begin_write-sized, begin_read-sized, drop-sized}
use Rattle.evl_mutex.specs.Mutexes as recorded
use Rattle.evl_mutex.specs.Mutexes.{Mutex, has_ceiling, is_open_to}
use Rattle.evl_mutex.specs.declared.waiter.Waiter.{Waiter}
use Rattle.evl_kernel.specs.declared.waits.Awaited.{Awaited}
use Rattle.evl_kernel.specs.declared.waits.Wait.{Wait}
use Rattle.evl_kernel.specs.declared.waits.Wanted.{Wanted}
use Rattle.evl_kernel.specs.state.States.{State, Elements, Handler}
use Rattle.evl_kernel.specs.state.Openings.{opening, all_opened}
use Rattle.evl_kernel.specs.state.Shapes.{HasShape, HaveShape, sizes_of}
use Rattle.evl_kernel.specs.calls.CrossBuffers as through
use Rattle.evl_kernel.specs.calls.CrossBuffers.{XbufStep, cross_buffer}
use Rattle.evl_kernel.specs.calls.Effects.{Answered, done, known, leaving, lifted, if_done, reply_by}
use Rattle.evl_kernel.specs.calls.Elements.{ElementStep, on_sem, on_flags, on_xbuf, on_mutex, at_nth, element, elements, serves, stepping_to, touched, wakes, with_elements}
use Rattle.evl_kernel.specs.calls.FlagGroups.{flag_group}
use Rattle.evl_kernel.specs.calls.Semaphores.{semaphore}
use Rattle.evl_kernel.specs.calls.Families.{ThreadStep, attach, detach, set_policy, set_stage, pick, tell_rank, thread_effect}
use Rattle.evl_kernel.specs.calls.Mutexes as mutexes
use Rattle.evl_kernel.specs.calls.Mutexes.{MutexStep, handed_told, mutex}
use Rattle.evl_kernel.specs.calls.ThreadCalls.{detach_refusal}
use Rattle.evl_kernel.specs.calls.TimerCalls.{posted_if}
use Rattle.evl_kernel.specs.waiting.Waits.{all_woken, is_past, suspended, wait_at, wait_begun, with_wait, woken}
use Rattle.evl_kernel.specs.waiting.Beginnings.{awaited_by, begin_refusal, begin_step, beginning}
use Rattle.evl_kernel.specs.waiting.Endings.{drop_step, finish, goes_inband, inband_if, outcome_of}
use Rattle.evl_kernel.specs.settling.Settling.{deadline_left}
use Rattle.evl_kernel.specs.histories.Histories.{History, IsLegal, opened_kernel}
use Rattle.evl_kernel.proofs.calls.LeavesLaws.{Leaves, leaves-if_done, leaves-refused}
use Rattle.evl_kernel.proofs.calls.ThreadSteps.{leaves-threads}
use Rattle.evl_kernel.proofs.state.SetLaws.{set_same}
use Rattle.evl_kernel.proofs.histories.StateWalk.{KeptByEach, KeptByOwn, run_holds}
use Rattle.evl_kernel.proofs.histories.StageLaws.{kept_by_each, kept_by_own, seats_are}
use Rattle.evl_kernel.proofs.waiting.DeadlineLaws.{dates_at}

-- what is said of each element stays, where it stays for the one that is written
module _ {X B : Type 0} (f : X → B) where
  map-kept : (xs : List X) (n : ℕ) (x y : X) → slice_get xs n ≡ Some x → f y ≡ f x → map f (slice_set xs n y) ≡ map f xs
  map-kept xs n x y there same =
      map-set f xs n y ∙ (ap (λ (b : B). slice_set (map f xs) n b) same ∙ set_same (map f xs) n (f x) (slice_get-map f xs n ∙ ap (option_map f) there))

  -- a step of one element keeps it
  abbrev Keeps : X → Answered X → Type 0
  Keeps x (Ok (reply, y)) = f y ≡ f x
  Keeps x (Err refusal) = Unit {0}

replied : {A : Type 0} (g : A → Reply) (x : Xbuf) (r : Result (A × Xbuf) Refusal) → KeepsSizes x r → Keeps sizes_of x (reply_by g r)
replied g x (Ok (answer, y)) h = λ i. (h.0 i, h.1 i)
replied g x (Err refusal) h = tt

xbuf-kept : (x : Xbuf) (step : XbufStep) → Keeps sizes_of x (cross_buffer x step)
xbuf-kept x (through.write stage way bytes) = replied _ x _ (write-sized stage way bytes x)
xbuf-kept x (through.read stage way len) = replied _ x _ (read-sized stage way len x)
xbuf-kept x (through.room way) = refl
xbuf-kept x (through.begin_write thread way bytes) = replied _ x _ (begin_write-sized thread (writing_stage way) way bytes x)
xbuf-kept x (through.begin_read thread way len) = replied _ x _ (begin_read-sized thread (reading_stage way) way len x)
xbuf-kept x (through.drop thread way) = let h = drop-sized thread way x in λ i. (h.0 i, h.1 i)

mutex-kept : (m : Mutex) (step : MutexStep) → Keeps (λ (m : Mutex). m.kind) m (mutex m step)
mutex-kept m (mutexes.claim w owner) = refl
mutex-kept m (mutexes.release thread) = by (is_open_to thread m) m.waiters
  where
    handed : (ws : List Waiter) → (recorded.handed_to m ws).after.kind ≡ m.kind
    handed [] = refl
    handed (w ∷ ws) = refl

    by : (b : Bool) (ws : List Waiter) → Keeps (λ (m : Mutex). m.kind) m (if b then Ok (handed_told (recorded.handed_to m ws), (recorded.handed_to m ws).after) else Err NotOwner)
    by true ws = handed ws
    by false ws = tt
mutex-kept m (mutexes.raise thread) = by (has_ceiling m) (is_some m.owner)
  where
    by : (b o : Bool) → Keeps (λ (m : Mutex). m.kind) m (if b then (if o then Err Busy else done (recorded.raised_mutex m thread)) else Err Invalid)
    by true true = tt
    by true false = refl
    by false o = tt
mutex-kept m (mutexes.drop thread) = refl

module _ (board : Board) where
  abbrev LeaveShape : Answered Elements → Type 0
  LeaveShape (Ok (reply, e)) = HaveShape board e
  LeaveShape (Err refusal) = Unit {0}

  -- a step of the n-th element
  nth-shape : {X P : Type 0} (machine : X → P → Answered X) (with_kind : List X → Elements) (records : List X) (n : ℕ) (step : P)
      → ((x y : X) (reply : Reply) → slice_get records n ≡ Some x → machine x step ≡ Ok (reply, y) → HaveShape board (with_kind (slice_set records n y)))
      → LeaveShape (at_nth machine with_kind records n step)
  nth-shape {X} machine with_kind records n step each = by (slice_get records n) refl
    where
      left : (x : X) → slice_get records n ≡ Some x → (a : Answered X) → machine x step ≡ a → LeaveShape (lifted (λ (y : X). with_kind (slice_set records n y)) a)
      left x there (Ok (reply, y)) is = each x y reply there is
      left x there (Err refusal) is = tt

      by : (o : Option X) → slice_get records n ≡ o → LeaveShape (known o (λ (x : X). lifted (λ (y : X). with_kind (slice_set records n y)) (machine x step)))
      by None there = tt
      by (Some x) there = left x there (machine x step) refl

  element-shape : (e : Elements) (step : ElementStep) → HaveShape board e → LeaveShape (element e step)
  element-shape e (on_sem n step) h = nth-shape semaphore (λ (sems : List Semaphore). record e { sems = sems }) e.sems n step (λ x y reply there is.
      record { sems = length-set e.sems n y ∙ h.sems; flags = h.flags; xbufs = h.xbufs; mutexes = h.mutexes })
  element-shape e (on_flags n step) h = nth-shape flag_group (λ (flags : List FlagGroup). record e { flags = flags }) e.flags n step (λ x y reply there is.
      record { sems = h.sems; flags = length-set e.flags n y ∙ h.flags; xbufs = h.xbufs; mutexes = h.mutexes })
  element-shape e (on_xbuf n step) h = nth-shape cross_buffer (λ (xbufs : List Xbuf). record e { xbufs = xbufs }) e.xbufs n step (λ x y reply there is.
      record { sems = h.sems; flags = h.flags; xbufs = map-kept sizes_of e.xbufs n x y there (subst (Keeps sizes_of x) is (xbuf-kept x step)) ∙ h.xbufs; mutexes = h.mutexes })
  element-shape e (on_mutex n step) h = nth-shape mutex (λ (mutexes : List Mutex). record e { mutexes = mutexes }) e.mutexes n step (λ x y reply there is.
      record { sems = h.sems; flags = h.flags; xbufs = h.xbufs; mutexes = map-kept (λ (m : Mutex). m.kind) e.mutexes n x y there (subst (Keeps (λ (m : Mutex). m.kind) x) is (mutex-kept x step)) ∙ h.mutexes })

  -- how many threads there are, and the elements
  abbrev IsOf : State → Type 0
  IsOf s = (s.threads ≡ board.threads) × HaveShape board s.elements

  of-woken : (s : State) (served : List (ℕ × Reply)) → IsOf s → IsOf (all_woken s served)
  of-woken s [] h = h
  of-woken s ((thread, outcome) ∷ others) h = of-woken (woken s thread outcome) others h

  of-stepping : (then_ : State → State) → ((x : State) → IsOf x → IsOf (then_ x)) → (s : State) (step : ElementStep) → IsOf s → Leaves IsOf (stepping_to then_ s step)
  of-stepping then_ kept s step h = left (element (elements s) step) (element-shape (elements s) step h.1)
    where
      left : (a : Answered Elements) → LeaveShape a → Leaves IsOf (lifted (λ e. all_woken (then_ (with_elements s e)) (wakes (elements s) step)) a)
      left (Ok (reply, e)) shape = of-woken (then_ (with_elements s e)) (wakes (elements s) step) (kept (with_elements s e) (h.0, shape))
      left (Err refusal) shape = tt

  of-touched : (s : State) (by : Option ℕ) (step : ElementStep) → IsOf s → Leaves IsOf (touched s by step).effect
  of-touched s by step h = of-stepping (λ x. x) (λ x hx. hx) s step h

  of-begun : (s : State) (thread : ℕ) (on : Awaited) (until : Option ℕ) (served : Option Reply) → IsOf s → IsOf (wait_begun s thread on until served)
  of-begun s thread on until None h = by (is_past s.clock.now until)
    where
      by : (b : Bool) → IsOf (posted_if b (suspended s thread on until))
      by true = h
      by false = h
  of-begun s thread on until (Some outcome) h = h

  of-beginning : (s : State) (thread : ℕ) (wants : Wanted) (until : Option ℕ) → IsOf s → Leaves IsOf (beginning s thread wants until).effect
  of-beginning s thread wants until h =
      let step = begin_step s thread wants in
      leaves-refused IsOf (begin_refusal s thread wants) _ (λ passed.
      of-stepping (λ x. wait_begun x thread (awaited_by wants) until (serves (elements s) step)) (λ x hx. of-begun x thread (awaited_by wants) until (serves (elements s) step) hx) s step h)

  of-finish : (s : State) (thread : ℕ) (keep : Bool) → IsOf s → Leaves IsOf (finish s thread keep)
  of-finish s thread keep h = by (outcome_of (wait_at s thread))
    where
      if_it_goes : (b : Bool) → IsOf (inband_if b (with_wait s thread None) thread)
      if_it_goes true = h
      if_it_goes false = h

      by : (r : Result Reply Refusal) → Leaves IsOf (leaving (inband_if (goes_inband s thread keep) (with_wait s thread None) thread) r)
      by (Ok reply) = if_it_goes (goes_inband s thread keep)
      by (Err refusal) = tt

  of-expired : (s : State) (thread : ℕ) → IsOf s → IsOf (deadline_left s thread).1
  of-expired s thread h = by (wait_at s thread)
    where
      after : State
      after = woken s thread TimedOut

      by : (o : Option Wait) → IsOf (if_done after (option_map_or (λ (w : Wait). touched after None (drop_step thread w.on)) o (record { touches = []; effect = Err Invalid })).effect)
      by None = h
      by (Some w) = leaves-if_done IsOf after _ h (of-touched after None (drop_step thread w.on) h)

  of-each : KeptByEach IsOf
  of-each = record {
    lined = λ s q h. h;
    banked = λ s number home b h. h;
    clocked = λ s c same h. h;
    paid = λ s before delta now h. h;
    asked = λ s by step plain may h. of-touched s by step h;
    expired = λ s thread h. of-expired s thread h;
  }

  of-own : (s : State) (caller : ℕ) (asked : Call) → KeptByOwn IsOf s caller asked
  of-own s caller asked = record {
    threads = λ step is passed h. leaves-threads IsOf (λ x q hx. hx) s caller step h;
    begun = λ wants until is passed h. of-beginning s caller wants until h;
    ended = λ keep is h. of-finish s caller keep h;
  }

-- the quota groups have their parts of the processor
percents-drained : (groups : List Group) (n delta : ℕ) → map (λ (g : Group). g.percent) (drained groups n delta) ≡ map (λ (g : Group). g.percent) groups
percents-drained groups n delta = by (slice_get groups n) refl
  where
    by : (o : Option Group) → slice_get groups n ≡ o → map (λ (g : Group). g.percent) (option_map_or (λ (g : Group). slice_set groups n (drained_group g delta)) o groups) ≡ map (λ (g : Group). g.percent) groups
    by None there = refl
    by (Some g) there = map-kept (λ (g : Group). g.percent) groups n g (drained_group g delta) there refl

percents-full : (groups : List Group) → map (λ (g : Group). g.percent) (refilled_budgets groups) ≡ map (λ (g : Group). g.percent) groups
percents-full [] = refl
percents-full (g ∷ groups) = ap (λ (ps : List ℕ). g.percent ∷ ps) (percents-full groups)

percents-opened : (ps : List ℕ) → map (λ (g : Group). g.percent) (map opened_group ps) ≡ ps
percents-opened [] = refl
percents-opened (p ∷ ps) = ap (λ (qs : List ℕ). p ∷ qs) (percents-opened ps)

module _ (parts : List ℕ) where
  abbrev Parts : Sched → Type 0
  Parts q = map (λ (g : Group). g.percent) q.groups ≡ parts

  parts-slice : (q : Sched) (thread : ℕ) (seat : Seat) (slice delta : ℕ) → Parts q → Parts (slice_charged q thread seat slice delta)
  parts-slice q thread seat slice delta h = by (nat_le seat.rest delta)
    where
      by : (b : Bool) → Parts (if b then threads.readied (with_seat q thread (Some (record seat { rest = slice }))) thread else with_seat q thread (Some (record seat { rest = seat.rest - delta })))
      by true = h
      by false = h

  parts-policy : (q : Sched) (thread : ℕ) (seat : Seat) (policy : Policy) (delta : ℕ) → Parts q → Parts (policy_charged q thread seat policy delta)
  parts-policy q thread seat (Fifo prio) delta h = h
  parts-policy q thread seat (Rr prio slice) delta h = parts-slice q thread seat slice delta h
  parts-policy q thread seat (Quota group prio) delta h = percents-drained q.groups group delta ∙ h
  parts-policy q thread seat (Weak prio) delta h = h

  parts-charged : (rank : ℕ → ℕ) (q : Sched) (delta : ℕ) → Parts q → Parts (charged rank q delta)
  parts-charged rank q delta h = by (picked rank q)
    where
      of_seat : (thread : ℕ) (o : Option Seat) → Parts (option_map_or (λ (seat : Seat). policy_charged q thread seat seat.policy delta) o q)
      of_seat thread None = h
      of_seat thread (Some seat) = parts-policy q thread seat seat.policy delta h

      by : (o : Option ℕ) → Parts (option_map_or (λ (thread : ℕ). thread_charged q thread delta) o q)
      by None = h
      by (Some thread) = of_seat thread (seat_at q thread)

  parts-paid : (rank : ℕ → ℕ) (q : Sched) (before delta now : ℕ) → Parts q → Parts (refilled_at before now (charged rank q delta))
  parts-paid rank q before delta now h = by (is_new_second before now)
    where
      by : (b : Bool) → Parts (if b then refilled_groups (charged rank q delta) else charged rank q delta)
      by true = percents-full (charged rank q delta).groups ∙ parts-charged rank q delta h
      by false = parts-charged rank q delta h

  parts-switched : (q : Sched) (thread : ℕ) (stage : Stage) → Parts q → Parts (threads.stage_set q thread stage)
  parts-switched q thread stage h = by (seat_at q thread)
    where
      switched : (seat : Seat) (b : Bool) → Parts (if b then q else threads.readied (with_seat q thread (Some (record seat { stage = stage }))) thread)
      switched seat true = h
      switched seat false = h

      by : (o : Option Seat) → Parts (option_map_or (threads.switched q thread stage) o q)
      by None = h
      by (Some seat) = switched seat (threads.is_on stage seat)

  parts-threads : (s : State) (caller : ℕ) (step : ThreadStep) → Parts s.sched → Leaves (λ x. Parts x.sched) (thread_effect s caller step)
  parts-threads s caller (attach policy stage) h = leaves-refused (λ x. Parts x.sched) (attach_refusal s.sched caller policy) _ (λ passed. h)
  parts-threads s caller detach h = leaves-refused (λ x. Parts x.sched) (detach_refusal s caller) _ (λ passed. h)
  parts-threads s caller (set_policy policy) h = leaves-refused (λ x. Parts x.sched) (set_policy_refusal s.sched caller policy) _ (λ passed. h)
  parts-threads s caller (set_stage stage) h = leaves-refused (λ x. Parts x.sched) (stranger_refusal s.sched caller) _ (λ passed. parts-switched s.sched caller stage h)
  parts-threads s caller pick h = h
  parts-threads s caller (tell_rank thread) h = leaves-refused (λ x. Parts x.sched) (stranger_refusal s.sched thread) _ (λ passed. h)

-- what a new kernel has
lists-opened : {C X B : Type 0} (opened : C → X) (f : X → B) (g : C → B) → ((c : C) → f (opened c) ≡ g c) → (cs : List C) → map f (map opened cs) ≡ map g cs
lists-opened opened f g each [] = refl
lists-opened opened f g each (c ∷ cs) = λ i. each c i ∷ lists-opened opened f g each cs i

map-as_is : {B : Type 0} (xs : List B) → map (λ (x : B). x) xs ≡ xs
map-as_is [] = refl
map-as_is {B} (x ∷ xs) = ap (λ (ys : List B). x ∷ ys) (map-as_is xs)

shape-opened : (board : Board) → HaveShape board (all_opened board)
shape-opened board = record {
  sems = length-map board.sems.items semaphores.opened_semaphore;
  flags = length-map board.flags.items flags.opened_group;
  xbufs = lists-opened (λ (sizes : ℕ × ℕ). xbufs.opened_xbuf sizes.0 sizes.1) sizes_of (λ (sizes : ℕ × ℕ). sizes) (λ sizes. refl) board.xbufs.items ∙ map-as_is board.xbufs.items;
  mutexes = lists-opened recorded.opened_mutex (λ (m : Mutex). m.kind) (λ (kind : MutexKind). kind) (λ kind. refl) board.mutexes.items ∙ map-as_is board.mutexes.items;
}

parts-opening : (board : Board) (bank : List Handler) → Parts board.groups.items (opening board bank).sched
unfolding threads.opening
parts-opening board bank = percents-opened board.groups.items

pub shape_stays : (h : History) → IsLegal h → HasShape h.board h.state
shape_stays h legal =
    let is = run_holds (IsOf h.board) (of-each h.board) (of-own h.board) (opened_kernel h) h.entries h.plays h.state (refl, shape-opened h.board) legal in
    let Q = Parts h.board.groups.items in let pays = parts-paid h.board.groups.items in
    let queues : (q : Sched) (ready : List ℕ) → Q q → Q (record q { ready = ready }) = λ q ready h. h in
    let parts =
    run_holds (λ s. Q s.sched) (kept_by_each Q pays queues) (λ s caller asked. kept_by_own Q pays queues s caller asked (parts-threads h.board.groups.items s caller) (λ q. parts-switched h.board.groups.items q caller Inband)) (opened_kernel h) h.entries h.plays h.state (parts-opening h.board h.bank) legal in
    record { threads = is.0; elements = is.1; seats = seats_are h legal; groups = parts; deadlines = dates_at h legal }
