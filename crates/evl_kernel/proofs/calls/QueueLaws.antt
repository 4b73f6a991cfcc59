-- The meaning of each step of the elements for the queues, and that all elements stay sound.
use Rattle.std.proofs.Common.{◌≡◌, ◌≢◌, ◌<◌, ℕ, Bool, true, false, arith, List, [], Option, Some, None, Ok, slice_get, slice_set, refl, sym, ap, ◌∙◌, subst}
use Rattle.std.specs.Option.{option_map_or}
use Rattle.std.proofs.lemmas.Bool.{false≢true}
use Rattle.std.proofs.lemmas.List.{length-replicate}
use Rattle.std.proofs.lemmas.Option.{none-some}
use Rattle.arrayvec.specs.ArrayVec.{ArrayVec as Items}
use Rattle.evl_base.specs.declared.numbers.FlagId.{FlagId}
use Rattle.evl_base.specs.declared.numbers.SemId.{SemId}
use Rattle.evl_base.specs.declared.numbers.XbufId.{XbufId}
use Rattle.evl_base.specs.declared.stage.Stage.{Stage}
use Rattle.evl_base.specs.declared.way.Way.{Way}
use Rattle.evl_base.specs.declared.reply.Reply.{Reply}
use Rattle.evl_base.specs.declared.reply.Reply.TheVariants.{Done}
use Rattle.evl_base.specs.declared.take.Take.{Take}
use Rattle.evl_sync.specs.FlagGroups as flags
use Rattle.evl_sync.specs.FlagGroups.{FlagGroup}
use Rattle.evl_sync.specs.Semaphores as sem
use Rattle.evl_sync.specs.Semaphores.{Semaphore}
use Rattle.evl_kernel.specs.declared.waits.Awaited.{Awaited}
use Rattle.evl_kernel.specs.declared.waits.Awaited.TheVariants.{Sem, Flags, Writing, Reading, Mutex}
use Rattle.evl_kernel.specs.declared.waits.Wanted.{Wanted}
use Rattle.evl_kernel.specs.declared.waits.Wanted.TheVariants as wanted
use Rattle.evl_kernel.specs.state.States.{Elements}
use Rattle.evl_kernel.specs.calls.Effects.{if_done}
use Rattle.evl_kernel.specs.calls.Semaphores as semaphore
use Rattle.evl_kernel.specs.calls.Semaphores.{semaphore as sem_machine, sem_serves, sem_wakes}
use Rattle.evl_kernel.specs.calls.FlagGroups as group
use Rattle.evl_kernel.specs.calls.FlagGroups.{flag_group, flag_serves, flag_wakes}
use Rattle.evl_base.specs.declared.numbers.MutexId.{MutexId}
use Rattle.evl_base.specs.declared.numbers.ThreadId.{ThreadId}
use Rattle.evl_mutex.specs.declared.waiter.Waiter.{Waiter}
use Rattle.evl_mutex.specs.Mutexes as mutex
use Rattle.evl_mutex.specs.Mutexes.{Mutex as MutexRecorded, is_open_to}
use Rattle.evl_mutex.specs.Chains.{reaches, waits_for}
use Rattle.evl_base.specs.Limits.{thread_limit}
use Rattle.evl_kernel.specs.calls.Mutexes as recorded
use Rattle.evl_kernel.specs.calls.Mutexes.{mutex as mutex_machine, mutex_wakes}
use Rattle.evl_xbuf.specs.Xbufs as xbufs
use Rattle.evl_xbuf.specs.Xbufs.{Xbuf}
use Rattle.evl_kernel.specs.calls.CrossBuffers as through
use Rattle.evl_kernel.specs.calls.CrossBuffers.{XbufStep, cross_buffer, xbuf_serves, xbuf_wakes}
use Rattle.evl_kernel.specs.calls.Elements.{ElementStep, on_sem, on_flags, on_xbuf, on_mutex, element, serves, wakes}
use Rattle.evl_kernel.specs.waiting.Beginnings.{awaited_by, is_open, step_of_waiter, waits_back}
use Rattle.evl_kernel.specs.waiting.Endings.{drop_step}
use Rattle.evl_kernel.specs.waiting.Standing.{AreSound, in_flags, in_mutex, in_readers, in_sem, in_writers, owners_in, stands_for}
use Rattle.evl_kernel.proofs.calls.ElementSteps.{nth-done, nth-made, nth-unknown, ok_is}
use Rattle.evl_kernel.proofs.calls.QueueSteps.{Comes, Drops, LetsGo, mutex_comes, mutex_drops, mutex_goes, mutexes_sound, flags_come, flags_drop, flags_go, flags_sound, sem_comes, sem_drops, sem_goes, sems_sound, was_at_it}
use Rattle.evl_kernel.proofs.calls.SemQueues as sems
use Rattle.evl_kernel.proofs.calls.FlagQueues as flag_queues
use Rattle.evl_kernel.proofs.calls.MutexQueues as mutexes
use Rattle.evl_kernel.proofs.calls.XbufQueues as queues
use Rattle.evl_kernel.proofs.calls.XbufSteps.{of_xbuf, reader_drops, was_there, writer_drops, xbuf_comes, xbuf_goes, xbufs_sound}

-- a step of an element that calls and callbacks ask for and that changes it: no wait begins by it, and none ends by its
-- deadline
abbrev pub is_asked : ElementStep → Bool
is_asked (on_sem n semaphore.get) = true
is_asked (on_sem n semaphore.put) = true
is_asked (on_flags n (group.take kind)) = true
is_asked (on_flags n (group.post bits)) = true
is_asked (on_xbuf n (through.write stage way bytes)) = true
is_asked (on_xbuf n (through.read stage way len)) = true
is_asked (on_mutex n (recorded.release thread)) = true
is_asked (on_mutex n (recorded.raise thread)) = true
is_asked _ = false

abbrev pub IsAsked : ElementStep → Type 0
IsAsked step = is_asked step ≡ true

pub asks_get : (n : ℕ) → IsAsked (on_sem n semaphore.get)
asks_get n = refl

pub asks_put : (n : ℕ) → IsAsked (on_sem n semaphore.put)
asks_put n = refl

pub asks_take : (n : ℕ) (kind : Take) → IsAsked (on_flags n (group.take kind))
asks_take n kind = refl

pub asks_post : (n bits : ℕ) → IsAsked (on_flags n (group.post bits))
asks_post n bits = refl

pub asks_write : (n : ℕ) (stage : Stage) (way : Way) (bytes : List ℕ) → IsAsked (on_xbuf n (through.write stage way bytes))
asks_write n stage way bytes = refl

pub asks_read : (n : ℕ) (stage : Stage) (way : Way) (len : ℕ) → IsAsked (on_xbuf n (through.read stage way len))
asks_read n stage way len = refl

pub asks_release : (n thread : ℕ) → IsAsked (on_mutex n (recorded.release thread))
asks_release n thread = refl

pub asks_raise : (n thread : ℕ) → IsAsked (on_mutex n (recorded.raise thread))
asks_raise n thread = refl

-- what a step leaves of elements: all sound, and these are let go
pub record Stepped (e : Elements) (served : List (ℕ × Reply)) (after : Elements) : Type 0 where
  pub sound : AreSound after
  pub goes : LetsGo e served after

module _ (e : Elements) (h : AreSound e) (after : Elements) (reply : Reply) where
  of_sem_step : (n : ℕ) (step : semaphore.SemStep) → ((q p : Semaphore) → slice_get e.sems n ≡ Some q → sem_machine q step ≡ Ok (reply, p) → sems.Left q p (sem_wakes q step))
      → element e (on_sem n step) ≡ Ok (reply, after) → Stepped e (wakes e (on_sem n step)) after
  of_sem_step n step each is =
      let made = nth-made sem_machine (λ qs. record e { sems = qs }) e.sems n step reply after is in
      let left = each made.before made.left made.here made.made in
      let served : sem_wakes made.before step ≡ wakes e (on_sem n step) = sym (ap (λ (o : Option Semaphore). option_map_or (λ (q : Semaphore). sem_wakes q step) o []) made.here) in
      subst (λ (x : Elements). Stepped e (wakes e (on_sem n step)) x) made.after_is
      (record {
        sound = sems_sound e n made.before made.left made.here h left.sound;
        goes = subst (λ (ws : List (ℕ × Reply)). LetsGo e ws (record e { sems = slice_set e.sems n made.left })) served (sem_goes e n made.before made.left made.here (sem_wakes made.before step) left.goes);
      })

  of_flags_step : (n : ℕ) (step : group.FlagStep) → ((f g : FlagGroup) → slice_get e.flags n ≡ Some f → flag_group f step ≡ Ok (reply, g) → flag_queues.Left f g (flag_wakes f step))
      → element e (on_flags n step) ≡ Ok (reply, after) → Stepped e (wakes e (on_flags n step)) after
  of_flags_step n step each is =
      let made = nth-made flag_group (λ fs. record e { flags = fs }) e.flags n step reply after is in
      let left = each made.before made.left made.here made.made in
      let served : flag_wakes made.before step ≡ wakes e (on_flags n step) = sym (ap (λ (o : Option FlagGroup). option_map_or (λ (f : FlagGroup). flag_wakes f step) o []) made.here) in
      subst (λ (x : Elements). Stepped e (wakes e (on_flags n step)) x) made.after_is
      (record {
        sound = flags_sound e n made.before made.left made.here h left.sound;
        goes = subst (λ (ws : List (ℕ × Reply)). LetsGo e ws (record e { flags = slice_set e.flags n made.left })) served (flags_go e n made.before made.left made.here (flag_wakes made.before step) left.goes);
      })

  of_xbuf_step : (n : ℕ) (step : XbufStep) → ((x y : Xbuf) → slice_get e.xbufs n ≡ Some x → cross_buffer x step ≡ Ok (reply, y) → queues.Left x y (xbuf_wakes x step))
      → element e (on_xbuf n step) ≡ Ok (reply, after) → Stepped e (wakes e (on_xbuf n step)) after
  of_xbuf_step n step each is =
      let made = nth-made cross_buffer (λ xs. record e { xbufs = xs }) e.xbufs n step reply after is in
      let left = each made.before made.left made.here made.made in
      let served : xbuf_wakes made.before step ≡ wakes e (on_xbuf n step) = sym (ap (λ (o : Option Xbuf). option_map_or (λ (x : Xbuf). xbuf_wakes x step) o []) made.here) in
      subst (λ (z : Elements). Stepped e (wakes e (on_xbuf n step)) z) made.after_is
      (record {
        sound = xbufs_sound e n made.before made.left made.here h left.sound;
        goes = subst (λ (ws : List (ℕ × Reply)). LetsGo e ws (record e { xbufs = slice_set e.xbufs n made.left })) served (xbuf_goes e n made.before made.left made.here (xbuf_wakes made.before step) left);
      })

  of_mutex_step : (n : ℕ) (step : recorded.MutexStep) → ((m p : MutexRecorded) (here : slice_get e.mutexes n ≡ Some m) → mutex_machine m step ≡ Ok (reply, p) → mutexes.Left (owners_in e) n m here h.mutexes p (mutex_wakes m step))
      → element e (on_mutex n step) ≡ Ok (reply, after) → Stepped e (wakes e (on_mutex n step)) after
  of_mutex_step n step each is =
      let made = nth-made mutex_machine (λ ms. record e { mutexes = ms }) e.mutexes n step reply after is in
      let left = each made.before made.left made.here made.made in
      let served : mutex_wakes made.before step ≡ wakes e (on_mutex n step) = sym (ap (λ (o : Option MutexRecorded). option_map_or (λ (m : MutexRecorded). mutex_wakes m step) o []) made.here) in
      subst (λ (x : Elements). Stepped e (wakes e (on_mutex n step)) x) made.after_is
      (record {
        sound = mutexes_sound e n made.before made.left made.here h left.sound;
        goes = subst (λ (ws : List (ℕ × Reply)). LetsGo e ws (record e { mutexes = slice_set e.mutexes n made.left })) served (mutex_goes e n made.before made.left made.here (mutex_wakes made.before step) left.goes);
      })

  -- a step that was asked for
  pub asked_goes : (step : ElementStep) → IsAsked step → element e step ≡ Ok (reply, after) → Stepped e (wakes e step) after
  asked_goes (on_sem n semaphore.get) asked is = of_sem_step n semaphore.get (λ q p here made. sems.get_left q p reply (h.sems n q here) made) is
  asked_goes (on_sem n semaphore.put) asked is = of_sem_step n semaphore.put (λ q p here made. sems.put_left q p reply (h.sems n q here) made) is
  asked_goes (on_flags n (group.take kind)) asked is = of_flags_step n (group.take kind) (λ f g here made. flag_queues.take_left f g reply kind (h.flags n f here) made) is
  asked_goes (on_flags n (group.post bits)) asked is = of_flags_step n (group.post bits) (λ f g here made. flag_queues.post_left f g reply bits (h.flags n f here) made) is
  asked_goes (on_xbuf n (through.write stage way bytes)) asked is = of_xbuf_step n (through.write stage way bytes) (λ x y here made. queues.write_left x y reply (h.xbufs n x here) stage way bytes made) is
  asked_goes (on_xbuf n (through.read stage way len)) asked is = of_xbuf_step n (through.read stage way len) (λ x y here made. queues.read_left_of x y reply (h.xbufs n x here) stage way len made) is
  asked_goes (on_mutex n (recorded.release thread)) asked is = of_mutex_step n (recorded.release thread) (λ m p here made. mutexes.release_left (owners_in e) n m here h.mutexes thread p reply made) is
  asked_goes (on_mutex n (recorded.raise thread)) asked is = of_mutex_step n (recorded.raise thread) (λ m p here made. mutexes.raise_left (owners_in e) n m here h.mutexes thread p reply made) is
  asked_goes _ asked is = absurd (false≢true asked)

-- a thread that waits for a mutex names another one, which is the recorded owner or may be, and waits for itself by that
-- along no owners
abbrev pub IsFree : Elements → ℕ → Wanted → Type 0
IsFree e thread (wanted.Mutex id owner) = (is_open e id.0 owner.0 ≡ true) × (owner.0 ≢ thread) × (waits_back e.mutexes owner.0 thread ≡ false)
IsFree e thread _ = Unit {0}

-- what a beginning leaves of them: the thread is served at once, or it comes to the queue
pub record Begins (e : Elements) (thread : ℕ) (on : Awaited) (served : Option Reply) (woken : List (ℕ × Reply)) (after : Elements) : Type 0 where
  pub sound : AreSound after
  pub at_once : (outcome : Reply) → served ≡ Some outcome → LetsGo e woken after
  pub waits : served ≡ None → Comes e on thread after
  pub quiet : served ≡ None → woken ≡ []

module _ (e : Elements) (h : AreSound e) (after : Elements) (reply : Reply) (thread rank : ℕ) (within : thread < thread_limit) where
  of_sem : (id : SemId) → stands_for e (Sem id) thread ≡ false → element e (step_of_waiter thread rank (wanted.Sem id)) ≡ Ok (reply, after)
      → Begins e thread (Sem id) (serves e (step_of_waiter thread rank (wanted.Sem id))) (wakes e (step_of_waiter thread rank (wanted.Sem id))) after
  of_sem id away is =
      let step = semaphore.begin (record { thread = thread; rank = rank }) in
      let made = nth-made sem_machine (λ qs. record e { sems = qs }) e.sems id.0 step reply after is in
      let begun = sems.begun made.before made.left reply (record { thread = thread; rank = rank }) (h.sems id.0 made.before made.here)
      (sym (was_at_it in_sem e.sems id.0 made.before made.left made.here thread) ∙ away) within made.made in
      let told : serves e (on_sem id.0 step) ≡ sem_serves made.before step = ap (λ (o : Option Semaphore). option_map_or (λ (q : Semaphore). sem_serves q step) o None) made.here in
      let nobody : wakes e (on_sem id.0 step) ≡ [] = ap (λ (o : Option Semaphore). option_map_or (λ (q : Semaphore). sem_wakes q step) o []) made.here in
      subst (λ (x : Elements). Begins e thread (Sem id) (serves e (on_sem id.0 step)) (wakes e (on_sem id.0 step)) x) made.after_is
      (record {
        sound = sems_sound e id.0 made.before made.left made.here h begun.sound;
        at_once = λ outcome served. subst (λ (ws : List (ℕ × Reply)). LetsGo e ws (record e { sems = slice_set e.sems id.0 made.left })) (sym nobody)
            (sem_goes e id.0 made.before made.left made.here [] (begun.at_once outcome (sym told ∙ served)));
        waits = λ none. sem_comes e id.0 made.before made.left made.here thread (begun.waits (sym told ∙ none));
        quiet = λ none. nobody;
      })

  -- a wait at a queue of a cross-buffer
  of_transfer : (id : XbufId) (queue : queues.Queue) (step : XbufStep) → stands_for e (of_xbuf id.0 queue) thread ≡ false → element e (on_xbuf id.0 step) ≡ Ok (reply, after)
      → ((x y : Xbuf) → slice_get e.xbufs id.0 ≡ Some x → queues.in_queue queue x thread ≡ false → cross_buffer x step ≡ Ok (reply, y) → queues.Begun x y queue thread (xbuf_serves x step) (xbuf_wakes x step))
      → Begins e thread (of_xbuf id.0 queue) (serves e (on_xbuf id.0 step)) (wakes e (on_xbuf id.0 step)) after
  of_transfer id queue step away is each =
      let made = nth-made cross_buffer (λ xs. record e { xbufs = xs }) e.xbufs id.0 step reply after is in
      let begun = each made.before made.left made.here (sym (was_there e id.0 made.before made.left made.here queue thread) ∙ away) made.made in
      let told : serves e (on_xbuf id.0 step) ≡ xbuf_serves made.before step = ap (λ (o : Option Xbuf). option_map_or (λ (x : Xbuf). xbuf_serves x step) o None) made.here in
      let woken : wakes e (on_xbuf id.0 step) ≡ xbuf_wakes made.before step = ap (λ (o : Option Xbuf). option_map_or (λ (x : Xbuf). xbuf_wakes x step) o []) made.here in
      subst (λ (z : Elements). Begins e thread (of_xbuf id.0 queue) (serves e (on_xbuf id.0 step)) (wakes e (on_xbuf id.0 step)) z) made.after_is
      (record {
        sound = xbufs_sound e id.0 made.before made.left made.here h begun.sound;
        at_once = λ outcome served. subst (λ (ws : List (ℕ × Reply)). LetsGo e ws (record e { xbufs = slice_set e.xbufs id.0 made.left })) (sym woken)
            (xbuf_goes e id.0 made.before made.left made.here (xbuf_wakes made.before step) (begun.at_once outcome (sym told ∙ served)));
        waits = λ none. xbuf_comes e id.0 made.before made.left made.here queue thread (begun.waits (sym told ∙ none));
        quiet = λ none. woken ∙ begun.quiet (sym told ∙ none);
      })

  of_flags : (id : FlagId) (kind : Take) → stands_for e (Flags id) thread ≡ false → element e (step_of_waiter thread rank (wanted.Flags id kind)) ≡ Ok (reply, after)
      → Begins e thread (Flags id) (serves e (step_of_waiter thread rank (wanted.Flags id kind))) (wakes e (step_of_waiter thread rank (wanted.Flags id kind))) after
  of_flags id kind away is =
      let step = group.begin (record { thread = thread; rank = rank; kind = kind }) in
      let made = nth-made flag_group (λ fs. record e { flags = fs }) e.flags id.0 step reply after is in
      let begun = flag_queues.begun made.before made.left reply (record { thread = thread; rank = rank; kind = kind }) (h.flags id.0 made.before made.here)
      (sym (was_at_it in_flags e.flags id.0 made.before made.left made.here thread) ∙ away) within made.made in
      let told : serves e (on_flags id.0 step) ≡ flag_serves made.before step = ap (λ (o : Option FlagGroup). option_map_or (λ (f : FlagGroup). flag_serves f step) o None) made.here in
      let nobody : wakes e (on_flags id.0 step) ≡ [] = ap (λ (o : Option FlagGroup). option_map_or (λ (f : FlagGroup). flag_wakes f step) o []) made.here in
      subst (λ (x : Elements). Begins e thread (Flags id) (serves e (on_flags id.0 step)) (wakes e (on_flags id.0 step)) x) made.after_is
      (record {
        sound = flags_sound e id.0 made.before made.left made.here h begun.sound;
        at_once = λ outcome served. subst (λ (ws : List (ℕ × Reply)). LetsGo e ws (record e { flags = slice_set e.flags id.0 made.left })) (sym nobody)
            (flags_go e id.0 made.before made.left made.here [] (begun.at_once outcome (sym told ∙ served)));
        waits = λ none. flags_come e id.0 made.before made.left made.here thread (begun.waits (sym told ∙ none));
        quiet = λ none. nobody;
      })

  of_write : (id : XbufId) (way : Way) (bytes : Items ℕ) → stands_for e (Writing id way) thread ≡ false → element e (step_of_waiter thread rank (wanted.Write id way bytes)) ≡ Ok (reply, after)
      → Begins e thread (Writing id way) (serves e (step_of_waiter thread rank (wanted.Write id way bytes))) (wakes e (step_of_waiter thread rank (wanted.Write id way bytes))) after
  of_write id way bytes away is = of_transfer id (queues.writing way) (through.begin_write thread way bytes.items) away is (λ x y here gone made. queues.write_begun x y reply (h.xbufs id.0 x here) thread within way bytes.items gone made)

  of_read : (id : XbufId) (way : Way) (len : ℕ) → stands_for e (Reading id way) thread ≡ false → element e (step_of_waiter thread rank (wanted.Read id way len)) ≡ Ok (reply, after)
      → Begins e thread (Reading id way) (serves e (step_of_waiter thread rank (wanted.Read id way len))) (wakes e (step_of_waiter thread rank (wanted.Read id way len))) after
  of_read id way len away is = of_transfer id (queues.reading way) (through.begin_read thread way len) away is (λ x y here gone made. queues.read_begun x y reply (h.xbufs id.0 x here) thread within way len gone made)

  of_mutex : (id : MutexId) (owner : ThreadId) → ((on : Awaited) → stands_for e on thread ≡ false) → IsFree e thread (wanted.Mutex id owner) → element e (step_of_waiter thread rank (wanted.Mutex id owner)) ≡ Ok (reply, after)
      → Begins e thread (Mutex id) None (wakes e (step_of_waiter thread rank (wanted.Mutex id owner))) after
  of_mutex id owner away (unclaimed, differs, none) is =
      let w : Waiter = record { thread = thread; rank = rank } in
      let step = recorded.claim w owner.0 in
      let made = nth-made mutex_machine (λ ms. record e { mutexes = ms }) e.mutexes id.0 step reply after is in
      let unclaimed_here : is_open_to owner.0 made.before ≡ true = sym (ap (λ (o : Option MutexRecorded). option_map_or (is_open_to owner.0) o false) made.here) ∙ unclaimed in
      let claimed_is : mutex.claimed_mutex made.before w owner.0 ≡ made.left = ap (λ (x : Reply × MutexRecorded). x.1) (ok_is made.made) in
      let nobody : wakes e (on_mutex id.0 step) ≡ [] = ap (λ (o : Option MutexRecorded). option_map_or (λ (m : MutexRecorded). mutex_wakes m step) o []) made.here in
      subst (λ (z : Elements). Begins e thread (Mutex id) None (wakes e (on_mutex id.0 step)) z) (ap (λ (p : MutexRecorded). record e { mutexes = slice_set e.mutexes id.0 p }) claimed_is ∙ made.after_is)
      (record {
        sound = mutexes_sound e id.0 made.before (mutex.claimed_mutex made.before w owner.0) made.here h
            (mutexes.claim_sound (owners_in e) id.0 made.before made.here h.mutexes w owner.0 (λ k. away (Mutex (record { 0 = k }))) unclaimed_here (omega (arith, within, length-replicate {A = ℕ} thread_limit 0)) differs
            (ap (λ (n : ℕ). reaches n (waits_for e.mutexes) owner.0 thread) (length-replicate {A = ℕ} thread_limit 0) ∙ (sym (mutexes.back_is e.mutexes owner.0 thread) ∙ none)));
        at_once = λ outcome served. absurd (none-some _ served);
        waits = λ none. mutex_comes e id.0 made.before (mutex.claimed_mutex made.before w owner.0) made.here thread (mutexes.claim_comes made.before w owner.0);
        quiet = λ none. nobody;
      })

  pub begin_goes : (wants : Wanted) → ((on : Awaited) → stands_for e on thread ≡ false) → IsFree e thread wants → element e (step_of_waiter thread rank wants) ≡ Ok (reply, after)
      → Begins e thread (awaited_by wants) (serves e (step_of_waiter thread rank wants)) (wakes e (step_of_waiter thread rank wants)) after
  begin_goes (wanted.Sem id) away free is = of_sem id (away (Sem id)) is
  begin_goes (wanted.Flags id kind) away free is = of_flags id kind (away (Flags id)) is
  begin_goes (wanted.Write id way bytes) away free is = of_write id way bytes (away (Writing id way)) is
  begin_goes (wanted.Read id way len) away free is = of_read id way len (away (Reading id way)) is
  begin_goes (wanted.Mutex id owner) away free is = of_mutex id owner away free is

-- what a thread leaves that leaves a queue
pub record Dropped (e : Elements) (on : Awaited) (thread : ℕ) (served : List (ℕ × Reply)) (after : Elements) : Type 0 where
  pub sound : AreSound after
  pub drops : Drops e on thread served after

module _ (e : Elements) (h : AreSound e) (thread : ℕ) where
  abbrev dropped_from : Awaited → Elements
  dropped_from on = if_done e (element e (drop_step thread on))

  abbrev woken_by : Awaited → List (ℕ × Reply)
  woken_by on = wakes e (drop_step thread on)

  -- it is left as this, by which these are served
  dropped_as : (on : Awaited) (served : List (ℕ × Reply)) (after : Elements) → woken_by on ≡ served → dropped_from on ≡ after → Dropped e on thread served after → Dropped e on thread (woken_by on) (dropped_from on)
  dropped_as on served after woken same it = subst (λ (z : Elements). Dropped e on thread (woken_by on) z) (sym same) (subst (λ (ws : List (ℕ × Reply)). Dropped e on thread ws after) (sym woken) it)

  -- where there is no such element, nobody is in its queue
  nothing_there : (on : Awaited) → stands_for e on thread ≡ false → woken_by on ≡ [] → dropped_from on ≡ e → Dropped e on thread (woken_by on) (dropped_from on)
  nothing_there on none nobody same = dropped_as on [] e nobody same (record { sound = h; drops = record { gone = none; left = λ t is. absurd (false≢true is); same = λ other t ne is. refl; old = λ other t is. is } })

  from_sem : (id : SemId) (o : Option Semaphore) → slice_get e.sems id.0 ≡ o → Dropped e (Sem id) thread (woken_by (Sem id)) (dropped_from (Sem id))
  from_sem id None none =
      nothing_there (Sem id) (ap (λ (o : Option Semaphore). option_map_or (λ (q : Semaphore). in_sem q thread) o false) none)
      (ap (λ (o : Option Semaphore). option_map_or (λ (q : Semaphore). sem_wakes q (semaphore.drop thread)) o []) none)
      (ap (if_done e) (nth-unknown sem_machine (λ qs. record e { sems = qs }) e.sems id.0 (semaphore.drop thread) none))
  from_sem id (Some q) here =
      dropped_as (Sem id) [] (record e { sems = slice_set e.sems id.0 (sem.drop_waiter thread q) })
      (ap (λ (o : Option Semaphore). option_map_or (λ (p : Semaphore). sem_wakes p (semaphore.drop thread)) o []) here)
      (ap (if_done e) (nth-done sem_machine (λ qs. record e { sems = qs }) e.sems id.0 (semaphore.drop thread) q (sem.drop_waiter thread q) Done here refl))
      (record {
        sound = sems_sound e id.0 q (sem.drop_waiter thread q) here h (sems.drop_sound thread q (h.sems id.0 q here));
        drops = sem_drops e id.0 q (sem.drop_waiter thread q) here thread (sems.drop_drops thread q);
      })

  from_flags : (id : FlagId) (o : Option FlagGroup) → slice_get e.flags id.0 ≡ o → Dropped e (Flags id) thread (woken_by (Flags id)) (dropped_from (Flags id))
  from_flags id None none =
      nothing_there (Flags id) (ap (λ (o : Option FlagGroup). option_map_or (λ (f : FlagGroup). in_flags f thread) o false) none)
      (ap (λ (o : Option FlagGroup). option_map_or (λ (f : FlagGroup). flag_wakes f (group.drop thread)) o []) none)
      (ap (if_done e) (nth-unknown flag_group (λ fs. record e { flags = fs }) e.flags id.0 (group.drop thread) none))
  from_flags id (Some f) here =
      dropped_as (Flags id) [] (record e { flags = slice_set e.flags id.0 (flags.drop_waiter thread f) })
      (ap (λ (o : Option FlagGroup). option_map_or (λ (g : FlagGroup). flag_wakes g (group.drop thread)) o []) here)
      (ap (if_done e) (nth-done flag_group (λ fs. record e { flags = fs }) e.flags id.0 (group.drop thread) f (flags.drop_waiter thread f) Done here refl))
      (record {
        sound = flags_sound e id.0 f (flags.drop_waiter thread f) here h (flag_queues.drop_sound thread f (h.flags id.0 f here));
        drops = flags_drop e id.0 f (flags.drop_waiter thread f) here thread (flag_queues.drop_drops thread f);
      })

  from_mutex : (id : MutexId) (o : Option MutexRecorded) → slice_get e.mutexes id.0 ≡ o → Dropped e (Mutex id) thread (woken_by (Mutex id)) (dropped_from (Mutex id))
  from_mutex id None none =
      nothing_there (Mutex id) (ap (λ (o : Option MutexRecorded). option_map_or (λ (m : MutexRecorded). in_mutex m thread) o false) none)
      (ap (λ (o : Option MutexRecorded). option_map_or (λ (m : MutexRecorded). mutex_wakes m (recorded.drop thread)) o []) none)
      (ap (if_done e) (nth-unknown mutex_machine (λ ms. record e { mutexes = ms }) e.mutexes id.0 (recorded.drop thread) none))
  from_mutex id (Some m) here =
      dropped_as (Mutex id) [] (record e { mutexes = slice_set e.mutexes id.0 (mutex.drop_waiter thread m) })
      (ap (λ (o : Option MutexRecorded). option_map_or (λ (p : MutexRecorded). mutex_wakes p (recorded.drop thread)) o []) here)
      (ap (if_done e) (nth-done mutex_machine (λ ms. record e { mutexes = ms }) e.mutexes id.0 (recorded.drop thread) m (mutex.drop_waiter thread m) Done here refl))
      (record {
        sound = mutexes_sound e id.0 m (mutex.drop_waiter thread m) here h (mutexes.drop_sound (owners_in e) id.0 m here h.mutexes thread);
        drops = mutex_drops e id.0 m (mutex.drop_waiter thread m) here thread (mutexes.drop_drops thread m);
      })

  -- of a cross-buffer, from either queue of a way
  from_xbuf : (id : XbufId) (queue : queues.Queue) (way : Way) → ((x : Xbuf) (here : slice_get e.xbufs id.0 ≡ Some x) → Drops e (of_xbuf id.0 queue) thread (xbuf_wakes x (through.drop thread way)) (record e { xbufs = slice_set e.xbufs id.0 (xbufs.drop_waiter thread way x).1 }))
      → ((none : slice_get e.xbufs id.0 ≡ None) → stands_for e (of_xbuf id.0 queue) thread ≡ false)
      → (o : Option Xbuf) → slice_get e.xbufs id.0 ≡ o
      → Dropped e (of_xbuf id.0 queue) thread (wakes e (on_xbuf id.0 (through.drop thread way))) (if_done e (element e (on_xbuf id.0 (through.drop thread way))))
  from_xbuf id queue way drops nobody None none =
      let same = ap (if_done e) (nth-unknown cross_buffer (λ xs. record e { xbufs = xs }) e.xbufs id.0 (through.drop thread way) none) in
      let woken : wakes e (on_xbuf id.0 (through.drop thread way)) ≡ [] = ap (λ (o : Option Xbuf). option_map_or (λ (x : Xbuf). xbuf_wakes x (through.drop thread way)) o []) none in
      subst (λ (z : Elements). Dropped e (of_xbuf id.0 queue) thread (wakes e (on_xbuf id.0 (through.drop thread way))) z) (sym same)
      (subst (λ (ws : List (ℕ × Reply)). Dropped e (of_xbuf id.0 queue) thread ws e) (sym woken)
      (record { sound = h; drops = record { gone = nobody none; left = λ t is. absurd (false≢true is); same = λ other t ne is. refl; old = λ other t is. is } }))
  from_xbuf id queue way drops nobody (Some x) here =
      let same = ap (if_done e) (nth-done cross_buffer (λ xs. record e { xbufs = xs }) e.xbufs id.0 (through.drop thread way) x (xbufs.drop_waiter thread way x).1 Done here refl) in
      let woken : wakes e (on_xbuf id.0 (through.drop thread way)) ≡ xbuf_wakes x (through.drop thread way) = ap (λ (o : Option Xbuf). option_map_or (λ (v : Xbuf). xbuf_wakes v (through.drop thread way)) o []) here in
      subst (λ (z : Elements). Dropped e (of_xbuf id.0 queue) thread (wakes e (on_xbuf id.0 (through.drop thread way))) z) (sym same)
      (subst (λ (ws : List (ℕ × Reply)). Dropped e (of_xbuf id.0 queue) thread ws (record e { xbufs = slice_set e.xbufs id.0 (xbufs.drop_waiter thread way x).1 })) (sym woken)
      (record {
        sound = xbufs_sound e id.0 x (xbufs.drop_waiter thread way x).1 here h (queues.drop_left x (h.xbufs id.0 x here) thread way).sound;
        drops = drops x here;
      }))

  pub drop_goes : (on : Awaited) → Dropped e on thread (woken_by on) (dropped_from on)
  drop_goes (Sem id) = from_sem id (slice_get e.sems id.0) refl
  drop_goes (Flags id) = from_flags id (slice_get e.flags id.0) refl
  drop_goes (Mutex id) = from_mutex id (slice_get e.mutexes id.0) refl
  drop_goes (Writing id way) = from_xbuf id (queues.writing way) way
      (λ x here. writer_drops e id.0 x (xbufs.drop_waiter thread way x).1 here way thread (xbuf_wakes x (through.drop thread way)) (queues.drop_left x (h.xbufs id.0 x here) thread way))
      (λ none. ap (λ (o : Option Xbuf). option_map_or (λ (x : Xbuf). in_writers way x thread) o false) none) (slice_get e.xbufs id.0) refl
  drop_goes (Reading id way) = from_xbuf id (queues.reading way) way
      (λ x here. reader_drops e id.0 x (xbufs.drop_waiter thread way x).1 here way thread (xbuf_wakes x (through.drop thread way)) (queues.drop_left x (h.xbufs id.0 x here) thread way))
      (λ none. ap (λ (o : Option Xbuf). option_map_or (λ (x : Xbuf). in_readers way x thread) o false) none) (slice_get e.xbufs id.0) refl

-- a get, a take and a claim wake nobody
pub get_wakes : (e : Elements) (n : ℕ) → wakes e (on_sem n semaphore.get) ≡ []
get_wakes e n = by (slice_get e.sems n)
  where
    by : (o : Option Semaphore) → option_map_or (λ (q : Semaphore). sem_wakes q semaphore.get) o [] ≡ []
    by None = refl
    by (Some q) = refl

pub take_wakes : (e : Elements) (n : ℕ) (kind : Take) → wakes e (on_flags n (group.take kind)) ≡ []
take_wakes e n kind = by (slice_get e.flags n)
  where
    by : (o : Option FlagGroup) → option_map_or (λ (f : FlagGroup). flag_wakes f (group.take kind)) o [] ≡ []
    by None = refl
    by (Some f) = refl

pub claim_wakes : (e : Elements) (n : ℕ) (w : Waiter) (owner : ℕ) → wakes e (on_mutex n (recorded.claim w owner)) ≡ []
claim_wakes e n w owner = by (slice_get e.mutexes n)
  where
    by : (o : Option MutexRecorded) → option_map_or (λ (m : MutexRecorded). mutex_wakes m (recorded.claim w owner)) o [] ≡ []
    by None = refl
    by (Some m) = refl
