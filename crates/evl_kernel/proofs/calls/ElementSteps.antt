-- A step of the n-th element of a kind: what it comes to, and which refusals there are.
use Rattle.std.proofs.Common.{◌≡◌, ◌+◌, ◌-◌, ℕ, ◌==◌, nat_lt, Bool, true, false, List, [], ◌∷◌, Option, Some, None, is_some, Result, Ok, Err, IfErr, slice_get, slice_set, if◌then◌else◌, refl, sym, ap, ◌∙◌, subst, length}
use Rattle.std.specs.Option.{option_map_or}
use Rattle.evl_base.specs.declared.refusal.Refusal.{Refusal}
use Rattle.evl_base.specs.declared.refusal.Refusal.TheVariants.{Unknown, Again, Busy, NotOwner, Range, Invalid, TooBig, WrongStage}
use Rattle.evl_base.specs.declared.reply.Reply.{Reply}
use Rattle.evl_base.specs.declared.reply.Reply.TheVariants.{Begun, Bits, Done}
use Rattle.evl_base.specs.declared.way.Way.{Way}
use Rattle.evl_sync.specs.Steps.{step_by, unless}
use Rattle.evl_sync.specs.FlagGroups as flags
use Rattle.evl_sync.specs.FlagGroups.{FlagGroup, is_empty_mask, bits_taken}
use Rattle.evl_sync.specs.Semaphores as sem
use Rattle.evl_sync.specs.Semaphores.{Semaphore}
use Rattle.evl_sync.specs.declared.waiter.Waiter.{Waiter}
use Rattle.evl_kernel.specs.state.States.{State, Elements}
use Rattle.evl_kernel.specs.calls.Effects.{Answered, done, known, lifted, reply_by}
use Rattle.evl_kernel.specs.calls.Semaphores as semaphore
use Rattle.evl_kernel.specs.calls.Semaphores.{SemStep, semaphore as sem_machine}
use Rattle.evl_kernel.specs.calls.FlagGroups as group
use Rattle.evl_kernel.specs.calls.FlagGroups.{FlagStep, flag_group}
use Rattle.evl_xbuf.specs.Streams as streams
use Rattle.evl_xbuf.specs.Streams.{Stream, Service}
use Rattle.evl_xbuf.specs.Xbufs.{Xbuf, with_other_way, reading_stage, same_stage, stream, unless_refused, writing_stage}
use Rattle.evl_kernel.specs.calls.CrossBuffers as through
use Rattle.evl_kernel.specs.calls.CrossBuffers.{XbufStep, bytes_told, cross_buffer}
use Rattle.evl_mutex.specs.Mutexes.{Mutex, has_ceiling, is_open_to, raised_mutex as raised, released_mutex}
use Rattle.evl_kernel.specs.calls.Mutexes as recorded
use Rattle.evl_kernel.specs.calls.Mutexes.{MutexStep, handed_told, mutex as mutex_machine}
use Rattle.evl_kernel.specs.calls.Elements.{ElementStep, on_sem, on_flags, on_xbuf, on_mutex, at_nth, element, elements, with_elements, stepping_to, wakes}
use Rattle.evl_kernel.specs.state.ElementsViews.{ElementsView}
use Rattle.evl_kernel.specs.state.KernelViews.{IsAnswer}
use Rattle.evl_kernel.specs.waiting.Waits.{all_woken}
use Rattle.evl_kernel.proofs.state.SetLaws.{set_same}

pub err_ok : {A B : Type 0} {x : B} {y : A} → ◌≡◌ {A = Result A B} (Err x) (Ok y) → ⊥
err_ok e = cc

pub ok_err : {A B : Type 0} {x : B} {y : A} → ◌≡◌ {A = Result A B} (Ok y) (Err x) → ⊥
ok_err e = cc

pub ok_is : {A B : Type 0} {x y : A} → ◌≡◌ {A = Result A B} (Ok x) (Ok y) → x ≡ y
ok_is e = cc

pub err_is : {A B : Type 0} {x y : B} → ◌≡◌ {A = Result A B} (Err x) (Err y) → x ≡ y
err_is e = cc

-- by the step of the machine of that one
module _ {X P : Type 0} (machine : X → P → Answered X) (with_kind : List X → Elements) (xs : List X) (n : ℕ) (step : P) where
  pub nth-done : (q p : X) (reply : Reply) → slice_get xs n ≡ Some q → machine q step ≡ Ok (reply, p) → at_nth machine with_kind xs n step ≡ Ok (reply, with_kind (slice_set xs n p))
  nth-done q p reply here is = rw (here, is) refl

  pub nth-refused : (q : X) (refusal : Refusal) → slice_get xs n ≡ Some q → machine q step ≡ Err refusal → at_nth machine with_kind xs n step ≡ Err refusal
  nth-refused q refusal here is = rw (here, is) refl

  pub nth-unknown : slice_get xs n ≡ None → at_nth machine with_kind xs n step ≡ Err Unknown
  nth-unknown none = rw none refl

  -- which element it was, and what is left of it
  pub record NthMade (reply : Reply) (after : Elements) : Type 0 where
    pub before : X
    pub left : X
    pub here : slice_get xs n ≡ Some before
    pub made : machine before step ≡ Ok (reply, left)
    pub after_is : with_kind (slice_set xs n left) ≡ after

  pub nth-made : (reply : Reply) (after : Elements) → at_nth machine with_kind xs n step ≡ Ok (reply, after) → NthMade reply after
  nth-made reply after = found (slice_get xs n) refl
    where
      by : (q : X) → slice_get xs n ≡ Some q → (a : Answered X) → machine q step ≡ a → lifted (λ left. with_kind (slice_set xs n left)) a ≡ Ok (reply, after) → NthMade reply after
      by q here (Err refusal) is e = absurd (err_ok e)
      by q here (Ok (said, p)) is e = record {
        before = q;
        left = p;
        here = here;
        made = is ∙ ap (λ (x : Reply × Elements). Ok (x.0, p)) (ok_is e);
        after_is = ap (λ (x : Reply × Elements). x.1) (ok_is e);
      }

      found : (o : Option X) → slice_get xs n ≡ o → known o (λ x. lifted (λ left. with_kind (slice_set xs n left)) (machine x step)) ≡ Ok (reply, after) → NthMade reply after
      found None none e = absurd (err_ok e)
      found (Some q) here e = by q here (machine q step) refl e

  -- only such refusals as the machine has, and that there is no such element
  pub nth-refuses : (P : Refusal → Type 0) → P Unknown → ((q : X) (refusal : Refusal) → machine q step ≡ Err refusal → P refusal)
      → (refusal : Refusal) → at_nth machine with_kind xs n step ≡ Err refusal → P refusal
  nth-refuses P unknown those refusal = found (slice_get xs n)
    where
      by : (q : X) (a : Answered X) → machine q step ≡ a → lifted (λ left. with_kind (slice_set xs n left)) a ≡ Err refusal → P refusal
      by q (Err r) is e = those q refusal (is ∙ ap Err (err_is e))
      by q (Ok (said, p)) is e = absurd (ok_err e)

      found : (o : Option X) → known o (λ x. lifted (λ left. with_kind (slice_set xs n left)) (machine x step)) ≡ Err refusal → P refusal
      found None e = subst P (err_is e) unknown
      found (Some q) e = by q (machine q step) refl e

-- what a call on that element refused is refused, and nothing changes
module _ {X P A B : Type 0} (machine : X → P → Answered X) (with_kind : List X → ElementsView) (xs : List X) (n : ℕ) (step : P) (q p : X) (here : slice_get xs n ≡ Some q) (f : A → B) (said : B → Reply) where
  pub nth-same : (result : Result A Refusal) → reply_by said (step_by f result p) ≡ machine q step → IfErr result (λ r. p ≡ q)
      → IfErr result (λ r. (at_nth machine (λ ys. (with_kind ys).elements) xs n step ≡ Err r) × (with_kind (slice_set xs n p) ≡ with_kind xs))
  nth-same (Ok answer) is same = tt
  nth-same (Err refusal) is same = (nth-refused machine (λ ys. (with_kind ys).elements) xs n step q refusal here (sym is), ap with_kind (ap (slice_set xs n) same ∙ set_same xs n q here))

-- a step that leaves its element as it is leaves all as they are
module _ (e : Elements) (n : ℕ) (reply : Reply) where
  pub sem_told : (step : SemStep) (q : Semaphore) → slice_get e.sems n ≡ Some q → sem_machine q step ≡ Ok (reply, q) → element e (on_sem n step) ≡ Ok (reply, e)
  sem_told step q here is =
      nth-done sem_machine (λ sems. record e { sems = sems }) e.sems n step q q reply here is
      ∙ ap (λ (sems : List Semaphore). Ok (reply, record e { sems = sems })) (set_same e.sems n q here)

  pub flags_told : (step : FlagStep) (f : FlagGroup) → slice_get e.flags n ≡ Some f → flag_group f step ≡ Ok (reply, f) → element e (on_flags n step) ≡ Ok (reply, e)
  flags_told step f here is =
      nth-done flag_group (λ flags. record e { flags = flags }) e.flags n step f f reply here is
      ∙ ap (λ (flags : List FlagGroup). Ok (reply, record e { flags = flags })) (set_same e.flags n f here)

  pub xbuf_told : (step : XbufStep) (x : Xbuf) → slice_get e.xbufs n ≡ Some x → cross_buffer x step ≡ Ok (reply, x) → element e (on_xbuf n step) ≡ Ok (reply, e)
  xbuf_told step x here is =
      nth-done cross_buffer (λ xbufs. record e { xbufs = xbufs }) e.xbufs n step x x reply here is
      ∙ ap (λ (xbufs : List Xbuf). Ok (reply, record e { xbufs = xbufs })) (set_same e.xbufs n x here)

-- the refusals of elements make entries
abbrev Enters : Refusal → Type 0
Enters refusal = IsAnswer (Err refusal)

pub sem_enters : (q : Semaphore) (step : SemStep) (refusal : Refusal) → sem_machine q step ≡ Err refusal → Enters refusal
sem_enters q semaphore.get refusal = by (q.count == 0)
  where
    by : (b : Bool) → reply_by (λ (u : Unit {0}). Done) (if b then Err Again else Ok (tt, record q { count = q.count - 1 })) ≡ Err refusal → Enters refusal
    by true e = subst Enters (err_is e) (refl, tt)
    by false e = absurd (ok_err e)
sem_enters q semaphore.put refusal = by q.waiters
  where
    raised : (b : Bool) → reply_by (λ (u : Option ℕ). Done) (if b then Ok (None, record q { count = q.count + 1 }) else Err Range) ≡ Err refusal → Enters refusal
    raised true e = absurd (ok_err e)
    raised false e = subst Enters (err_is e) (refl, tt)

    by : (ws : List Waiter) → reply_by (λ (u : Option ℕ). Done) (sem.put_before q ws) ≡ Err refusal → Enters refusal
    by [] e = raised (nat_lt q.count 2147483647) e
    by (w ∷ ws) e = absurd (ok_err e)
sem_enters q _ refusal = λ e. absurd (ok_err e)

pub flags_enter : (f : FlagGroup) (step : FlagStep) (refusal : Refusal) → flag_group f step ≡ Err refusal → Enters refusal
flags_enter f (group.take kind) refusal = by (is_empty_mask kind) (bits_taken kind f.bits)
  where
    by : (empty : Bool) (got : Option ℕ)
        → reply_by (λ (g : ℕ). Bits g) (unless (if empty then Some Invalid else None) (option_map_or (λ (g : ℕ). Ok (g, flags.without_bits f g)) got (Err Again))) ≡ Err refusal → Enters refusal
    by true got e = subst Enters (err_is e) (refl, tt)
    by false None e = subst Enters (err_is e) (refl, tt)
    by false (Some g) e = absurd (ok_err e)
flags_enter f (group.post bits) refusal = by (bits == 0)
  where
    by : (none : Bool) → reply_by (λ (served : List (ℕ × ℕ)). Done) (unless (if none then Some Invalid else None) (Ok (flags.walk_waiters (flags.post bits f)))) ≡ Err refusal → Enters refusal
    by true e = subst Enters (err_is e) (refl, tt)
    by false e = absurd (ok_err e)
flags_enter f _ refusal = λ e. absurd (ok_err e)

module _ (x : Xbuf) (way : Way) {A : Type 0} (f : A → Reply) (refusal : Refusal) where
  -- from the other stage, or as its way refuses
  way_enters : (right : Bool) (r : Result (A × Stream) Refusal) → ((e : Refusal) → r ≡ Err e → Enters e)
      → reply_by f (unless (if right then None else Some WrongStage) (unless_refused x way r)) ≡ Err refusal → Enters refusal
  way_enters false r each e = subst Enters (err_is e) (refl, tt)
  way_enters true (Ok step) each e = absurd (ok_err e)
  way_enters true (Err own) each e = subst Enters (err_is e) (each own refl)

writes_enter : (big can : Bool) {A : Type 0} (step : A × Stream) (refusal : Refusal) → unless (if big then Some TooBig else None) (if can then Ok step else Err Again) ≡ Err refusal → Enters refusal
writes_enter true can step refusal e = subst Enters (err_is e) (refl, tt)
writes_enter false true step refusal e = absurd (ok_err e)
writes_enter false false step refusal e = subst Enters (err_is e) (refl, tt)

reads_enter : (can : Bool) {A : Type 0} (step : A × Stream) (refusal : Refusal) → (if can then Ok step else Err Again) ≡ Err refusal → Enters refusal
reads_enter true step refusal e = absurd (ok_err e)
reads_enter false step refusal e = subst Enters (err_is e) (refl, tt)

begins_enter : (big : Bool) {A : Type 0} (step : A × Stream) (refusal : Refusal) → unless (if big then Some TooBig else None) (Ok step) ≡ Err refusal → Enters refusal
begins_enter true step refusal e = subst Enters (err_is e) (refl, tt)
begins_enter false step refusal e = absurd (ok_err e)

pub xbufs_enter : (x : Xbuf) (step : XbufStep) (refusal : Refusal) → cross_buffer x step ≡ Err refusal → Enters refusal
xbufs_enter x (through.write stage way bytes) refusal =
    let s = stream x way in
    way_enters x way (λ served. Done) refusal (same_stage (writing_stage way) stage) (streams.try_write bytes s)
    (λ e. writes_enter (nat_lt s.size (length bytes)) (streams.can_write s bytes) (streams.services_made (streams.bytes_written s bytes)) e)
xbufs_enter x (through.read stage way len) refusal = by (nat_lt 256 len)
  where
    by : (wide : Bool) → reply_by (λ (got : List ℕ × List Service). bytes_told got.0) (unless (if wide then Some Range else None)
        (unless (if same_stage (reading_stage way) stage then None else Some WrongStage) (unless_refused x way (streams.try_read len (stream x way))))) ≡ Err refusal → Enters refusal
    by true = λ e. subst Enters (err_is e) (refl, tt)
    by false = way_enters x way (λ got. bytes_told got.0) refusal (same_stage (reading_stage way) stage) (streams.try_read len (stream x way))
        (λ e. reads_enter (streams.can_read (stream x way) len) (streams.with_bytes (streams.bytes_given (stream x way) len) (streams.services_made (streams.bytes_read (stream x way) len))) e)
xbufs_enter x (through.begin_write thread way bytes) refusal =
    let s = stream x way in
    way_enters x way (λ served. Begun) refusal (same_stage (writing_stage way) (writing_stage way)) (streams.begin_write thread bytes s)
    (λ e. begins_enter (nat_lt s.size (length bytes)) _ e)
xbufs_enter x (through.begin_read thread way len) refusal = by (nat_lt 256 len)
  where
    by : (wide : Bool) → reply_by (λ (got : Option (List ℕ × List Service)). Begun) (unless (if wide then Some Range else None)
        (unless (if same_stage (reading_stage way) (reading_stage way) then None else Some WrongStage) (Ok (with_other_way x way (streams.begin_read thread len (stream x way)))))) ≡ Err refusal → Enters refusal
    by true = λ e. subst Enters (err_is e) (refl, tt)
    by false = way_enters x way (λ got. Begun) refusal (same_stage (reading_stage way) (reading_stage way)) (Ok (streams.begin_read thread len (stream x way))) (λ e is. absurd (ok_err is))
xbufs_enter x _ refusal = λ e. absurd (ok_err e)

pub mutex_enters : (m : Mutex) (step : MutexStep) (refusal : Refusal) → mutex_machine m step ≡ Err refusal → Enters refusal
mutex_enters m (recorded.claim w owner) refusal = λ e. absurd (ok_err e)
mutex_enters m (recorded.release thread) refusal = by (is_open_to thread m)
  where
    by : (b : Bool) → if◌then◌else◌ {A = Answered Mutex} b (Ok (handed_told (released_mutex m), (released_mutex m).after)) (Err NotOwner) ≡ Err refusal → Enters refusal
    by true e = absurd (ok_err e)
    by false e = subst Enters (err_is e) (refl, tt)
mutex_enters m (recorded.raise thread) refusal = by (has_ceiling m) (is_some m.owner)
  where
    by : (b c : Bool) → if◌then◌else◌ {A = Answered Mutex} b (if◌then◌else◌ {A = Answered Mutex} c (Err Busy) (done (raised m thread))) (Err Invalid) ≡ Err refusal → Enters refusal
    by true true e = subst Enters (err_is e) (refl, tt)
    by true false e = absurd (ok_err e)
    by false c e = subst Enters (err_is e) (refl, tt)
mutex_enters m (recorded.drop thread) refusal = λ e. absurd (ok_err e)

pub element_enters : (e : Elements) (step : ElementStep) (refusal : Refusal) → element e step ≡ Err refusal → Enters refusal
element_enters e (on_sem n step) refusal = nth-refuses sem_machine (λ sems. record e { sems = sems }) e.sems n step Enters (refl, tt) (λ q r. sem_enters q step r) refusal
element_enters e (on_flags n step) refusal = nth-refuses flag_group (λ flags. record e { flags = flags }) e.flags n step Enters (refl, tt) (λ f r. flags_enter f step r) refusal
element_enters e (on_xbuf n step) refusal = nth-refuses cross_buffer (λ xbufs. record e { xbufs = xbufs }) e.xbufs n step Enters (refl, tt) (λ x r. xbufs_enter x step r) refusal
element_enters e (on_mutex n step) refusal = nth-refuses mutex_machine (λ mutexes. record e { mutexes = mutexes }) e.mutexes n step Enters (refl, tt) (λ m r. mutex_enters m step r) refusal

-- what a step comes to for the whole
module _ (then_ : State → State) (s : State) (step : ElementStep) where
  pub stepping-done : (reply : Reply) (after : Elements) → element (elements s) step ≡ Ok (reply, after)
      → stepping_to then_ s step ≡ Ok (reply, all_woken (then_ (with_elements s after)) (wakes (elements s) step))
  stepping-done reply after is = rw is refl

  pub stepping-refused : (refusal : Refusal) → element (elements s) step ≡ Err refusal → stepping_to then_ s step ≡ Err refusal
  stepping-refused refusal is = rw is refl
