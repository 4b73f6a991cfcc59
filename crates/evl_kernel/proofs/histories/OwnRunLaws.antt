-- The part of each element in a run of the kernel is a run of its machine by itself.
use Rattle.std.proofs.Common.{◌≡◌, ℕ, ◌==◌, Bool, true, false, List, [], ◌∷◌, Option, Some, None, Result, Ok, Err, slice_get, slice_set, if◌then◌else◌, refl, ap, ◌∙◌}
use Rattle.std.specs.List.{cons_option}
use Rattle.std.proofs.lemmas.Bool.{eqb-true}
use Rattle.evl_base.specs.declared.refusal.Refusal.{Refusal}
use Rattle.evl_base.specs.declared.reply.Reply.{Reply}
use Rattle.evl_sync.specs.Semaphores.{Semaphore}
use Rattle.evl_kernel.specs.calls.Effects.{Answered, Made, Runs, known, if_done, reply_in, lifted}
use Rattle.evl_kernel.specs.calls.Semaphores.{semaphore}
use Rattle.evl_kernel.specs.calls.FlagGroups.{flag_group}
use Rattle.evl_sync.specs.FlagGroups.{FlagGroup}
use Rattle.evl_xbuf.specs.Xbufs.{Xbuf}
use Rattle.evl_kernel.specs.calls.CrossBuffers.{cross_buffer}
use Rattle.evl_kernel.specs.calls.Mutexes.{mutex}
use Rattle.evl_mutex.specs.Mutexes.{Mutex}
use Rattle.evl_kernel.specs.calls.Elements.{ElementStep, on_sem, on_flags, on_xbuf, on_mutex, Touch, elements, element, at_nth, part, its_sem, its_flags, its_xbuf, its_mutex}
use Rattle.evl_kernel.specs.state.States.{Elements}
use Rattle.evl_kernel.specs.histories.Histories.{opened_kernel}
use Rattle.evl_kernel.specs.histories.Replays.{touches}
use Rattle.evl_kernel.specs.histories.Parts.{CrossBuffersRunByThemselves, FlagGroupsRunByThemselves, MutexesRunByThemselves, RunsByItself, SemaphoresRunByThemselves}
use Rattle.evl_kernel.proofs.state.SetLaws.{set_here, set_there}
use Rattle.evl_kernel.proofs.calls.ElementLaws.{elements_run}

-- what a step of the elements is to the one that is looked at: its own step, by its machine, or nothing
module _ {X P : Type 0} (machine : X → P → Answered X) (its : Elements → Option X) (own : Touch → Option (Made P)) where
  abbrev Owns : Elements → X → Touch → Option (Made P) → Type 0
  Owns e x touch None = its (if_done e (element e touch.step)) ≡ Some x
  Owns e x touch (Some made) =
      (made.answer ≡ touch.answer) × (reply_in (element e touch.step) ≡ reply_in (machine x made.step))
      × (its (if_done e (element e touch.step)) ≡ Some (if_done x (machine x made.step)))

  part_runs : ((e : Elements) (x : X) (touch : Touch) → its e ≡ Some x → Owns e x touch (own touch))
      → (e f : Elements) (x : X) (touches : List Touch) → its e ≡ Some x → Runs element e touches f
      → (y : X) × (its f ≡ Some y) × Runs machine x (part own touches) y
  part_runs owns e f x [] has run = (x, ap its run ∙ has, refl)
  part_runs owns e f x (touch ∷ touches) has (said, run) =
      by (own touch) (owns e x touch has) (λ left there. part_runs owns (if_done e (element e touch.step)) f left touches there run)
    where
      -- of what is left, as the other steps lead it
      by : (o : Option (Made P)) → Owns e x touch o
          → ((left : X) → its (if_done e (element e touch.step)) ≡ Some left → (y : X) × (its f ≡ Some y) × Runs machine left (part own touches) y)
          → (y : X) × (its f ≡ Some y) × Runs machine x (cons_option o (part own touches)) y
      by None kept others = others x kept
      by (Some made) (is, answer, left) others =
          let rest = others (if_done x (machine x made.step)) left in
          (rest.0, rest.1, (is ∙ (said ∙ answer), rest.2))

  pub by_itself : ((e : Elements) (x : X) (touch : Touch) → its e ≡ Some x → Owns e x touch (own touch)) → RunsByItself machine its own
  by_itself owns h legal x has = part_runs owns (elements (opened_kernel h)) (elements h.state) x (touches h) has (elements_run h legal)

-- a step of the n-th of a kind: it is that one's, and no other of the kind sees anything
module _ {X P : Type 0} (machine : X → P → Answered X) (kind : Elements → List X) (with_kind : List X → Elements) (same : (xs : List X) → kind (with_kind xs) ≡ xs) (e : Elements) (n : ℕ) (x : X) (has : slice_get (kind e) n ≡ Some x) where
  here : (m : ℕ) (p : P) → m ≡ n → (reply_in (at_nth machine with_kind (kind e) m p) ≡ reply_in (machine x p))
      × (slice_get (kind (if_done e (at_nth machine with_kind (kind e) m p))) n ≡ Some (if_done x (machine x p)))
  here m p is =
      let where_is : at_nth machine with_kind (kind e) m p ≡ lifted (λ left. with_kind (slice_set (kind e) n left)) (machine x p) = rw (is, has) refl in
      let one = by (machine x p) in
      (ap reply_in where_is ∙ one.0, ap (λ (a : Answered Elements). slice_get (kind (if_done e a)) n) where_is ∙ one.1)
    where
      by : (a : Answered X) → (reply_in (lifted (λ left. with_kind (slice_set (kind e) n left)) a) ≡ reply_in a)
          × (slice_get (kind (if_done e (lifted (λ left. with_kind (slice_set (kind e) n left)) a))) n ≡ Some (if_done x a))
      by (Ok (reply, y)) = (refl, ap (λ (xs : List X). slice_get xs n) (same (slice_set (kind e) n y)) ∙ set_here (kind e) n x y has)
      by (Err refusal) = (refl, has)

  there : (m : ℕ) (p : P) → (m == n) ≡ false → slice_get (kind (if_done e (at_nth machine with_kind (kind e) m p))) n ≡ Some x
  there m p other = found (slice_get (kind e) m)
    where
      by : (a : Answered X) → slice_get (kind (if_done e (lifted (λ left. with_kind (slice_set (kind e) m left)) a))) n ≡ Some x
      by (Ok (reply, y)) = ap (λ (xs : List X). slice_get xs n) (same (slice_set (kind e) m y)) ∙ (set_there (kind e) m n y other ∙ has)
      by (Err refusal) = has

      found : (o : Option X) → slice_get (kind (if_done e (known o (λ y. lifted (λ left. with_kind (slice_set (kind e) m left)) (machine y p))))) n ≡ Some x
      found None = has
      found (Some y) = by (machine y p)

-- a step of one kind is nothing to what is looked at of another
pub nothing_to : {A X P : Type 0} (machine : X → P → Answered X) (with_kind : List X → Elements) (look : Elements → A) (e : Elements) (same : (xs : List X) → look (with_kind xs) ≡ look e)
    → (records : List X) (m : ℕ) (p : P) → look (if_done e (at_nth machine with_kind records m p)) ≡ look e
nothing_to {A} {X} {P} machine with_kind look e same records m p = found (slice_get records m)
  where
    by : (a : Answered X) → look (if_done e (lifted (λ left. with_kind (slice_set records m left)) a)) ≡ look e
    by (Ok (reply, y)) = same (slice_set records m y)
    by (Err refusal) = refl

    found : (o : Option X) → look (if_done e (known o (λ y. lifted (λ left. with_kind (slice_set records m left)) (machine y p)))) ≡ look e
    found None = refl
    found (Some y) = by (machine y p)

-- semaphores: one clause for each kind of step, which for another kind is what it leaves of all semaphores
sem_owns : (n : ℕ) (e : Elements) (x : Semaphore) (touch : Touch) → slice_get e.sems n ≡ Some x → Owns semaphore (λ e. slice_get e.sems n) (its_sem n) e x touch (its_sem n touch)
sem_owns n e x touch has = on touch.by touch.answer touch.step
  where
    on : (by : Option ℕ) (answer : Result Reply Refusal) (s : ElementStep)
        → Owns semaphore (λ e. slice_get e.sems n) (its_sem n) e x (record { by = by; step = s; answer = answer }) (its_sem n (record { by = by; step = s; answer = answer }))
    on by answer (on_sem m step) = test (m == n) refl
      where
        with_sems : List Semaphore → Elements
        with_sems sems = record e { sems = sems }

        test : (b : Bool) → (m == n) ≡ b
            → Owns semaphore (λ e. slice_get e.sems n) (its_sem n) e x (record { by = by; step = on_sem m step; answer = answer }) (if b then Some (record { by = by; step = step; answer = answer }) else None)
        test true is = let own = here semaphore (λ e. e.sems) with_sems (λ xs. refl) e n x has m step (eqb-true m n is) in (refl, own.0, own.1)
        test false is = there semaphore (λ e. e.sems) with_sems (λ xs. refl) e n x has m step is
    on by answer (on_flags m step) = nothing_to flag_group (λ flags. record e { flags = flags }) (λ e. slice_get e.sems n) e (λ xs. refl) e.flags m step ∙ has
    on by answer (on_xbuf m step) = nothing_to cross_buffer (λ xbufs. record e { xbufs = xbufs }) (λ e. slice_get e.sems n) e (λ xs. refl) e.xbufs m step ∙ has
    on by answer (on_mutex m step) = nothing_to mutex (λ mutexes. record e { mutexes = mutexes }) (λ e. slice_get e.sems n) e (λ xs. refl) e.mutexes m step ∙ has

-- flag groups likewise
flags_own : (n : ℕ) (e : Elements) (x : FlagGroup) (touch : Touch) → slice_get e.flags n ≡ Some x → Owns flag_group (λ e. slice_get e.flags n) (its_flags n) e x touch (its_flags n touch)
flags_own n e x touch has = on touch.by touch.answer touch.step
  where
    on : (by : Option ℕ) (answer : Result Reply Refusal) (s : ElementStep)
        → Owns flag_group (λ e. slice_get e.flags n) (its_flags n) e x (record { by = by; step = s; answer = answer }) (its_flags n (record { by = by; step = s; answer = answer }))
    on by answer (on_flags m step) = test (m == n) refl
      where
        with_flags : List FlagGroup → Elements
        with_flags flags = record e { flags = flags }

        test : (b : Bool) → (m == n) ≡ b
            → Owns flag_group (λ e. slice_get e.flags n) (its_flags n) e x (record { by = by; step = on_flags m step; answer = answer }) (if b then Some (record { by = by; step = step; answer = answer }) else None)
        test true is = let own = here flag_group (λ e. e.flags) with_flags (λ xs. refl) e n x has m step (eqb-true m n is) in (refl, own.0, own.1)
        test false is = there flag_group (λ e. e.flags) with_flags (λ xs. refl) e n x has m step is
    on by answer (on_sem m step) = nothing_to semaphore (λ sems. record e { sems = sems }) (λ e. slice_get e.flags n) e (λ xs. refl) e.sems m step ∙ has
    on by answer (on_xbuf m step) = nothing_to cross_buffer (λ xbufs. record e { xbufs = xbufs }) (λ e. slice_get e.flags n) e (λ xs. refl) e.xbufs m step ∙ has
    on by answer (on_mutex m step) = nothing_to mutex (λ mutexes. record e { mutexes = mutexes }) (λ e. slice_get e.flags n) e (λ xs. refl) e.mutexes m step ∙ has

-- and cross-buffers
xbufs_own : (n : ℕ) (e : Elements) (x : Xbuf) (touch : Touch) → slice_get e.xbufs n ≡ Some x → Owns cross_buffer (λ e. slice_get e.xbufs n) (its_xbuf n) e x touch (its_xbuf n touch)
xbufs_own n e x touch has = on touch.by touch.answer touch.step
  where
    on : (by : Option ℕ) (answer : Result Reply Refusal) (s : ElementStep)
        → Owns cross_buffer (λ e. slice_get e.xbufs n) (its_xbuf n) e x (record { by = by; step = s; answer = answer }) (its_xbuf n (record { by = by; step = s; answer = answer }))
    on by answer (on_xbuf m step) = test (m == n) refl
      where
        with_xbufs : List Xbuf → Elements
        with_xbufs xbufs = record e { xbufs = xbufs }

        test : (b : Bool) → (m == n) ≡ b
            → Owns cross_buffer (λ e. slice_get e.xbufs n) (its_xbuf n) e x (record { by = by; step = on_xbuf m step; answer = answer }) (if b then Some (record { by = by; step = step; answer = answer }) else None)
        test true is = let own = here cross_buffer (λ e. e.xbufs) with_xbufs (λ xs. refl) e n x has m step (eqb-true m n is) in (refl, own.0, own.1)
        test false is = there cross_buffer (λ e. e.xbufs) with_xbufs (λ xs. refl) e n x has m step is
    on by answer (on_sem m step) = nothing_to semaphore (λ sems. record e { sems = sems }) (λ e. slice_get e.xbufs n) e (λ xs. refl) e.sems m step ∙ has
    on by answer (on_flags m step) = nothing_to flag_group (λ flags. record e { flags = flags }) (λ e. slice_get e.xbufs n) e (λ xs. refl) e.flags m step ∙ has
    on by answer (on_mutex m step) = nothing_to mutex (λ mutexes. record e { mutexes = mutexes }) (λ e. slice_get e.xbufs n) e (λ xs. refl) e.mutexes m step ∙ has

-- and mutexes
mutexes_own : (n : ℕ) (e : Elements) (x : Mutex) (touch : Touch) → slice_get e.mutexes n ≡ Some x → Owns mutex (λ e. slice_get e.mutexes n) (its_mutex n) e x touch (its_mutex n touch)
mutexes_own n e x touch has = on touch.by touch.answer touch.step
  where
    on : (by : Option ℕ) (answer : Result Reply Refusal) (s : ElementStep)
        → Owns mutex (λ e. slice_get e.mutexes n) (its_mutex n) e x (record { by = by; step = s; answer = answer }) (its_mutex n (record { by = by; step = s; answer = answer }))
    on by answer (on_mutex m step) = test (m == n) refl
      where
        with_mutexes : List Mutex → Elements
        with_mutexes mutexes = record e { mutexes = mutexes }

        test : (b : Bool) → (m == n) ≡ b
            → Owns mutex (λ e. slice_get e.mutexes n) (its_mutex n) e x (record { by = by; step = on_mutex m step; answer = answer }) (if b then Some (record { by = by; step = step; answer = answer }) else None)
        test true is = let own = here mutex (λ e. e.mutexes) with_mutexes (λ xs. refl) e n x has m step (eqb-true m n is) in (refl, own.0, own.1)
        test false is = there mutex (λ e. e.mutexes) with_mutexes (λ xs. refl) e n x has m step is
    on by answer (on_sem m step) = nothing_to semaphore (λ sems. record e { sems = sems }) (λ e. slice_get e.mutexes n) e (λ xs. refl) e.sems m step ∙ has
    on by answer (on_flags m step) = nothing_to flag_group (λ flags. record e { flags = flags }) (λ e. slice_get e.mutexes n) e (λ xs. refl) e.flags m step ∙ has
    on by answer (on_xbuf m step) = nothing_to cross_buffer (λ xbufs. record e { xbufs = xbufs }) (λ e. slice_get e.mutexes n) e (λ xs. refl) e.xbufs m step ∙ has

pub mutexes_by_themselves : MutexesRunByThemselves
mutexes_by_themselves n = by_itself mutex (λ e. slice_get e.mutexes n) (its_mutex n) (mutexes_own n)

pub xbufs_by_themselves : CrossBuffersRunByThemselves
xbufs_by_themselves n = by_itself cross_buffer (λ e. slice_get e.xbufs n) (its_xbuf n) (xbufs_own n)

pub flags_by_themselves : FlagGroupsRunByThemselves
flags_by_themselves n = by_itself flag_group (λ e. slice_get e.flags n) (its_flags n) (flags_own n)

pub by_themselves : SemaphoresRunByThemselves
by_themselves n = by_itself semaphore (λ e. slice_get e.sems n) (its_sem n) (sem_owns n)
