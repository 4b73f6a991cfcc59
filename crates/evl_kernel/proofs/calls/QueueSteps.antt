-- The meaning of a change of one element for the queues of all: who is let go, who comes, and who leaves.
use Rattle.std.proofs.Common.{◌≡◌, ℕ, ◌==◌, ◌⊎◌, inl, inr, Bool, true, false, not, ◌||◌, cond, List, [], ◌∷◌, Option, Some, slice_get, slice_set, refl, sym, ap, ◌∙◌, subst, arith}
use Rattle.std.specs.Option.{option_map_or}
use Rattle.std.proofs.lemmas.Bool.{false≢true, eq-eqb, eqb-true}
use Rattle.std.proofs.lemmas.Bool.Decides.{nat_tests}
use Rattle.std.proofs.lemmas.Option.{same_Some}
use Rattle.evl_base.proofs.Plain.{eqb-swap_false}
use Rattle.evl_base.specs.declared.reply.Reply.{Reply}
use Rattle.evl_sync.specs.Queues.{dropped_by, enqueued_by, stands_in}
use Rattle.evl_sync.specs.Semaphores.{Semaphore, IsSoundSemaphore}
use Rattle.evl_sync.specs.FlagGroups.{FlagGroup, IsSoundGroup}
use Rattle.evl_sync.proofs.QueueLaws.{stands-enqueued}
use Rattle.evl_kernel.specs.declared.waits.Awaited.{Awaited}
use Rattle.evl_kernel.specs.declared.waits.Awaited.TheVariants.{Sem, Flags, Writing, Reading, Mutex}
use Rattle.evl_kernel.specs.state.States.{Elements}
use Rattle.evl_mutex.specs.Mutexes.{Mutex as MutexRecorded}
use Rattle.evl_mutex.specs.Owners.{IsSound}
use Rattle.evl_kernel.specs.waiting.Standing.{AreSound, in_flags, in_sem, is_served, stands_at, stands_for, in_mutex, owners_in}
use Rattle.evl_kernel.proofs.state.SetLaws.{set_here, set_there}

-- the n-th of a kind is set
module _ {X : Type 0} (has : X → ℕ → Bool) (xs : List X) (n : ℕ) (q p : X) (here : slice_get xs n ≡ Some q) where
  pub at_it : (t : ℕ) → stands_at has (slice_set xs n p) n t ≡ has p t
  at_it t = ap (λ (o : Option X). option_map_or (λ (x : X). has x t) o false) (set_here xs n q p here)

  pub was_at_it : (t : ℕ) → stands_at has xs n t ≡ has q t
  was_at_it t = ap (λ (o : Option X). option_map_or (λ (x : X). has x t) o false) here

  pub at_other : (m t : ℕ) → (n == m) ≡ false → stands_at has (slice_set xs n p) m t ≡ stands_at has xs m t
  at_other m t other = ap (λ (o : Option X). option_map_or (λ (x : X). has x t) o false) (set_there xs n m p other)

  pub same_at : (m t : ℕ) → has p t ≡ has q t → stands_at has (slice_set xs n p) m t ≡ stands_at has xs m t
  same_at m t same = by (n == m) refl
    where
      by : (b : Bool) → (n == m) ≡ b → stands_at has (slice_set xs n p) m t ≡ stands_at has xs m t
      by true is = subst (λ (k : ℕ). stands_at has (slice_set xs n p) k t ≡ stands_at has xs k t) (eqb-true n m is) (at_it t ∙ (same ∙ sym (was_at_it t)))
      by false is = at_other m t is

  pub old_at : (m t : ℕ) → (has p t ≡ true → has q t ≡ true) → stands_at has (slice_set xs n p) m t ≡ true → stands_at has xs m t ≡ true
  old_at m t old = by (n == m) refl
    where
      by : (b : Bool) → (n == m) ≡ b → stands_at has (slice_set xs n p) m t ≡ true → stands_at has xs m t ≡ true
      by true is =
          subst (λ (k : ℕ). stands_at has (slice_set xs n p) k t ≡ true → stands_at has xs k t ≡ true) (eqb-true n m is)
          (λ stands. was_at_it t ∙ old (sym (at_it t) ∙ stands))
      by false is = λ stands. sym (at_other m t is) ∙ stands

  -- whatever holds of all of the kind holds of all again
  pub all_at : (P : X → Type 0) → ((m : ℕ) (x : X) → slice_get xs m ≡ Some x → P x) → P p → (m : ℕ) (x : X) → slice_get (slice_set xs n p) m ≡ Some x → P x
  all_at P all new m x at = by (n == m) refl
    where
      by : (b : Bool) → (n == m) ≡ b → P x
      by true is = subst P (same_Some _ _ (sym (set_here xs n q p here) ∙ (ap (slice_get (slice_set xs n p)) (eqb-true n m is) ∙ at))) new
      by false is = all m x (sym (set_there xs n m p is) ∙ at)

-- the thread was in a queue, and no longer is
pub record Gone (e : Elements) (thread : ℕ) (after : Elements) : Type 0 where
  pub on : Awaited
  pub stood : stands_for e on thread ≡ true
  pub gone : stands_for after on thread ≡ false

-- these are let go, and all others stand as before
pub record LetsGo (e : Elements) (served : List (ℕ × Reply)) (after : Elements) : Type 0 where
  pub left : (t : ℕ) → is_served t served ≡ true → Gone e t after
  pub same : (on : Awaited) (t : ℕ) → is_served t served ≡ false → stands_for after on t ≡ stands_for e on t
  pub old : (on : Awaited) (t : ℕ) → stands_for after on t ≡ true → stands_for e on t ≡ true

-- this thread comes to this queue, and all others stand as before
pub record Comes (e : Elements) (on : Awaited) (thread : ℕ) (after : Elements) : Type 0 where
  pub there : stands_for after on thread ≡ true
  pub alone : (other : Awaited) → stands_for after other thread ≡ true → (on ≡ other) ⊎ (stands_for e other thread ≡ true)
  pub same : (other : Awaited) (t : ℕ) → (t == thread) ≡ false → stands_for after other t ≡ stands_for e other t

-- this thread leaves this queue, by which these are let go, and all others stand as before
pub record Drops (e : Elements) (on : Awaited) (thread : ℕ) (served : List (ℕ × Reply)) (after : Elements) : Type 0 where
  pub gone : stands_for after on thread ≡ false
  pub left : (t : ℕ) → is_served t served ≡ true → Gone e t after
  pub same : (other : Awaited) (t : ℕ) → (t == thread) ≡ false → is_served t served ≡ false → stands_for after other t ≡ stands_for e other t
  pub old : (other : Awaited) (t : ℕ) → stands_for after other t ≡ true → stands_for e other t ≡ true

-- of one queue
pub record OneGoes (before after : ℕ → Bool) (served : List (ℕ × Reply)) : Type 0 where
  pub left : (t : ℕ) → is_served t served ≡ true → (before t ≡ true) × (after t ≡ false)
  pub same : (t : ℕ) → is_served t served ≡ false → after t ≡ before t

pub record OneComes (before after : ℕ → Bool) (thread : ℕ) : Type 0 where
  pub there : after thread ≡ true
  pub same : (t : ℕ) → (t == thread) ≡ false → after t ≡ before t

pub record OneDrops (before after : ℕ → Bool) (thread : ℕ) : Type 0 where
  pub gone : after thread ≡ false
  pub same : (t : ℕ) → (t == thread) ≡ false → after t ≡ before t

goes_old : (before after : ℕ → Bool) (served : List (ℕ × Reply)) → OneGoes before after served → (t : ℕ) → after t ≡ true → before t ≡ true
goes_old before after served one t is = by (is_served t served) refl
  where
    by : (b : Bool) → is_served t served ≡ b → before t ≡ true
    by true s = (one.left t s).0
    by false s = sym (one.same t s) ∙ is

drops_old : (before after : ℕ → Bool) (thread : ℕ) → OneDrops before after thread → (t : ℕ) → after t ≡ true → before t ≡ true
drops_old before after thread one t is = by (t == thread) refl
  where
    by : (b : Bool) → (t == thread) ≡ b → before t ≡ true
    by true same = absurd (false≢true (sym one.gone ∙ (ap after (sym (eqb-true t thread same)) ∙ is)))
    by false ne = sym (one.same t ne) ∙ is

-- The n-th of a kind changes. Each thing to wait for is of this kind, or the same threads wait for it as before.
module _ {X : Type 0} (has : X → ℕ → Bool) (xs : List X) (n : ℕ) (q p : X) (here : slice_get xs n ≡ Some q) (of : ℕ → Awaited) (e after : Elements)
    (before_is : (m t : ℕ) → stands_for e (of m) t ≡ stands_at has xs m t) (after_is : (m t : ℕ) → stands_for after (of m) t ≡ stands_at has (slice_set xs n p) m t)
    (either : (on : Awaited) → ((m : ℕ) × (on ≡ of m)) ⊎ ((t : ℕ) → stands_for after on t ≡ stands_for e on t)) where
  same_for : (t : ℕ) → has p t ≡ has q t → (on : Awaited) → stands_for after on t ≡ stands_for e on t
  same_for t same on = by (either on)
    where
      by : ((m : ℕ) × (on ≡ of m)) ⊎ ((t : ℕ) → stands_for after on t ≡ stands_for e on t) → stands_for after on t ≡ stands_for e on t
      by (inl (m, is)) = subst (λ (x : Awaited). stands_for after x t ≡ stands_for e x t) (sym is) (after_is m t ∙ (same_at has xs n q p here m t same ∙ sym (before_is m t)))
      by (inr others) = others t

  old_for : (t : ℕ) → (has p t ≡ true → has q t ≡ true) → (on : Awaited) → stands_for after on t ≡ true → stands_for e on t ≡ true
  old_for t old on = by (either on)
    where
      by : ((m : ℕ) × (on ≡ of m)) ⊎ ((t : ℕ) → stands_for after on t ≡ stands_for e on t) → stands_for after on t ≡ true → stands_for e on t ≡ true
      by (inl (m, is)) =
          subst (λ (x : Awaited). stands_for after x t ≡ true → stands_for e x t ≡ true) (sym is)
          (λ stands. before_is m t ∙ old_at has xs n q p here m t old (sym (after_is m t) ∙ stands))
      by (inr others) = λ stands. sym (others t) ∙ stands

  pub goes : (served : List (ℕ × Reply)) → OneGoes (has q) (has p) served → LetsGo e served after
  goes served one = record {
    left = λ t is. record {
      on = of n;
      stood = before_is n t ∙ (was_at_it has xs n q p here t ∙ (one.left t is).0);
      gone = after_is n t ∙ (at_it has xs n q p here t ∙ (one.left t is).1);
    };
    same = λ on t is. same_for t (one.same t is) on;
    old = λ on t. old_for t (goes_old (has q) (has p) served one t) on;
  }

  pub comes : (thread : ℕ) → OneComes (has q) (has p) thread → Comes e (of n) thread after
  comes thread one = record {
    there = after_is n thread ∙ (at_it has xs n q p here thread ∙ one.there);
    alone = λ other is. alone other is (either other);
    same = λ other t ne. same_for t (one.same t ne) other;
  }
    where
      alone : (other : Awaited) → stands_for after other thread ≡ true → ((m : ℕ) × (other ≡ of m)) ⊎ ((t : ℕ) → stands_for after other t ≡ stands_for e other t)
          → (of n ≡ other) ⊎ (stands_for e other thread ≡ true)
      alone other is (inl (m, of_m)) = by (n == m) refl
        where
          by : (b : Bool) → (n == m) ≡ b → (of n ≡ other) ⊎ (stands_for e other thread ≡ true)
          by true same = inl (ap of (eqb-true n m same) ∙ sym of_m)
          by false ne = inr (subst (λ (x : Awaited). stands_for e x thread ≡ true) (sym of_m)
              (before_is m thread ∙ (sym (at_other has xs n q p here m thread ne) ∙ (sym (after_is m thread) ∙ (ap (λ (x : Awaited). stands_for after x thread) (sym of_m) ∙ is)))))
      alone other is (inr others) = inr (sym (others thread) ∙ is)

  pub drops : (thread : ℕ) → OneDrops (has q) (has p) thread → Drops e (of n) thread [] after
  drops thread one = record {
    gone = after_is n thread ∙ (at_it has xs n q p here thread ∙ one.gone);
    left = λ t is. absurd (false≢true is);
    same = λ other t ne nobody. same_for t (one.same t ne) other;
    old = λ other t. old_for t (drops_old (has q) (has p) thread one t) other;
  }

-- a semaphore changes
module _ (e : Elements) (n : ℕ) (q p : Semaphore) (here : slice_get e.sems n ≡ Some q) where
  abbrev pub sem_set : Elements
  sem_set = record e { sems = slice_set e.sems n p }

  abbrev pub of_sem : ℕ → Awaited
  of_sem m = Sem (record { 0 = m })

  sem_or : (on : Awaited) → ((m : ℕ) × (on ≡ of_sem m)) ⊎ ((t : ℕ) → stands_for sem_set on t ≡ stands_for e on t)
  sem_or (Sem id) = inl (id.0, refl)
  sem_or (Flags id) = inr (λ t. refl)
  sem_or (Writing id way) = inr (λ t. refl)
  sem_or (Reading id way) = inr (λ t. refl)
  sem_or (Mutex id) = inr (λ t. refl)

  pub sems_sound : AreSound e → IsSoundSemaphore p → AreSound sem_set
  sems_sound h sound = record { sems = all_at in_sem e.sems n q p here IsSoundSemaphore h.sems sound; flags = h.flags; xbufs = h.xbufs; mutexes = h.mutexes }

  pub sem_goes : (served : List (ℕ × Reply)) → OneGoes (in_sem q) (in_sem p) served → LetsGo e served sem_set
  sem_goes served one = goes in_sem e.sems n q p here of_sem e sem_set (λ m t. refl) (λ m t. refl) sem_or served one

  pub sem_comes : (thread : ℕ) → OneComes (in_sem q) (in_sem p) thread → Comes e (of_sem n) thread sem_set
  sem_comes thread one = comes in_sem e.sems n q p here of_sem e sem_set (λ m t. refl) (λ m t. refl) sem_or thread one

  pub sem_drops : (thread : ℕ) → OneDrops (in_sem q) (in_sem p) thread → Drops e (of_sem n) thread [] sem_set
  sem_drops thread one = drops in_sem e.sems n q p here of_sem e sem_set (λ m t. refl) (λ m t. refl) sem_or thread one

-- a flag group changes
module _ (e : Elements) (n : ℕ) (q p : FlagGroup) (here : slice_get e.flags n ≡ Some q) where
  abbrev pub flags_set : Elements
  flags_set = record e { flags = slice_set e.flags n p }

  abbrev pub of_flags : ℕ → Awaited
  of_flags m = Flags (record { 0 = m })

  flags_or : (on : Awaited) → ((m : ℕ) × (on ≡ of_flags m)) ⊎ ((t : ℕ) → stands_for flags_set on t ≡ stands_for e on t)
  flags_or (Sem id) = inr (λ t. refl)
  flags_or (Flags id) = inl (id.0, refl)
  flags_or (Writing id way) = inr (λ t. refl)
  flags_or (Reading id way) = inr (λ t. refl)
  flags_or (Mutex id) = inr (λ t. refl)

  pub flags_sound : AreSound e → IsSoundGroup p → AreSound flags_set
  flags_sound h sound = record { sems = h.sems; flags = all_at in_flags e.flags n q p here IsSoundGroup h.flags sound; xbufs = h.xbufs; mutexes = h.mutexes }

  pub flags_go : (served : List (ℕ × Reply)) → OneGoes (in_flags q) (in_flags p) served → LetsGo e served flags_set
  flags_go served one = goes in_flags e.flags n q p here of_flags e flags_set (λ m t. refl) (λ m t. refl) flags_or served one

  pub flags_come : (thread : ℕ) → OneComes (in_flags q) (in_flags p) thread → Comes e (of_flags n) thread flags_set
  flags_come thread one = comes in_flags e.flags n q p here of_flags e flags_set (λ m t. refl) (λ m t. refl) flags_or thread one

  pub flags_drop : (thread : ℕ) → OneDrops (in_flags q) (in_flags p) thread → Drops e (of_flags n) thread [] flags_set
  flags_drop thread one = drops in_flags e.flags n q p here of_flags e flags_set (λ m t. refl) (λ m t. refl) flags_or thread one

-- a mutex changes
module _ (e : Elements) (n : ℕ) (q p : MutexRecorded) (here : slice_get e.mutexes n ≡ Some q) where
  abbrev pub mutex_set : Elements
  mutex_set = record e { mutexes = slice_set e.mutexes n p }

  abbrev pub of_mutex : ℕ → Awaited
  of_mutex m = Mutex (record { 0 = m })

  mutex_or : (on : Awaited) → ((m : ℕ) × (on ≡ of_mutex m)) ⊎ ((t : ℕ) → stands_for mutex_set on t ≡ stands_for e on t)
  mutex_or (Sem id) = inr (λ t. refl)
  mutex_or (Flags id) = inr (λ t. refl)
  mutex_or (Writing id way) = inr (λ t. refl)
  mutex_or (Reading id way) = inr (λ t. refl)
  mutex_or (Mutex id) = inl (id.0, refl)

  pub mutexes_sound : AreSound e → IsSound (owners_in mutex_set) → AreSound mutex_set
  mutexes_sound h sound = record { sems = h.sems; flags = h.flags; xbufs = h.xbufs; mutexes = sound }

  pub mutex_goes : (served : List (ℕ × Reply)) → OneGoes (in_mutex q) (in_mutex p) served → LetsGo e served mutex_set
  mutex_goes served one = goes in_mutex e.mutexes n q p here of_mutex e mutex_set (λ m t. refl) (λ m t. refl) mutex_or served one

  pub mutex_comes : (thread : ℕ) → OneComes (in_mutex q) (in_mutex p) thread → Comes e (of_mutex n) thread mutex_set
  mutex_comes thread one = comes in_mutex e.mutexes n q p here of_mutex e mutex_set (λ m t. refl) (λ m t. refl) mutex_or thread one

  pub mutex_drops : (thread : ℕ) → OneDrops (in_mutex q) (in_mutex p) thread → Drops e (of_mutex n) thread [] mutex_set
  mutex_drops thread one = drops in_mutex e.mutexes n q p here of_mutex e mutex_set (λ m t. refl) (λ m t. refl) mutex_or thread one

-- where the queue stays as it is, nobody goes
pub same_queue : {X : Type 0} (has : X → ℕ → Bool) (q p : X) → ((t : ℕ) → has p t ≡ has q t) → OneGoes (has q) (has p) []
same_queue has q p same = record { left = λ t is. absurd (false≢true is); same = λ t is. same t }

-- a waiter comes to a queue, or leaves it
module _ {A : Type 0} (thread rank : A → ℕ) (ws : List A) where
  pub enqueued_comes : (w : A) (xs : List A) → xs ≡ enqueued_by rank w ws → OneComes (λ t. stands_in thread t ws) (λ t. stands_in thread t xs) (thread w)
  enqueued_comes w xs is = record {
    there = stood (thread w) ∙ ap (λ (b : Bool). b || stands_in thread (thread w) ws) (eq-eqb (thread w) (thread w) refl);
    same = λ t ne. stood t ∙ ap (λ (b : Bool). b || stands_in thread t ws) (eqb-swap_false t (thread w) ne);
  }
    where
      stood : (t : ℕ) → stands_in thread t xs ≡ ((thread w == t) || stands_in thread t ws)
      stood t = ap (stands_in thread t) is ∙ stands-enqueued thread rank w ws t

module _ {A : Type 0} (thread : A → ℕ) where
  pub dropped_gone : (t : ℕ) (ws : List A) → stands_in thread t (dropped_by thread t ws) ≡ false
  dropped_gone t [] = refl
  dropped_gone t (w ∷ ws) = by (thread w == t) refl (dropped_gone t ws)
    where
      by : (b : Bool) → (thread w == t) ≡ b → stands_in thread t (dropped_by thread t ws) ≡ false → stands_in thread t (cond (not b) (w ∷ dropped_by thread t ws) (dropped_by thread t ws)) ≡ false
      by true is rest = rest
      by false is rest = ap (λ (c : Bool). c || stands_in thread t (dropped_by thread t ws)) is ∙ rest

  pub dropped_stays : (gone t : ℕ) → (t == gone) ≡ false → (ws : List A) → stands_in thread t (dropped_by thread gone ws) ≡ stands_in thread t ws
  dropped_stays gone t ne [] = refl
  dropped_stays gone t ne (w ∷ ws) = by (thread w == gone) refl (dropped_stays gone t ne ws)
    where
      differs : (u m v : ℕ) → (u == m) ≡ true → (v == m) ≡ false → (u == v) ≡ false
      differs u m v e f = grind (arith, nat_tests)

      by : (b : Bool) → (thread w == gone) ≡ b → stands_in thread t (dropped_by thread gone ws) ≡ stands_in thread t ws
          → stands_in thread t (cond (not b) (w ∷ dropped_by thread gone ws) (dropped_by thread gone ws)) ≡ ((thread w == t) || stands_in thread t ws)
      by true is rest = rest ∙ sym (ap (λ (c : Bool). c || stands_in thread t ws) (differs (thread w) gone t is ne))
      by false is rest = ap (λ (c : Bool). (thread w == t) || c) rest

  pub dropped_drops : (gone : ℕ) (ws : List A) → OneDrops (λ t. stands_in thread t ws) (λ t. stands_in thread t (dropped_by thread gone ws)) gone
  dropped_drops gone ws = record { gone = dropped_gone gone ws; same = λ t ne. dropped_stays gone t ne ws }
