-- The world of the one table: the core's word, slot and history, each mutex's word with its history, and what each thread knows; and the atomic steps on it.
use Rattle.std.specs.Prelude.{◌≡◌, ◌≢◌, ℕ, ◌<◌, ◌≤◌, ◌==◌, if◌then◌else◌, Bool, true, false, List, [], ◌∷◌, ◌++◌, length, map, replicate, slice_index, slice_set, Option, Some, MatchBool}
use mathlib.Core.Option.{some}
use lib.ListN.{get_elem?}
use Rattle.atomic_table.specs.Table.{State}
use Rattle.evl_kernel.specs.histories.Histories.{History}
use Rattle.evl_words.specs.Dealings.{DealingEvent, acts, cuts, gathers}
use Rattle.evl_words.specs.Events.{Event, seat_after}
use Rattle.evl_words.specs.Hands.{Hand, Deals, place, hand_from, first_of, rest_of}
use Rattle.evl_words.specs.Mutex.{MutexEntry}
use Rattle.evl_words.specs.MutexWorld as mutex
use Rattle.evl_words.specs.MutexWorld.{MutexKind, MutexView, MutexWorld, IsMutexWorld, mutex_steps, tries, unlocks, claims, settles, offers, frees, asks, forgets, awaits, accepts}
use Rattle.evl_core.specs.declared.views.CorePart.{CorePart}
use Rattle.evl_core.specs.declared.views.ThreadView.{ThreadView}
use Rattle.evl_core.specs.accounts.Accounts.{threads_of}
use Rattle.evl_core.specs.lock.Lock.{LockEntry}
use Rattle.evl_core.specs.rule.CoreRule.{CoreStands, IsAbout, noting}
use Rattle.evl_core.specs.worlds.CoreWorld as core
use Rattle.evl_core.specs.worlds.CoreWorld.{CoreKind, Slot, gives}
use Rattle.evl_core.specs.rule.ThreadRule.{core_of, put_core, mutex_of, put_mutex, newcomer_view}
use Rattle.evl_core.specs.rule.Ties.{MutexTied, Settled}

pub record OneWorld (S B : Type 0) : Type 0 where
  pub word : ℕ
  pub slot : Slot S
  pub log : List LockEntry
  pub mutexes : List ℕ
  pub logs : ℕ → List MutexEntry
  pub views : List (ThreadView B MutexView)

-- `looks` is a load of a word of the table, 0 the lock's, that has no entry and changes nothing
pub data OneKind (S : Type 0) : Type 0 where
  on_lock : CoreKind S → OneKind S
  on_word : ℕ → MutexKind → OneKind S
  looks : ℕ → OneKind S

-- the word that a step is on
abbrev pub word_for : {S B : Type 0} → OneWorld S B → OneKind S → ℕ
word_for w (on_lock kind) = w.word
word_for w (on_word i kind) = slice_index w.mutexes i
word_for w (looks n) = slice_index (w.word ∷ w.mutexes) n

-- whether only the thread that has the kernel makes this step, on a mutex with a ceiling or without
abbrev pub needs_kernel : Bool → MutexKind → Bool
needs_kernel ceiling tries = ceiling
needs_kernel ceiling unlocks = false
needs_kernel ceiling asks = false
needs_kernel ceiling claims = true
needs_kernel ceiling settles = true
needs_kernel ceiling (offers next more) = true
needs_kernel ceiling frees = true
needs_kernel ceiling forgets = true
needs_kernel ceiling awaits = true
needs_kernel ceiling accepts = true

-- nobody unlocks a mutex with a ceiling without the kernel
abbrev pub is_unlocking : MutexKind → Bool
is_unlocking unlocks = true
is_unlocking _ = false

-- a token that makes a step acts for one thread. One that looks may act for several
abbrev pub MayActFor : {S V : Type 0} → OneKind S → Hand V → Type 0
MayActFor (on_lock kind) others = others ≡ []
MayActFor (on_word i kind) others = others ≡ []
MayActFor (looks n) others = Unit {0}

-- the thread has the kernel, and has made no step on another word since it took it
abbrev pub HasFor : {B : Type 0} → ℕ → CorePart B → Type 0
HasFor i c = (h : History) × (c.taken ≡ Some h) × IsAbout i c.note

abbrev pub noted_if : {B : Type 0} → Bool → ℕ → ℕ → CorePart B → CorePart B
noted_if true i left c = noting i left c
noted_if false i left c = c

module _ {S B : Type 0} (past : S → History) (room : S → ℕ) (comes : B → S → Type 0) (ceilings : ℕ → Bool) (m : ℕ) where
  -- what a give owes of the ties
  abbrev pub ties_may : CorePart B → CoreKind S → Type 0
  ties_may c (gives y) = (h : History) → c.taken ≡ Some h → Settled ceilings c h (past y).state
  ties_may c _ = Unit {0}

  abbrev pub one_may : ℕ → ThreadView B MutexView → OneKind S → Type 0
  one_may k v (on_lock kind) = core.step_may past room comes k (core_of v) kind × ties_may (core_of v) kind
  one_may k v (looks n) = n ≤ m
  one_may k v (on_word i kind) = (i < m) × mutex.step_may k (mutex_of i v) kind × MatchBool (needs_kernel (ceilings i) kind) (HasFor i (core_of v)) (is_unlocking kind ≡ true → ceilings i ≡ false)

  -- what a thread knows after a step on a mutex's word
  abbrev pub on_word_view : ℕ → List MutexEntry → ℕ → ThreadView B MutexView → ℕ → MutexKind → ThreadView B MutexView
  on_word_view found log k v i kind =
      put_core (put_mutex i v (seat_after mutex_steps found log k (mutex_of i v) kind)) (noted_if (needs_kernel (ceilings i) kind) i (mutex.step_word found k (mutex_of i v) kind) (core_of v))

  abbrev pub view_after : OneWorld S B → ℕ → ThreadView B MutexView → OneKind S → ThreadView B MutexView
  view_after w k v (on_lock kind) = put_core v (core.step_part past room comes w.word w.slot w.log k (core_of v) kind)
  view_after w k v (looks n) = v
  view_after w k v (on_word i kind) = on_word_view (slice_index w.mutexes i) (w.logs i) k v i kind

  -- the world after a step of the thread k
  abbrev pub one_after : OneWorld S B → ℕ → ThreadView B MutexView → OneKind S → OneWorld S B
  one_after w k v (on_lock kind) = record {
    word = core.step_word past room comes w.word kind;
    slot = core.step_slot past room comes w.word w.slot kind;
    log = core.step_log past room comes w.word w.log k kind;
    mutexes = w.mutexes;
    logs = w.logs;
    views = slice_set w.views k (put_core v (core.step_part past room comes w.word w.slot w.log k (core_of v) kind));
  }
  one_after w k v (looks n) = w
  one_after w k v (on_word i kind) = let found = slice_index w.mutexes i in record {
    word = w.word;
    slot = w.slot;
    log = w.log;
    mutexes = slice_set w.mutexes i (mutex.step_word found k (mutex_of i v) kind);
    logs = λ j. if j == i then w.logs i ++ mutex.step_entries found k (mutex_of i v) kind else w.logs j;
    views = slice_set w.views k (on_word_view found (w.logs i) k v i kind);
  }

  -- one atomic step of one thread
  pub record OneHappens (w : OneWorld S B) (e : Event (OneKind S)) (after : OneWorld S B) : Type 0 where
    pub view : ThreadView B MutexView
    pub at : get_elem? w.views e.by ≡ some view
    pub may : one_may e.by view e.kind
    pub changed : after ≡ one_after w e.by view e.kind

  -- the world of one mutex by itself
  abbrev pub mutex_world : OneWorld S B → ℕ → MutexWorld
  mutex_world w i = record { word = slice_index w.mutexes i; log = w.logs i; views = map (mutex_of i) w.views }

  -- what holds of it at each moment: the core's condition, that of each mutex, and what ties each mutex's word to what the kernel records
  pub record IsOneWorld (first : B) (w : OneWorld S B) : Type 0 where
    pub count : length w.mutexes ≡ m
    pub locked : CoreStands past comes first w.log w.word (w.slot ∷ []) (map core_of w.views)
    pub parts : (i : ℕ) → i < m → IsMutexWorld (mutex_world w i)
    pub ties : (i : ℕ) → i < m → MutexTied past ceilings i w.word (w.slot ∷ []) (map core_of w.views) (slice_index w.mutexes i)

module _ {S B : Type 0} (past : S → History) (room : S → ℕ) (comes : B → S → Type 0) (ceilings : B → ℕ → Bool) (count : B → ℕ) where
  -- in some world of the table that was made with `first`, which is consistent, a step of this kind, which the thread k might make, found this word and took what the thread knows from v to u
  pub record IsOneEvent (first : B) (k : ℕ) (v : ThreadView B MutexView) (kind : OneKind S) (found : ℕ) (u : ThreadView B MutexView) : Type 0 where
    pub world : OneWorld S B
    pub stands : IsOneWorld past room comes (ceilings first) (count first) first world
    pub at : get_elem? world.views k ≡ some v
    pub may : one_may past room comes (ceilings first) (count first) k v kind
    pub shows : word_for world kind ≡ found
    pub after : u ≡ view_after past room comes (ceilings first) (count first) world k v kind

-- the world with the threads that each token acts for
pub record OneDealing (S B : Type 0) : Type 0 where
  pub world : OneWorld S B
  pub hands : List (Hand (ThreadView B MutexView))

-- a table is this world: the core's word before those of the mutexes, the one slot, and the hands of its tokens
pub record LiesSo {S B : Type 0} (s : State (Option S) (Hand (ThreadView B MutexView))) (d : OneDealing S B) : Type 0 where
  pub words : s.words ≡ d.world.word ∷ d.world.mutexes
  pub slot : s.homes ≡ d.world.slot ∷ []
  pub hands : s.views ≡ d.hands

module _ {S B : Type 0} (past : S → History) (room : S → ℕ) (comes : B → S → Type 0) (ceilings : ℕ → Bool) (m : ℕ) where
  -- a token of one thread makes a step, a token looks, or hands of threads are split and joined
  abbrev pub OneDealingStep : OneDealing S B → DealingEvent (OneKind S) → OneDealing S B → Type 0
  OneDealingStep d (acts id kind) t = (k : ℕ) × (v : ThreadView B MutexView) × (others : Hand (ThreadView B MutexView)) × (get_elem? d.hands id ≡ some (place k v ∷ others)) × MayActFor kind others × one_may past room comes ceilings m k v kind
      × (t ≡ record { world = one_after past room comes ceilings m d.world k v kind; hands = slice_set d.hands id (place k (view_after past room comes ceilings m d.world k v kind) ∷ others) })
  OneDealingStep d (cuts id) t = (hand : Hand (ThreadView B MutexView)) × (get_elem? d.hands id ≡ some hand) × (t ≡ record { world = d.world; hands = slice_set d.hands id (first_of hand) ++ rest_of hand ∷ [] })
  OneDealingStep d (gathers id other) t = (hand theirs : Hand (ThreadView B MutexView)) × (get_elem? d.hands id ≡ some hand) × (other ≢ id) × (get_elem? d.hands other ≡ some theirs)
      × (t ≡ record { world = d.world; hands = slice_set (slice_set d.hands id (hand ++ theirs)) other [] })

  -- what lies in the slot at the opening, m mutexes that nobody has, and one hand with all threads of the board
  abbrev pub opened_one : B → S → OneDealing S B
  opened_one first y =
      let views = replicate (threads_of (past y)) (newcomer_view (past y) first m (threads_of (past y))) in
      record { world = record { word = 0; slot = some (Some y); log = []; mutexes = replicate m 0; logs = λ i. []; views = views }; hands = hand_from 0 views ∷ [] }

  -- the world is consistent, no thread is in two hands, and each hand has the views of its threads
  abbrev pub StandsInOne : B → OneDealing S B → Type 0
  StandsInOne first d = IsOneWorld past room comes ceilings m first d.world × Deals d.world.views d.hands
