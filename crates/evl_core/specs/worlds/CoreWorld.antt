-- The world of the core's lock: its word, its slot, its history, and what each thread knows; and the atomic steps on it.
use Rattle.std.specs.Prelude.{◌≡◌, ◌≢◌, ◌==◌, true, false, ℕ, List, [], ◌∷◌, ◌++◌, slice_set, replicate, if◌then◌else◌, Option, Some, None}
use prog.Atomic.{either}
use mathlib.Core.Option.{some, none}
use mathlib.Core.Option as maybe
use lib.ListN.{get_elem?}
use Rattle.evl_kernel.specs.histories.Histories.{History}
use Rattle.evl_words.specs.Events.{Event}
use Rattle.evl_words.specs.Dealings.{DealingEvent, acts, cuts, gathers}
use Rattle.evl_words.specs.Hands.{Hand, Deals, place, hand_from, first_of, rest_of}
use Rattle.evl_core.specs.declared.views.CorePart.{CorePart}
use Rattle.evl_core.specs.accounts.Accounts.{threads_of}
use Rattle.evl_core.specs.lock.Lock.{LockEntry, LockView, give_entry, lock_view, take_entry}
use Rattle.evl_core.specs.rule.CoreRule.{CoreStands, MayGive, after_take, after_loss, after_give, newcomer_part}

abbrev pub Slot : Type 0 → Type 0
Slot S = maybe.Option (Option S)

pub record CoreWorld (S B : Type 0) : Type 0 where
  pub word : ℕ
  pub slot : Slot S
  pub log : List LockEntry
  pub views : List (CorePart B)

-- rule: The steps are an exchange that takes, a store that gives, and the slot's two moves.
--   also: CoreWorld.CoreDealingStep
--   clauses: Machine::take; Held::give: event
-- The kinds of step. A take that finds the core taken is counted as lost, and changes nothing else. The thread that has taken the slot moves the kernel out of it and, before it gives one back, in again
pub data CoreKind (S : Type 0) : Type 0 where
  takes : CoreKind S
  gives : S → CoreKind S
  moves_out : CoreKind S
  moves_in : CoreKind S

module _ {S B : Type 0} (past : S → History) (room : S → ℕ) (comes : B → S → Type 0) where
  -- who has the kernel does not take it. A thread gives back what goes on from what it took, and comes from what was first put into the slot
  abbrev pub step_may : ℕ → CorePart B → CoreKind S → Type 0
  step_may k c takes = c.taken ≡ None
  step_may k c (gives y) = MayGive k c (past y) × comes c.first y
  step_may k c moves_out = Unit {0}
  step_may k c moves_in = Unit {0}

  abbrev pub step_word : ℕ → CoreKind S → ℕ
  step_word found takes = either (found == 0) 1 found
  step_word found (gives y) = 0
  step_word found moves_out = found
  step_word found moves_in = found

  abbrev pub step_slot : ℕ → Slot S → CoreKind S → Slot S
  step_slot found slot takes = if found == 0 then none else slot
  step_slot found slot (gives y) = some (Some y)
  step_slot found slot moves_out = slot
  step_slot found slot moves_in = slot

  -- the lock's history has each take and each give
  abbrev pub step_log : ℕ → List LockEntry → ℕ → CoreKind S → List LockEntry
  step_log found log k takes = log ++ take_entry found k ∷ []
  step_log found log k (gives y) = log ++ give_entry k ∷ []
  step_log found log k moves_out = log
  step_log found log k moves_in = log

  -- what the thread knows that took what was in the slot
  abbrev pub taken_from : Slot S → LockView → CorePart B → CorePart B
  taken_from none lock c = c
  taken_from (some None) lock c = c
  taken_from (some (Some y)) lock c = after_take (past y) (room y) lock c

  abbrev pub step_part : ℕ → Slot S → List LockEntry → ℕ → CorePart B → CoreKind S → CorePart B
  step_part found slot log k c takes = if found == 0 then taken_from slot (lock_view log (take_entry found k) c.lock true) c else after_loss (lock_view log (take_entry found k) c.lock false) c
  step_part found slot log k c (gives y) = after_give (past y) k (lock_view log (give_entry k) c.lock false) c
  step_part found slot log k c moves_out = c
  step_part found slot log k c moves_in = c

  -- the world after a step of the thread k
  abbrev pub world_after : CoreWorld S B → ℕ → CorePart B → CoreKind S → CoreWorld S B
  world_after w k c kind = record { word = step_word w.word kind; slot = step_slot w.word w.slot kind; log = step_log w.word w.log k kind; views = slice_set w.views k (step_part w.word w.slot w.log k c kind) }

  -- one atomic step of one thread
  pub record CoreHappens (w : CoreWorld S B) (e : Event (CoreKind S)) (after : CoreWorld S B) : Type 0 where
    pub view : CorePart B
    pub at : get_elem? w.views e.by ≡ some view
    pub may : step_may e.by view e.kind
    pub changed : after ≡ world_after w e.by view e.kind

  -- what holds of it at each moment
  abbrev pub IsCoreWorld : B → CoreWorld S B → Type 0
  IsCoreWorld first w = CoreStands past comes first w.log w.word (w.slot ∷ []) w.views

  -- in some consistent world, a step of this kind, which the thread k might make, found this word and took what the thread knows from c to d
  pub record IsCoreEvent (k : ℕ) (c : CorePart B) (kind : CoreKind S) (found : ℕ) (d : CorePart B) : Type 0 where
    pub world : CoreWorld S B
    pub stands : IsCoreWorld c.first world
    pub at : get_elem? world.views k ≡ some c
    pub may : step_may k c kind
    pub shows : world.word ≡ found
    pub after : d ≡ step_part found world.slot world.log k c kind

-- the world with the threads that each token acts for
pub record CoreDealing (S B : Type 0) : Type 0 where
  pub world : CoreWorld S B
  pub hands : List (Hand (CorePart B))

module _ {S B : Type 0} (past : S → History) (room : S → ℕ) (comes : B → S → Type 0) where
  -- a token of one thread makes a step, or hands of threads are split and joined
  abbrev pub CoreDealingStep : CoreDealing S B → DealingEvent (CoreKind S) → CoreDealing S B → Type 0
  CoreDealingStep d (acts id kind) t = (k : ℕ) × (c : CorePart B) × (get_elem? d.hands id ≡ some (place k c ∷ [])) × step_may past room comes k c kind
      × (t ≡ record { world = world_after past room comes d.world k c kind; hands = slice_set d.hands id (place k (step_part past room comes d.world.word d.world.slot d.world.log k c kind) ∷ []) })
  CoreDealingStep d (cuts id) t = (hand : Hand (CorePart B)) × (get_elem? d.hands id ≡ some hand) × (t ≡ record { world = d.world; hands = slice_set d.hands id (first_of hand) ++ rest_of hand ∷ [] })
  CoreDealingStep d (gathers id other) t = (hand theirs : Hand (CorePart B)) × (get_elem? d.hands id ≡ some hand) × (other ≢ id) × (get_elem? d.hands other ≡ some theirs)
      × (t ≡ record { world = d.world; hands = slice_set (slice_set d.hands id (hand ++ theirs)) other [] })

  -- what lies in the slot at the opening, and one hand has all threads of its board
  abbrev pub opened_core : B → S → CoreDealing S B
  opened_core first y =
      let views = replicate (threads_of (past y)) (newcomer_part (past y) first) in
      record { world = record { word = 0; slot = some (Some y); log = []; views = views }; hands = hand_from 0 views ∷ [] }

  -- the world is consistent, no thread is in two hands, and each hand has the views of its threads
  abbrev pub StandsDealt : B → CoreDealing S B → Type 0
  StandsDealt first d = IsCoreWorld past room comes first d.world × Deals d.world.views d.hands
