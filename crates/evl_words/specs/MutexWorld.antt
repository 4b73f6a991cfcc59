-- The world of a mutex word, and the atomic steps that its callers make on it.
use Rattle.std.specs.Prelude.{◌≡◌, ◌⊎◌, ℕ, ◌+◌, ◌<◌, ◌≤◌, ◌==◌, if◌then◌else◌, Bool, true, false, bit_and, bit_or, List, [], ◌∷◌, length}
use mathlib.Core.Option.{some}
use lib.ListN.{get_elem?}
use prog.Atomic.{either}
use Rattle.evl_base.specs.Limits.{thread_limit}
use Rattle.evl_base.specs.declared.refusal.Refusal.TheVariants.{Again, Busy}
use Rattle.evl_words.specs.declared.history.View.{View}
use Rattle.evl_words.specs.declared.mutex.MutexHold.{MutexHold}
use Rattle.evl_words.specs.declared.mutex.MutexRole.{MutexRole}
use Rattle.evl_words.specs.declared.mutex.MutexRole.TheVariants.{Bystander, Winner, Waiter, Owner}
use Rattle.evl_words.specs.declared.mutex.MutexCall.{MutexCall}
use Rattle.evl_words.specs.declared.mutex.MutexCall.TheVariants.{Try, Unlock, Claim, Settle, Offer, Free, Accept, Forget, SeenOffer}
use Rattle.evl_words.specs.declared.mutex.MutexReply.{MutexReply}
use Rattle.evl_words.specs.declared.mutex.MutexReply.TheVariants.{Passed, Refused, Done, Claimed, Won, Seizing, Queued, Seen}
use Rattle.evl_words.specs.Machine.{Run}
use Rattle.evl_words.specs.History.{Looks, Appends, view_of}
use Rattle.evl_words.specs.Events.{World, Steps, IsWorld, Does}
use Rattle.evl_words.specs.Dealings.{Dealing}
use Rattle.evl_words.specs.Mutex.{Mutex, MutexEntry, MutexStep, unowned, seized, owned, offered, is_owner, is_seizing, is_offered}
use Rattle.evl_words.specs.MutexBits.{mutex_word, offer_word, offers_to, claim_reply}

abbrev pub MutexView : Type 0
MutexView = View MutexEntry MutexHold

abbrev pub MutexWorld : Type 0
MutexWorld = World MutexEntry MutexHold

abbrev pub MutexDealing : Type 0
MutexDealing = Dealing MutexEntry MutexHold

abbrev pub mutex_author : MutexEntry → ℕ
mutex_author e = e.by

abbrev pub mutex_entry : ℕ → MutexCall → MutexReply → MutexEntry
mutex_entry by call reply = record { by = by; call = call; reply = reply }

abbrev pub role_of : ℕ → MutexRole → MutexHold
role_of seats role = record { seats = seats; role = role }

-- the view of a seat that has seen nothing
abbrev pub newcomer : ℕ → MutexView
newcomer seats = view_of [] [] (role_of seats Bystander)

abbrev pub owns : MutexRole → Bool
owns Bystander = false
owns Winner = false
owns Waiter = false
owns Owner = true

abbrev pub wins : MutexRole → Bool
wins Bystander = false
wins Winner = true
wins Waiter = false
wins Owner = false

-- the seat owns the mutex, or has won it
abbrev pub HasIt : MutexView → Type 0
HasIt v = (owns v.held.role ≡ true) ⊎ (wins v.held.role ≡ true)

-- the seat that the mutex names, if any, is one of these
abbrev pub NamesBelow : ℕ → Mutex → Type 0
NamesBelow n unowned = Unit {0}
NamesBelow n (seized h) = h < n
NamesBelow n (owned h marked) = h < n
NamesBelow n (offered h marked) = h < n

-- rule: At most one seat owns a mutex or has won it. The mark without an owner shows a winner; the word names the
--   owner.
--   also: MutexWorld.HasIt; MutexRole
--   clauses: one_seat_has_the_mutex; mark_alone_shows_a_winner; word_names_the_owner
-- The word shows the mutex. The seat that owns it is its owner, and one that seized it its winner: so at most one seat is either
pub record MutexTie (found : ℕ) (m : Mutex) (held : List MutexHold) : Type 0 where
  pub few : length held ≤ thread_limit
  pub word : found ≡ mutex_word m
  pub counted : (seat : ℕ) (h : MutexHold) → get_elem? held seat ≡ some h → h.seats ≡ length held
  pub owner : (seat : ℕ) (h : MutexHold) → get_elem? held seat ≡ some h → is_owner m seat ≡ owns h.role
  pub winner : (seat : ℕ) (h : MutexHold) → get_elem? held seat ≡ some h → is_seizing m seat ≡ wins h.role
  pub below : NamesBelow (length held) m

-- what holds of a mutex word's world after any list of events
abbrev pub IsMutexWorld : MutexWorld → Type 0
IsMutexWorld = IsWorld mutex_author MutexStep unowned MutexTie

-- rule: The steps are two exchanges, a bitwise or, a swap, a load and a bitwise and.
--   also: MutexWorld.mutex_steps; MutexCalls.Accepts
-- `awaits` is the load before the step of `accepts`
pub data MutexKind : Type 0 where
  tries : MutexKind
  unlocks : MutexKind
  claims : MutexKind
  settles : MutexKind
  offers : ℕ → Bool → MutexKind
  frees : MutexKind
  asks : MutexKind
  forgets : MutexKind
  awaits : MutexKind
  accepts : MutexKind

-- at the end of this history the mutex is offered to the seat
abbrev pub EndsOffered : ℕ → List MutexEntry → Type 0
EndsOffered k log = (m : Mutex) × Run MutexStep unowned log m × (is_offered m k ≡ true)

-- rule: Only a seat that has won and not settled settles; only one with its pass, at depth 1, offers or frees.
--   also: MutexCalls.IsPassOf
--   clauses: MutexWord::{settle, offer, free}
-- An owner does not try. Only an owner gives the mutex up, to a seat or to nobody, only who won it settles, and only who has seen it offered to itself accepts it
abbrev pub step_may : ℕ → MutexView → MutexKind → Type 0
step_may k v tries = owns v.held.role ≡ false
step_may k v unlocks = v.held.role ≡ Owner
step_may k v claims = Unit {0}
step_may k v settles = v.held.role ≡ Winner
step_may k v (offers next more) = (v.held.role ≡ Owner) × (next < v.held.seats)
step_may k v frees = v.held.role ≡ Owner
step_may k v asks = Unit {0}
step_may k v forgets = Unit {0}
step_may k v awaits = Unit {0}
step_may k v accepts = EndsOffered k v.seen

abbrev pub step_word : ℕ → ℕ → MutexView → MutexKind → ℕ
step_word found k v tries = either (found == 0) (k + 1) found
step_word found k v unlocks = either (found == k + 1) 0 found
step_word found k v claims = bit_or found 2147483648
step_word found k v settles = k + 1
step_word found k v (offers next more) = offer_word next more
step_word found k v frees = 0
step_word found k v asks = found
step_word found k v forgets = found
step_word found k v awaits = found
step_word found k v accepts = bit_and found 18446744072635809791

abbrev pub step_entries : ℕ → ℕ → MutexView → MutexKind → List MutexEntry
step_entries found k v tries = mutex_entry k Try (if found == 0 then Passed else Refused Busy) ∷ []
step_entries found k v unlocks = mutex_entry k Unlock (if found == k + 1 then Done else Claimed) ∷ []
step_entries found k v claims = mutex_entry k Claim (claim_reply found) ∷ []
step_entries found k v settles = mutex_entry k Settle Passed ∷ []
step_entries found k v (offers next more) = mutex_entry k (Offer next more) Done ∷ []
step_entries found k v frees = mutex_entry k Free Done ∷ []
step_entries found k v asks = mutex_entry k SeenOffer (Seen (offers_to found k)) ∷ []
step_entries found k v forgets = mutex_entry k Forget (if offers_to found k then Refused Busy else Done) ∷ []
step_entries found k v awaits = if offers_to found k then [] else mutex_entry k Accept (Refused Again) ∷ []
step_entries found k v accepts = mutex_entry k Accept Passed ∷ []

-- a claim on a word with an owner makes its seat wait, unless it owns the mutex itself
abbrev pub queued_role : MutexRole → MutexRole
queued_role Bystander = Waiter
queued_role Winner = Waiter
queued_role Waiter = Waiter
queued_role Owner = Owner

-- rule: A claim after an owner makes a seat wait, unless it is the owner; one that wins makes it the winner. Forgetting
--   ends the wait.
--   also: MutexWorld.forgotten
--   rows: a_seat_may_wait_no_more
abbrev pub role_claimed : MutexReply → MutexRole → MutexRole
role_claimed Won role = Winner
role_claimed (Queued owner) role = queued_role role
role_claimed Seizing role = role
role_claimed Passed role = role
role_claimed (Refused refusal) role = role
role_claimed Done role = role
role_claimed Claimed role = role
role_claimed (Seen told) role = role

-- a waiting seat waits no more
abbrev pub forgotten : MutexRole → MutexRole
forgotten Bystander = Bystander
forgotten Winner = Winner
forgotten Waiter = Bystander
forgotten Owner = Owner

abbrev pub step_role : ℕ → ℕ → MutexRole → MutexKind → MutexRole
step_role found k role tries = if found == 0 then Owner else role
step_role found k role unlocks = if found == k + 1 then Bystander else role
step_role found k role claims = role_claimed (claim_reply found) role
step_role found k role settles = Owner
step_role found k role (offers next more) = Bystander
step_role found k role frees = Bystander
step_role found k role asks = role
step_role found k role forgets = if offers_to found k then role else forgotten role
step_role found k role awaits = role
step_role found k role accepts = Owner

abbrev pub step_held : ℕ → ℕ → MutexView → MutexKind → MutexHold
step_held found k v kind = role_of v.held.seats (step_role found k v.held.role kind)

abbrev pub mutex_steps : Steps MutexEntry MutexHold MutexKind
mutex_steps = record { may = step_may; word = step_word; entries = step_entries; held = step_held }

-- one step of the seat k, which is one event
abbrev pub MutexDoes : ℕ → MutexView → MutexKind → ℕ → MutexView → Type 0
MutexDoes = Does mutex_author MutexStep unowned MutexTie mutex_steps

abbrev pub MutexLooks : ℕ → MutexView → MutexView → Type 0
MutexLooks k v w = Looks mutex_author MutexStep unowned k v w

abbrev pub MutexAppends : ℕ → MutexView → MutexCall → MutexReply → MutexView → Type 0
MutexAppends k v call reply w = Appends mutex_author MutexStep unowned k v (mutex_entry k call reply) w
