-- The tie between a mutex's word and what the kernel records of the mutex. While a thread has the kernel, it is what was recorded when it took it; and of the one mutex on whose word that thread has made a step since, it is the word that it last left there.
use Rattle.std.specs.Prelude.{◌≡◌, ◌≢◌, ℕ, ◌+◌, ◌<◌, ◌/◌, ◌%◌, ◌==◌, Bool, true, false, ◌⊎◌, ◌∷◌, [], List, Option, Some, None, is_some, MatchBool}
use mathlib.Core.Option.{some}
use lib.ListN.{get_elem?}
use Rattle.evl_mutex.specs.Queues.{is_nobody}
use Rattle.evl_mutex.specs.Mutexes.{Mutex, has_ceiling}
use Rattle.evl_words.specs.MutexBits.{number_in, offers_to}
use Rattle.evl_kernel.specs.state.States.{State}
use Rattle.evl_kernel.specs.histories.Histories.{History}
use Rattle.evl_kernel.specs.calls.MutexEffects.{record_at, has_got}
use Rattle.evl_core.specs.declared.views.CorePart.{CorePart}
use Rattle.evl_core.specs.declared.views.Noted.{Noted}
use Rattle.evl_core.specs.rule.CoreRule.{Homes}
use Rattle.evl_core.specs.rule.ThreadRule.{Tie}

-- the word has the claim mark
abbrev pub is_claimed : ℕ → Bool
is_claimed word = word / 2147483648 % 2 == 1

-- it has neither mark nor offer: nobody's, or an owner's that nobody claims
abbrev pub IsPlain : ℕ → Type 0
IsPlain word = word < 1073741824

-- The recorded owner is the one in the word, owner or offered to. The word has the mark where somebody waits; and where nobody does, only a mutex with a ceiling has a recorded owner. With a ceiling, who is in the word is recorded; and a mark doesn't stand without somebody
pub record OwnerTie (m : Mutex) (word : ℕ) : Type 0 where
  pub named : (o : ℕ) → m.owner ≡ Some o → number_in word ≡ o + 1
  pub marked : is_nobody m.waiters ≡ false → is_claimed word ≡ true
  pub raised : is_nobody m.waiters ≡ true → is_some m.owner ≡ true → has_ceiling m ≡ true
  pub ceiled : has_ceiling m ≡ true → (o : ℕ) → number_in word ≡ o + 1 → m.owner ≡ Some o
  pub peopled : is_claimed word ≡ true → number_in word ≢ 0

-- the word offers the mutex to just those whose unfinished waits for it were ended by getting it
abbrev pub OfferTie : (ℕ → Bool) → ℕ → Type 0
OfferTie got word = (t : ℕ) → offers_to word t ≡ got t

pub record IsTied (m : Mutex) (got : ℕ → Bool) (word : ℕ) : Type 0 where
  pub owner : OwnerTie m word
  pub offer : OfferTie got word

-- The mutex i, where there is one, has a ceiling as it was made, and is tied to this word
abbrev pub AreTied : (ℕ → Bool) → State → ℕ → ℕ → Type 0
AreTied ceilings s i word = (m : Mutex) → record_at s i ≡ Some m → (has_ceiling m ≡ ceilings i) × IsTied m (has_got s i) word

-- The word that the holder last left there is there still. But others may have tried and unlocked since, where that needs no kernel
abbrev pub IsLeft : Bool → ℕ → ℕ → Type 0
IsLeft ceiling left word = (word ≡ left) ⊎ ((ceiling ≡ false) × IsPlain left × IsPlain word)

-- what holds of the mutex i while a thread has the kernel, by its note and by what was recorded when it took it
abbrev pub StandsNoted : (ℕ → Bool) → State → ℕ → Option Noted → ℕ → Type 0
StandsNoted ceilings s i None word = AreTied ceilings s i word
StandsNoted ceilings s i (Some note) word = MatchBool (note.mutex == i) (IsLeft (ceilings i) note.left word) (AreTied ceilings s i word)

-- The tie of the mutex i reads the core's word, its slot, what its holder has noted, and the mutex's word
pub record MutexTied {S B : Type 0} (past : S → History) (ceilings : ℕ → Bool) (i : ℕ) (n : ℕ) (homes : Homes S) (cores : List (CorePart B)) (word : ℕ) : Type 0 where
  pub free : (y : S) → homes ≡ some (Some y) ∷ [] → AreTied ceilings (past y).state i word
  pub taken : (k : ℕ) (c : CorePart B) (h : History) → get_elem? cores k ≡ some c → c.taken ≡ Some h → StandsNoted ceilings h.state i c.note word

abbrev pub mutex_tie : {S B : Type 0} → (S → History) → (ℕ → Bool) → Tie S B
mutex_tie past ceilings = MutexTied past ceilings

-- The dues of a give: whatever the word, what stood of each mutex, by what the thread noted, is tied to what it gives back
abbrev pub Settled : {B : Type 0} → (ℕ → Bool) → CorePart B → History → State → Type 0
Settled ceilings c before after = (i word : ℕ) → StandsNoted ceilings before.state i c.note word → AreTied ceilings after i word
