-- A mutex's word, as it is, and what a look at it shows the caller that has the kernel.
use Rattle.std.specs.Prelude.{◌≡◌, ℕ, ◌-◌, ◌/◌, ◌%◌, ◌==◌, Bool, true, false, Option, Some, None, if◌then◌else◌}
use Rattle.std.specs.Option.{option_map}
use Rattle.evl_base.specs.declared.numbers.ThreadId.{ThreadId}
use Rattle.evl_mutex.specs.Queues.{is_nobody}
use Rattle.evl_mutex.specs.Mutexes.{Mutex}
use Rattle.evl_words.specs.declared.mutex.Claim.{Claim}
use Rattle.evl_words.specs.declared.mutex.Claim.TheVariants.{Won, Queued, Seizing}
use Rattle.evl_words.specs.MutexBits.{number_in}
use Rattle.evl_kernel.specs.state.States.{State}
use Rattle.evl_kernel.specs.calls.MutexEffects.{record_at}
use Rattle.evl_machine.specs.declared.in_word.InWord.{InWord}
use Rattle.evl_core.specs.rule.Ties.{AreTied, is_claimed}
use Rattle.evl_core.specs.rule.Known.{CoreHand}
use Rattle.evl_core.specs.words.Noted.{Stood}

-- who owns a mutex, by what a claim is answered
abbrev pub owner_of : Claim → Option ThreadId
owner_of Won = None
owner_of (Queued owner) = Some owner
owner_of Seizing = None

-- what a word says
abbrev pub in_word : ℕ → InWord
in_word word = record { owner = if number_in word == 0 then None else Some (record { 0 = number_in word - 1 }); is_offered = word / 1073741824 % 2 == 1; is_claimed = is_claimed word }

-- whom a state has recorded as the owner of the mutex i is in its word, and where somebody waits for the mutex, so is the mark
abbrev pub Agrees : State → ℕ → InWord → Type 0
Agrees s i w = (m : Mutex) → record_at s i ≡ Some m → ((o : ℕ) → m.owner ≡ Some o → option_map (λ (t : ThreadId). t.0) w.owner ≡ Some o) × (is_nobody m.waiters ≡ false → w.is_claimed ≡ true)

-- It says what some word does that is tied to what a state has recorded of the mutex i
abbrev pub SaysTied : (ℕ → Bool) → State → ℕ → InWord → Type 0
SaysTied ceilings s i w = (word : ℕ) × (w ≡ in_word word) × AreTied ceilings s i word

module _ {C : Type 0} where
  -- it is what the word of the mutex i said when this stood of it
  abbrev pub IsRead : CoreHand C → ℕ → InWord → Type 0
  IsRead hand i w = (word : ℕ) × (w ≡ in_word word) × Stood hand i word
