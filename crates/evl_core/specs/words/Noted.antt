-- All that a thread that has the kernel knows of the ties: what it took, what it found by a step on a mutex's word, and what it owes when it gives the kernel back.
use Rattle.std.specs.Prelude.{◌≡◌, ◌≢◌, ℕ, ◌<◌, Bool, true, false, [], ◌∷◌, Option, Some, None, Result, Ok, Err, ◌-◌}
use Rattle.evl_base.specs.declared.numbers.ThreadId.{ThreadId}
use Rattle.evl_base.specs.declared.refusal.Refusal.{Refusal}
use Rattle.evl_mutex.specs.Mutexes.{Mutex, is_open_to}
use Rattle.evl_kernel.specs.state.States.{State}
use Rattle.evl_kernel.specs.histories.Histories.{History}
use Rattle.evl_kernel.specs.calls.MutexEffects.{record_at}
use Rattle.evl_words.specs.declared.mutex.Claim.{Claim}
use Rattle.evl_words.specs.declared.mutex.MutexPass.{MutexPass}
use Rattle.evl_words.specs.MutexBits.{claim_reply, offers_to}
use Rattle.evl_words.specs.MutexCalls.{reply_of}
use Rattle.evl_words.specs.MutexWorld.{MutexDoes, MutexKind, MutexView, accepts, awaits, frees, offers, owns, step_word}
use Rattle.evl_core.specs.rule.Known.{ComesFrom, CoreHand, ceilings_of, first_of, mutex_count, past_of, room_of, taken_in, KernelMe}
use Rattle.evl_core.specs.words.MutexTokens.{note_in, part_of}
use Rattle.evl_core.specs.rule.Ties.{AreTied, StandsNoted}
use Rattle.evl_core.specs.rule.TieTells.{EventOf}
use Rattle.evl_core.specs.worlds.OneWorld.{OneKind, looks, on_word}
use Rattle.evl_core.specs.declared.views.ThreadView.{ThreadView}
use Rattle.evl_words.specs.Hands.{place}
use Rattle.atomic_table.specs.Table.{Step}
use Rattle.evl_kernel.specs.state.KernelViews.{KernelView}

-- how a word was found, by the thread's number: free or not, as a claim was answered, offered to the thread or not
abbrev pub Found : Type 1
Found = ℕ → ℕ → Type 0

abbrev pub FoundAny : Found
FoundAny k word = Unit {0}

abbrev pub FoundFree : Found
FoundFree k word = word ≡ 0

abbrev pub FoundTaken : Found
FoundTaken k word = word ≢ 0

abbrev pub FoundTried : Result MutexPass Refusal → Found
FoundTried (Ok pass) = FoundFree
FoundTried (Err refusal) = FoundTaken

abbrev pub FoundClaimed : Claim → Found
FoundClaimed told k word = reply_of told ≡ claim_reply word

abbrev pub FoundOffered : Bool → Found
FoundOffered offered k word = offers_to word k ≡ offered

abbrev pub is_done : {T : Type 0} → Result T Refusal → Bool
is_done (Ok done) = true
is_done (Err refusal) = false

abbrev pub is_refused : {T : Type 0} → Result T Refusal → Bool
is_refused (Ok done) = false
is_refused (Err refusal) = true

module _ {C : Type 0} where
  abbrev pub number_of : CoreHand C → ℕ
  number_of [] = 0
  number_of (p ∷ ps) = p.number

  -- which mutexes have a ceiling
  abbrev pub ceilings_in : CoreHand C → ℕ → Bool
  ceilings_in hand = ceilings_of (first_of hand)

  -- The thread has just taken a kernel with this history, and made no step on a word yet. No other owner is recorded of any mutex that it owns
  pub record HasTaken (thread : ℕ) (history : History) (hand : CoreHand C) : Type 0 where
    pub number : number_of hand ≡ thread
    pub taken : taken_in hand ≡ Some history
    pub fresh : note_in hand ≡ None
    pub owned : (i : ℕ) → i < mutex_count (first_of hand) → owns (part_of hand i).held.role ≡ true → (m : Mutex) → record_at history.state i ≡ Some m → is_open_to thread m ≡ true

  -- what stood of mutex i, whose word was this, by what the thread had noted
  abbrev pub Stood : CoreHand C → ℕ → ℕ → Type 0
  Stood hand i word = (h : History) → taken_in hand ≡ Some h → StandsNoted (ceilings_in hand) h.state i (note_in hand) word

  -- a token that acts for one thread made a step of this kind, which was an event of the one world
  pub record MakesOne (kind : OneKind (KernelView C)) (old new : CoreHand C) : Type 0 where
    pub number : ℕ
    pub before : ThreadView (KernelView C) MutexView
    pub after : ThreadView (KernelView C) MutexView
    pub one : old ≡ place number before ∷ []
    pub now : new ≡ place number after ∷ []
    pub found : ℕ
    pub event : EventOf past_of room_of ComesFrom ceilings_of mutex_count number before kind found after

  -- by a step of this kind on the word of mutex i the thread found it so, and noted what it left there
  pub record Notes (i : ℕ) (kind : MutexKind) (so : Found) (old new : CoreHand C) : Type 0 where
    pub found : ℕ
    pub does : MutexDoes (number_of old) (part_of old i) kind found (part_of new i)
    pub event : MakesOne (on_word i kind) old new
    pub found_so : so (number_of old) found
    pub stood : Stood old i found
    pub number : number_of new ≡ number_of old
    pub taken : taken_in new ≡ taken_in old
    pub first : first_of new ≡ first_of old
    pub note : note_in new ≡ Some (record { mutex = i; left = step_word found (number_of old) (part_of old i) kind })

  -- an acceptance is a look, and where that found the offer, the step that takes it
  abbrev pub NotesAccept : ℕ → Result MutexPass Refusal → CoreHand C → CoreHand C → Type 0
  NotesAccept i (Ok pass) old new = (between : CoreHand C) × Notes i awaits (FoundOffered true) old between × Notes i accepts FoundAny between new
  NotesAccept i (Err refusal) old new = Notes i awaits (FoundOffered false) old new

  -- the word was given to the next owner, or to nobody
  abbrev pub NotesGiven : ℕ → Option ThreadId → Bool → CoreHand C → CoreHand C → Type 0
  NotesGiven i (Some next) more old new = Notes i (offers next.0 more) FoundAny old new
  NotesGiven i None more old new = Notes i frees FoundAny old new

  -- what a give owes: whatever its word, what holds of each mutex by what the thread noted is tied to these records
  abbrev pub IsSettled : CoreHand C → State → Type 0
  IsSettled hand after = (h : History) → taken_in hand ≡ Some h → (i word : ℕ) → StandsNoted (ceilings_in hand) h.state i (note_in hand) word → AreTied (ceilings_in hand) after i word

  -- a look leaves what the token knows, and says what stood of the mutex; it is an event of the one world, of whichever thread is the token's first
  abbrev pub looked_known : Step (Option (KernelView C)) → KernelMe C → ℕ → KernelMe C → Type 0
  looked_known st m found n = (n ≡ m) × Stood m.0 (st.word - 1) found
      × ((k : ℕ) (v : ThreadView (KernelView C) MutexView) (others : CoreHand C) → m.0 ≡ place k v ∷ others → EventOf past_of room_of ComesFrom ceilings_of mutex_count k v (looks st.word) found v)
