-- A mutex word as a sequential machine.
use Rattle.std.specs.Prelude.{◌≡◌, ℕ, ◌==◌, if◌then◌else◌, Bool, true, false}
use Rattle.evl_base.specs.declared.refusal.Refusal.TheVariants.{Again, Busy}
use Rattle.evl_words.specs.declared.history.WordEntry.{WordEntry}
use Rattle.evl_words.specs.declared.mutex.MutexCall.{MutexCall}
use Rattle.evl_words.specs.declared.mutex.MutexCall.TheVariants.{Try, Unlock, Claim, Settle, Offer, Free, Accept, Forget, SeenOffer}
use Rattle.evl_words.specs.declared.mutex.MutexReply.{MutexReply}
use Rattle.evl_words.specs.declared.mutex.MutexReply.TheVariants.{Passed, Refused, Done, Claimed, Won, Seizing, Queued, Seen}
use Rattle.evl_words.specs.Machine.{Machine, IsStep}

abbrev pub MutexEntry : Type 0
MutexEntry = WordEntry MutexCall MutexReply

-- Nobody has it, or a seat has won it and not yet settled, or a seat owns it, or it is offered to a seat. The mark says that others wait
pub data Mutex : Type 0 where
  unowned : Mutex
  seized : ℕ → Mutex
  owned : ℕ → Bool → Mutex
  offered : ℕ → Bool → Mutex

-- rule: The winner settles. An owner offers, with the mark if more wait, or frees.
--   also: Mutex.mutex_change
--   rows: a_claimed_mutex_is_handed_on; a_seat_may_wait_no_more
-- Only an owner gives the mutex up, and only who won it settles
abbrev pub mutex_may : Mutex → ℕ → MutexCall → Type 0
mutex_may m by Try = Unit {0}
mutex_may m by Unlock = (marked : Bool) × (m ≡ owned by marked)
mutex_may m by Claim = Unit {0}
mutex_may m by Settle = m ≡ seized by
mutex_may m by (Offer next more) = (marked : Bool) × (m ≡ owned by marked)
mutex_may m by Free = (marked : Bool) × (m ≡ owned by marked)
mutex_may m by Accept = Unit {0}
mutex_may m by Forget = Unit {0}
mutex_may m by SeenOffer = Unit {0}

-- whether the mutex is offered to a seat
abbrev pub is_offered : Mutex → ℕ → Bool
is_offered unowned by = false
is_offered (seized h) by = false
is_offered (owned h marked) by = false
is_offered (offered h marked) by = h == by

abbrev pub is_marked : Mutex → Bool
is_marked unowned = false
is_marked (seized h) = true
is_marked (owned h marked) = marked
is_marked (offered h marked) = marked

-- rule: A try takes a free mutex by one exchange; any other mutex is `Busy`.
--   also: Mutex.tried_word
abbrev pub try_answer : Mutex → MutexReply
try_answer unowned = Passed
try_answer (seized h) = Refused Busy
try_answer (owned h marked) = Refused Busy
try_answer (offered h marked) = Refused Busy

-- rule: A claim wins a free mutex, finds another winner, or queues after the owner and sets the mark.
--   also: MutexRule.claimed
--   rows: a_claim_wins_a_free_mutex; an_offer_is_for_one_seat
abbrev pub claim_answer : Mutex → MutexReply
claim_answer unowned = Won
claim_answer (seized h) = Seizing
claim_answer (owned h marked) = Queued h
claim_answer (offered h marked) = Queued h

-- rule: Accepting takes what is offered to this seat and keeps the mark. Forgetting is refused while this seat is
--   offered it.
--   also: Mutex.mutex_change
--   rows: an_offer_is_for_one_seat; a_seat_may_wait_no_more
abbrev pub mutex_answer : Mutex → ℕ → MutexCall → MutexReply
mutex_answer m by Try = try_answer m
mutex_answer m by Unlock = if is_marked m then Claimed else Done
mutex_answer m by Claim = claim_answer m
mutex_answer m by Settle = Passed
mutex_answer m by (Offer next more) = Done
mutex_answer m by Free = Done
mutex_answer m by Accept = if is_offered m by then Passed else Refused Again
mutex_answer m by Forget = if is_offered m by then Refused Busy else Done
mutex_answer m by SeenOffer = Seen (is_offered m by)

abbrev pub tried_word : Mutex → ℕ → Mutex
tried_word unowned by = owned by false
tried_word (seized h) by = seized h
tried_word (owned h marked) by = owned h marked
tried_word (offered h marked) by = offered h marked

abbrev pub claimed_word : Mutex → ℕ → Mutex
claimed_word unowned by = seized by
claimed_word (seized h) by = seized h
claimed_word (owned h marked) by = owned h true
claimed_word (offered h marked) by = offered h true

abbrev pub mutex_change : Mutex → ℕ → MutexCall → Mutex
mutex_change m by Try = tried_word m by
mutex_change m by Unlock = if is_marked m then m else unowned
mutex_change m by Claim = claimed_word m by
mutex_change m by Settle = owned by false
mutex_change m by (Offer next more) = offered next more
mutex_change m by Free = unowned
mutex_change m by Accept = if is_offered m by then owned by (is_marked m) else m
mutex_change m by Forget = m
mutex_change m by SeenOffer = m

abbrev pub mutex_machine : Machine Mutex MutexCall MutexReply
mutex_machine = record { may = mutex_may; answer = mutex_answer; after = mutex_change }

abbrev pub MutexStep : Mutex → MutexEntry → Mutex → Type 0
MutexStep = IsStep mutex_machine

-- whether a seat owns the mutex
abbrev pub is_owner : Mutex → ℕ → Bool
is_owner unowned by = false
is_owner (seized h) by = false
is_owner (owned h marked) by = h == by
is_owner (offered h marked) by = false

-- whether a seat has won the mutex and not yet settled
abbrev pub is_seizing : Mutex → ℕ → Bool
is_seizing unowned by = false
is_seizing (seized h) by = h == by
is_seizing (owned h marked) by = false
is_seizing (offered h marked) by = false
