-- How a mutex is packed into its word: the owner's number, which is its seat's and one more, in bits 0 to 15, an offer in bit 30, and the claim mark in bit 31. The mark alone says that a seat has won and not yet settled.
use Rattle.std.specs.Prelude.{ℕ, ◌+◌, ◌-◌, ◌/◌, ◌%◌, ◌==◌, ◌&&◌, if◌then◌else◌, Bool, true, false}
use Rattle.evl_words.specs.declared.mutex.MutexReply.{MutexReply}
use Rattle.evl_words.specs.declared.mutex.MutexReply.TheVariants.{Won, Seizing, Queued}
use Rattle.evl_words.specs.Mutex.{Mutex, unowned, seized, owned, offered}

abbrev pub claim_bit : Bool → ℕ
claim_bit false = 0
claim_bit true = 2147483648

abbrev pub offer_word : ℕ → Bool → ℕ
offer_word next more = next + 1 + 1073741824 + claim_bit more

-- rule: Bits 0 to 15 are the owner's seat plus one, bit 30 an offer, bit 31 the claim mark. The mark without an owner
--   means won and not yet settled.
--   rows: a_claim_wins_a_free_mutex; a_claimed_mutex_is_handed_on; the_last_of_256_seats_has_the_number_256
abbrev pub mutex_word : Mutex → ℕ
mutex_word unowned = 0
mutex_word (seized h) = 2147483648
mutex_word (owned h marked) = h + 1 + claim_bit marked
mutex_word (offered h marked) = offer_word h marked

-- the owner's number in a word
abbrev pub number_in : ℕ → ℕ
number_in word = word % 65536

-- whether the word offers the mutex to a seat
abbrev pub offers_to : ℕ → ℕ → Bool
offers_to word seat = (word / 1073741824 % 2 == 1) && (number_in word == seat + 1)

-- what a claim on the word is answered
abbrev pub claim_reply : ℕ → MutexReply
claim_reply word = if word == 0 then Won else if number_in word == 0 then Seizing else Queued (number_in word - 1)
