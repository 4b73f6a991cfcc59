-- All that each word says of itself: the owner's number, the mark, an offer.
use Rattle.std.proofs.Common.{◌≡◌, ◌≢◌, ℕ, ◌+◌, ◌/◌, ◌%◌, ◌<◌, eqb, Bool, true, false, refl, sym, ap, ◌∙◌, arith}
use Rattle.evl_base.specs.Limits.{thread_limit}
use Rattle.evl_words.specs.Mutex as word
use Rattle.evl_words.specs.Mutex.{unowned, seized, owned, offered, is_offered, is_marked, claimed_word}
use Rattle.evl_words.specs.MutexBits.{mutex_word, offer_word, number_in, offers_to}
use Rattle.evl_words.specs.MutexWorld.{NamesBelow}
use Rattle.evl_words.proofs.MutexWords.{number_in-owned}
use Rattle.evl_core.specs.rule.Ties.{is_claimed, IsPlain}

pub number_in-offer : (h : ℕ) (marked : Bool) → h < thread_limit → number_in (offer_word h marked) ≡ h + 1
number_in-offer h false small = omega arith
number_in-offer h true small = omega arith

bit_is : (n b : ℕ) → n / 2147483648 % 2 ≡ b → is_claimed n ≡ eqb b 1
bit_is n b e = ap (λ x. eqb x 1) e

-- the word has the mark where the mutex is marked
pub claimed-word : (m : word.Mutex) → NamesBelow thread_limit m → is_claimed (mutex_word m) ≡ is_marked m
claimed-word unowned small = refl
claimed-word (seized h) small = refl
claimed-word (owned h false) small = bit_is (h + 1 + 0) 0 (omega arith)
claimed-word (owned h true) small = bit_is (h + 1 + 2147483648) 1 (omega arith)
claimed-word (offered h false) small = bit_is (h + 1 + 1073741824 + 0) 0 (omega arith)
claimed-word (offered h true) small = bit_is (h + 1 + 1073741824 + 2147483648) 1 (omega arith)

-- a plain word has no mark and no offer
pub plain_unclaimed : (n : ℕ) → IsPlain n → is_claimed n ≡ false
plain_unclaimed n small = bit_is n 0 (omega arith)

pub plain_offers : (n t : ℕ) → IsPlain n → offers_to n t ≡ false
plain_offers n t small = let e : n / 1073741824 % 2 ≡ 0 = omega arith in rw e refl

pub number_small : (k : ℕ) → k < thread_limit → number_in (k + 1) ≡ k + 1
number_small k small = omega arith

-- a claim leaves the number and the offer, and sets the mark
pub number-claimed : (m : word.Mutex) (k : ℕ) → NamesBelow thread_limit m → m ≢ unowned → number_in (mutex_word (claimed_word m k)) ≡ number_in (mutex_word m)
number-claimed unowned k small ne = absurd (ne refl)
number-claimed (seized h) k small ne = refl
number-claimed (owned h marked) k small ne = number_in-owned h true small ∙ sym (number_in-owned h marked small)
number-claimed (offered h marked) k small ne = number_in-offer h true small ∙ sym (number_in-offer h marked small)

pub marked-claimed : (m : word.Mutex) (k : ℕ) → is_marked (claimed_word m k) ≡ true
marked-claimed unowned k = refl
marked-claimed (seized h) k = refl
marked-claimed (owned h marked) k = refl
marked-claimed (offered h marked) k = refl

pub offered-claimed : (m : word.Mutex) (k t : ℕ) → is_offered (claimed_word m k) t ≡ is_offered m t
offered-claimed unowned k t = refl
offered-claimed (seized h) k t = refl
offered-claimed (owned h marked) k t = refl
offered-claimed (offered h marked) k t = refl

pub names-claimed : (n : ℕ) (m : word.Mutex) (k : ℕ) → k < n → NamesBelow n m → NamesBelow n (claimed_word m k)
names-claimed n unowned k here below = here
names-claimed n (seized h) k here below = below
names-claimed n (owned h marked) k here below = below
names-claimed n (offered h marked) k here below = below

-- the exchange of 0 for a seat's number, and that of its number for 0: the word stays, or it was plain and is
pub try_plain : (n k : ℕ) → k < thread_limit → n ≡ 0 → IsPlain n × IsPlain (k + 1)
try_plain n k small e = (omega arith, omega arith)

pub unlock_plain : (n k : ℕ) → k < thread_limit → n ≡ k + 1 → IsPlain n × IsPlain 0
unlock_plain n k small e = (omega arith, omega arith)
