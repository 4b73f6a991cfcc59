-- A mutex's word says what was packed into it, and how each step changes it.
use Rattle.std.proofs.Common.{◌≡◌, ℕ, ◌+◌, ◌-◌, ◌*◌, ◌/◌, ◌%◌, ◌^◌, ◌<◌, ◌≢◌, eqb, eq-eqb, ne_eqb, Bool, true, false, refl, sym, ap, ◌∙◌, arith}
use Rattle.std.specs.Int.Bits.{and_block, or_block, or_zero_r}
use Rattle.std.proofs.lemmas.Nat.{and_mask}
use Rattle.std.proofs.lemmas.Nat.Bits.{and_high}
use mathlib.Core.Logic.{dite}
use native.Mathlib.Decide.{ℕ_discrete}
use Rattle.std.specs.Prelude.{bit_and, bit_or}
use Rattle.evl_base.specs.Limits.{thread_limit}
use Rattle.evl_words.specs.declared.mutex.MutexReply.TheVariants.{Queued}
use Rattle.evl_words.specs.Mutex.{Mutex, unowned, seized, owned, offered, is_offered, claim_answer, claimed_word}
use Rattle.evl_words.specs.MutexBits.{mutex_word, claim_bit, offer_word, number_in, offers_to, claim_reply}
use Rattle.evl_words.specs.MutexWorld.{NamesBelow}

pub zero_is : (m : Mutex) → mutex_word m ≡ 0 → m ≡ unowned
zero_is unowned e = refl
zero_is (seized h) e = absurd (omega arith)
zero_is (owned h marked) e = absurd (omega arith)
zero_is (offered h marked) e = absurd (omega arith)

pub number_in-owned : (h : ℕ) (marked : Bool) → h < thread_limit → number_in (h + 1 + claim_bit marked) ≡ h + 1
number_in-owned h false small = omega arith
number_in-owned h true small = omega arith

number_in-offered : (h : ℕ) (marked : Bool) → h < thread_limit → number_in (offer_word h marked) ≡ h + 1
number_in-offered h false small = omega arith
number_in-offered h true small = omega arith

-- a claim is answered as the mutex answers it
queued_reply : (word h : ℕ) → word ≢ 0 → number_in word ≡ h + 1 → claim_reply word ≡ Queued h
queued_reply word h ne number =
    let other : number_in word ≢ 0 = λ e. absurd (omega arith) in
    let less : number_in word - 1 ≡ h = omega arith in
    rw (ne_eqb word 0 ne) (rw (ne_eqb (number_in word) 0 other) (ap (λ n. Queued n) less))

pub claim_reply-word : (m : Mutex) → NamesBelow thread_limit m → claim_reply (mutex_word m) ≡ claim_answer m
claim_reply-word unowned small = refl
claim_reply-word (seized h) small = refl
claim_reply-word (owned h marked) small = queued_reply (mutex_word (owned h marked)) h (λ e. absurd (omega arith)) (number_in-owned h marked small)
claim_reply-word (offered h marked) small = queued_reply (mutex_word (offered h marked)) h (λ e. absurd (omega arith)) (number_in-offered h marked small)

no_offer : (word k : ℕ) → word / 1073741824 % 2 ≡ 0 → offers_to word k ≡ false
no_offer word k e = rw e refl

same_number : (h k : ℕ) → eqb (h + 1) (k + 1) ≡ eqb h k
same_number h k = dite (ℕ_discrete h k)
    (λ (e : h ≡ k). let e' : h + 1 ≡ k + 1 = omega arith in eq-eqb (h + 1) (k + 1) e' ∙ sym (eq-eqb h k e))
    (λ (ne : h ≢ k). let ne' : h + 1 ≢ k + 1 = λ e. ne (omega arith) in ne_eqb (h + 1) (k + 1) ne' ∙ sym (ne_eqb h k ne))

-- the word offers the mutex to whom the mutex is offered to
pub offers_to-word : (m : Mutex) (k : ℕ) → NamesBelow thread_limit m → offers_to (mutex_word m) k ≡ is_offered m k
offers_to-word unowned k small = refl
offers_to-word (seized h) k small = refl
offers_to-word (owned h false) k small = no_offer (h + 1 + 0) k (omega arith)
offers_to-word (owned h true) k small = no_offer (h + 1 + 2147483648) k (omega arith)
offers_to-word (offered h marked) k small =
    let one : offer_word h marked / 1073741824 % 2 ≡ 1 = bit marked in
    rw one (ap (λ n. eqb n (k + 1)) (number_in-offered h marked small) ∙ same_number h k)
  where
    bit : (b : Bool) → offer_word h b / 1073741824 % 2 ≡ 1
    bit false = omega arith
    bit true = omega arith

-- the mark lies above the rest of the word
or_mark : (low : ℕ) (marked : Bool) → low < 2147483648 → bit_or (low + claim_bit marked) 2147483648 ≡ low + 2147483648
or_mark low false small = ap (λ n. bit_or n 2147483648) (let e : low + 0 ≡ 0 * 2 ^ 31 + low = omega arith in e) ∙ or_block 31 0 1 low 0 small (omega arith) ∙ (let z = or_zero_r low in let e : 1 * 2 ^ 31 + bit_or low 0 ≡ low + 2147483648 = omega arith in e)
or_mark low true small = ap (λ n. bit_or n 2147483648) (let e : low + 2147483648 ≡ 1 * 2 ^ 31 + low = omega arith in e) ∙ or_block 31 1 1 low 0 small (omega arith) ∙ (let z = or_zero_r low in let e : 1 * 2 ^ 31 + bit_or low 0 ≡ low + 2147483648 = omega arith in e)

pub mark-word : (m : Mutex) (k : ℕ) → NamesBelow thread_limit m → bit_or (mutex_word m) 2147483648 ≡ mutex_word (claimed_word m k)
mark-word unowned k small = refl
mark-word (seized h) k small = refl
mark-word (owned h marked) k small = or_mark (h + 1) marked (omega arith)
mark-word (offered h marked) k small = or_mark (h + 1 + 1073741824) marked (omega arith)

-- the offer's bit goes
and_rest : (hi low : ℕ) → low < 1073741824 → bit_and (hi * 2 ^ 30 + low) 18446744072635809791 ≡ bit_and hi 17179869182 * 2 ^ 30 + low
and_rest hi low small =
    let mask : bit_and low (2 ^ 30 - 1) ≡ low % 2 ^ 30 = and_mask low 30 in
    let same : bit_and low 1073741823 ≡ low = mask ∙ omega arith in
    and_block 30 hi 17179869182 low 1073741823 small (omega arith) ∙ ap (λ n. bit_and hi 17179869182 * 2 ^ 30 + n) same

pub accept-word : (h : ℕ) (marked : Bool) → h < thread_limit → bit_and (offer_word h marked) 18446744072635809791 ≡ mutex_word (owned h marked)
accept-word h false small = ap (λ n. bit_and n 18446744072635809791) (let e : h + 1 + 1073741824 + 0 ≡ 1 * 2 ^ 30 + (h + 1) = omega arith in e) ∙ and_rest 1 (h + 1) (omega arith) ∙ (let e : 0 * 2 ^ 30 + (h + 1) ≡ h + 1 + 0 = omega arith in e)
accept-word h true small = ap (λ n. bit_and n 18446744072635809791) (let e : h + 1 + 1073741824 + 2147483648 ≡ 3 * 2 ^ 30 + (h + 1) = omega arith in e) ∙ and_rest 3 (h + 1) (omega arith) ∙ (let e : 2 * 2 ^ 30 + (h + 1) ≡ h + 1 + 2147483648 = omega arith in e)

bit_30 : (n : ℕ) → bit_and n 1073741824 ≡ n / 1073741824 % 2 * 1073741824
bit_30 n = and_high n 1 30

-- what the word's bits say of an offer
pub bit_tells : (n k : ℕ) → bit_and n 1073741824 ≢ 0 → offers_to n k ≡ eqb (n % 65536) (k + 1)
bit_tells n k ne = let one : n / 1073741824 % 2 ≡ 1 = let b = bit_30 n in omega arith in rw one refl

pub no_bit_tells : (n k : ℕ) → bit_and n 1073741824 ≡ 0 → offers_to n k ≡ false
no_bit_tells n k e = no_offer n k (let b = bit_30 n in omega arith)
