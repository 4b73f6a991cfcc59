-- Words of bits that are compared place by place.
use Rattle.std.proofs.Common.{◌≡◌, ℕ, ◌+◌, ◌*◌, ◌^◌, ◌<◌, ◌==◌, Bool, List, length, slice_index, sym, ap, ◌∙◌, arith}
use Rattle.std.proofs.lemmas.Bool.Decides.{nat_tests}
use Rattle.std.proofs.lemmas.Nat.Bits.{bit_at-lt, same_from_bits_below}
use Rattle.std.specs.Int.{bit_at}
use Rattle.evl_bitmap.specs.Bits.{has}
use Rattle.evl_bitmap.specs.NumberSet.{contains}
use Rattle.evl_bitmap.specs.Numbers.{Bounded, numbers, holds}
use Rattle.evl_bitmap.proofs.BitmapLaws.{held}
use Rattle.evl_bitmap.proofs.NumbersLaws.{contains-numbers}

by_test : (x y : ℕ) → x < 2 → y < 2 → (x == 1) ≡ (y == 1) → x ≡ y
by_test x y l m e = grind (arith, nat_tests)

bit-same : (a b i : ℕ) → has a i ≡ has b i → bit_at a i ≡ bit_at b i
unfolding has
bit-same a b i e = by_test (bit_at a i) (bit_at b i) (bit_at-lt a i) (bit_at-lt b i) e

-- two words with the same bits are one
pub word-same : (a b : ℕ) → a < 2 ^ 32 → b < 2 ^ 32 → ((place : ℕ) → place < 32 → has a place ≡ has b place) → a ≡ b
word-same a b fits too same = same_from_bits_below 32 a b fits too (λ i l. bit-same a b i (same i l))

-- two sets that are one have the same tests
pub same-tests : (p q : ℕ → Bool) (limit : ℕ) → numbers p limit ≡ numbers q limit → (n : ℕ) → n < limit → p n ≡ q n
same-tests p q limit e n l = sym (contains-numbers p limit n l) ∙ ap (λ s. contains s n) e ∙ contains-numbers q limit n l

-- the set that the words are
abbrev pub set_of : List ℕ → Bounded
set_of words = record { limit = 32 * length words; members = numbers (holds words) (32 * length words) }

module _ (xs ys : List ℕ) where
  -- the bits of the words in one place
  pub bits-at : (n : ℕ) → n < length xs → ((number : ℕ) → number < 32 * length xs → holds xs number ≡ holds ys number) → (place : ℕ) → place < 32
      → has (slice_index xs n) place ≡ has (slice_index ys n) place
  bits-at n inside same place l = sym (held xs n place l) ∙ same (32 * n + place) (omega (arith, inside, l)) ∙ held ys n place l

  -- what one set says of the words
  pub set-long : set_of xs ≡ set_of ys → length xs ≡ length ys
  set-long e = let limits : 32 * length xs ≡ 32 * length ys = ap (λ b. b.limit) e in omega (arith, limits)

  pub set-held : set_of xs ≡ set_of ys → (number : ℕ) → number < 32 * length xs → holds xs number ≡ holds ys number
  set-held e number l =
      sym (contains-numbers (holds xs) (32 * length xs) number l) ∙ ap (λ b. contains b.members number) e
      ∙ contains-numbers (holds ys) (32 * length ys) number (omega (arith, l, set-long e))
