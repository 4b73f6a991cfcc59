-- Nobody waits for bits that are there: bits that are taken satisfy nobody more.
use Rattle.std.proofs.Common.{◌≡◌, ℕ, zero, suc, ◌+◌, ◌%◌, ◌<◌, ◌==◌, min, bit_and, bit_xor, Bool, true, false, List, [], ◌∷◌, Option, Some, None, if◌then◌else◌, refl, sym, ap, ◌∙◌, arith}
use Rattle.std.specs.Int.{bit_at}
use Rattle.std.specs.Int.Bits.{and_self, and_zero_r}
use Rattle.std.proofs.lemmas.Nat.{and_assoc, and_comm}
use Rattle.std.proofs.lemmas.Nat.Bits.{bit_at_and, bit_at_xor, bit_at-lt, same_from_bits}
use Rattle.std.proofs.lemmas.Bool.Decides.{nat_tests}
use Rattle.std.proofs.lemmas.Bool.{false≢true, eqb-true}
use Rattle.evl_base.specs.declared.take.Take.{Take}
use Rattle.evl_base.specs.declared.take.Take.TheVariants.{Any, Of, Exact}
use Rattle.evl_sync.specs.declared.flag_waiter.FlagWaiter.{FlagWaiter}
use Rattle.evl_sync.specs.FlagGroups.{some_bits, bits_taken, left_of, waiter_passed, walk_of, Rests}

-- all bits of the one are in the other
abbrev AreIn : ℕ → ℕ → Type 0
AreIn fewer bits = bit_and fewer bits ≡ fewer

is_zero : (n : ℕ) → n ≡ 0 → some_bits n ≡ None
is_zero n e = rw e refl

none-zero : (n : ℕ) → some_bits n ≡ None → n ≡ 0
none-zero n e = by (n == 0) refl e
  where
    by : (b : Bool) → (n == 0) ≡ b → (if b then None else Some n) ≡ None → n ≡ 0
    by true at h = eqb-true n 0 at
    by false at h = cc

some-same : (n got : ℕ) → some_bits n ≡ Some got → n ≡ got
some-same n got e = by (n == 0) e
  where
    by : (b : Bool) → (if b then None else Some n) ≡ Some got → n ≡ got
    by true h = cc
    by false h = cc

-- one bit
bit_left : (x y : ℕ) → x < 2 → y < 2 → min x y ≡ y → min ((x + y) % 2) x ≡ (x + y) % 2
bit_left zero zero l k e = refl
bit_left zero (suc y) l k e = absurd (omega (arith, e))
bit_left (suc zero) zero l k e = refl
bit_left (suc zero) (suc zero) l k e = refl
bit_left (suc zero) (suc (suc y)) l k e = absurd (omega (arith, k))
bit_left (suc (suc x)) y l k e = absurd (omega (arith, l))

pub left_in : (bits got : ℕ) → bit_and bits got ≡ got → AreIn (bit_xor bits got) bits
left_in bits got h = same_from_bits _ _ (λ i.
    bit_at_and (bit_xor bits got) bits i ∙ ap (λ n. min n (bit_at bits i)) (bit_at_xor bits got i)
    ∙ bit_left (bit_at bits i) (bit_at got i) (bit_at-lt bits i) (bit_at-lt got i) (sym (bit_at_and bits got i) ∙ ap (λ n. bit_at n i) h)
    ∙ sym (bit_at_xor bits got i))

trans_in : (a b c : ℕ) → AreIn a b → AreIn b c → AreIn a c
trans_in a b c h k =
    ap (λ n. bit_and n c) (sym h) ∙ and_assoc c a b ∙ ap (λ n. bit_and a n) k ∙ h

-- what is taken was there
taken_there : (kind : Take) (bits got : ℕ) → bits_taken kind bits ≡ Some got → bit_and bits got ≡ got
taken_there Any bits got e = rw (← some-same bits got e) (and_self bits)
taken_there (Of mask) bits got e =
    rw (← some-same (bit_and bits mask) got e) (sym (and_assoc mask bits bits) ∙ ap (λ n. bit_and n mask) (and_self bits))
taken_there (Exact mask) bits got e = by (bit_and bits mask == mask) refl e
  where
    by : (b : Bool) → (bit_and bits mask == mask) ≡ b → (if b then Some mask else None) ≡ Some got → bit_and bits got ≡ got
    by true at h = let e : mask ≡ got = cc in rw (← e) (eqb-true (bit_and bits mask) mask at)
    by false at h = cc

-- who isn't satisfied by some bits isn't by fewer
pub none_fewer : (kind : Take) (fewer bits : ℕ) → AreIn fewer bits → bits_taken kind bits ≡ None → bits_taken kind fewer ≡ None
none_fewer Any fewer bits h e = is_zero fewer (sym h ∙ ap (λ n. bit_and fewer n) (none-zero bits e) ∙ and_zero_r fewer)
none_fewer (Of mask) fewer bits h e =
    is_zero (bit_and fewer mask) (ap (λ n. bit_and n mask) (sym h) ∙ and_assoc mask fewer bits ∙ ap (λ n. bit_and fewer n) (none-zero (bit_and bits mask) e) ∙ and_zero_r fewer)
none_fewer (Exact mask) fewer bits h e = by (bit_and fewer mask == mask) refl (bit_and bits mask == mask) refl e
  where
    more : bit_and fewer mask ≡ mask → bit_and bits mask ≡ mask
    more k = ap (λ n. bit_and bits n) (sym k) ∙ sym (and_assoc mask bits fewer) ∙ ap (λ n. bit_and n mask) (and_comm bits fewer ∙ h) ∙ k

    equal : (n m : ℕ) → n ≡ m → (n == m) ≡ true
    equal n m k = grind (arith, nat_tests)

    by : (b : Bool) → (bit_and fewer mask == mask) ≡ b → (d : Bool) → (bit_and bits mask == mask) ≡ d → (if d then Some mask else None) ≡ None → (if b then Some mask else None) ≡ None
    by false at d met k = refl
    by true at true met k = cc
    by true at false met k = absurd (false≢true (sym met ∙ equal (bit_and bits mask) mask (more (eqb-true (bit_and fewer mask) mask at))))

left_of_in : (kind : Take) (bits : ℕ) (o : Option ℕ) → bits_taken kind bits ≡ o → AreIn (left_of bits o) bits
left_of_in kind bits None e = and_self bits
left_of_in kind bits (Some got) e = left_in bits got (taken_there kind bits got e)

-- after fewer bits are there
pub rests-fewer : (ws : List FlagWaiter) (fewer bits : ℕ) → AreIn fewer bits → Rests bits ws → Rests fewer ws
rests-fewer [] fewer bits h r = tt
rests-fewer (w ∷ ws) fewer bits h r = (none_fewer w.kind fewer bits h r.0, rests-fewer ws fewer bits h r.1)

pub rests-taken : (kind : Take) (ws : List FlagWaiter) (bits got : ℕ) → bits_taken kind bits ≡ Some got → Rests bits ws → Rests (bit_xor bits got) ws
rests-taken kind ws bits got e r = rests-fewer ws (bit_xor bits got) bits (left_in bits got (taken_there kind bits got e)) r

walk-left_in : (ws : List FlagWaiter) (bits : ℕ) → AreIn (walk_of ws bits).left bits
walk-left_in [] bits = and_self bits
walk-left_in (w ∷ ws) bits = by (bits_taken w.kind bits) refl (walk-left_in ws (left_of bits (bits_taken w.kind bits)))
  where
    by : (o : Option ℕ) → bits_taken w.kind bits ≡ o → AreIn (walk_of ws (left_of bits o)).left (left_of bits o) → AreIn (waiter_passed w o (walk_of ws (left_of bits o))).left bits
    by None at h = h
    by (Some got) at h = trans_in (walk_of ws (bit_xor bits got)).left (bit_xor bits got) bits h (left_of_in w.kind bits (Some got) at)

-- after a walk, for the threads that waited before it
pub rests-walked : (ws : List FlagWaiter) (bits : ℕ) → Rests (walk_of ws bits).left (walk_of ws bits).waiting
rests-walked [] bits = tt
rests-walked (w ∷ ws) bits = by (bits_taken w.kind bits) refl (rests-walked ws (left_of bits (bits_taken w.kind bits)))
  where
    by : (o : Option ℕ) → bits_taken w.kind bits ≡ o → Rests (walk_of ws (left_of bits o)).left (walk_of ws (left_of bits o)).waiting
        → Rests (waiter_passed w o (walk_of ws (left_of bits o))).left (waiter_passed w o (walk_of ws (left_of bits o))).waiting
    by None at r = (none_fewer w.kind (walk_of ws bits).left bits (walk-left_in ws bits) at, r)
    by (Some got) at r = r
