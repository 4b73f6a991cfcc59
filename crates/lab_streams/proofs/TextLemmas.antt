-- The bytes that are read up to a bound.
use Rattle.std.proofs.Common.{arith, ◌≡◌, ◌∙◌, ℕ, ◌<◌, ◌≤◌, min, List, length, length-take, take_all, Option, Some, None, Result, Ok, Err, IfOk, IfErr, ap}
use Rattle.evl_shell.specs.Readings.{IsFrontOf}
use Rattle.lab_streams.specs.Readings.{IsTooLong, most_bytes}
use Rattle.lab_streams.specs.Texts.{IsAllOf}

-- what is read up to a bound and doesn't reach it is all
all_read : (most : ℕ) (known : Option (List ℕ)) (read text : List ℕ) → text ≡ read → length text < most → IsFrontOf most known read → IsAllOf known text
all_read most None read text same short front = tt
all_read most (Some bytes) read text same short front =
    let cut = length-take most bytes in
    let long : length text ≡ min most (length bytes) = ap length (same ∙ front) ∙ cut in
    same ∙ front ∙ take_all most bytes (by (length bytes) long)
  where
    by : (n : ℕ) → length text ≡ min most n → n ≤ most
    by n long = omega (arith, long, short)

-- and what reaches it is longer
more_read : (most : ℕ) (known : Option (List ℕ)) (read : List ℕ) → most_bytes < length read → IsFrontOf most known read → IsTooLong known
more_read most None read long front = tt
more_read most (Some bytes) read long front =
    let cut : length read ≡ min most (length bytes) = ap length front ∙ length-take most bytes in
    omega (arith, long, cut)

pub all_of_bounded : {V E : Type 0} (items : V → List ℕ) (known : Option (List ℕ)) (read : List ℕ) (r : Result V E) → IsFrontOf 67108865 known read
    → IfOk r (λ t. items t ≡ read) → IfOk r (λ t. length (items t) ≤ most_bytes) → IfOk r (λ t. IsAllOf known (items t))
all_of_bounded items known read (Ok t) front same few = all_read 67108865 known read (items t) same (omega (arith, few)) front
all_of_bounded items known read (Err e) front same few = tt

pub long_of_bounded : {V E : Type 0} (P : E → Type 0) (known : Option (List ℕ)) (read : List ℕ) (r : Result V E) → IsFrontOf 67108865 known read
    → IfErr r (λ e. most_bytes < length read) → IfErr r (λ e. P e → IsTooLong known)
long_of_bounded P known read (Ok t) front long = tt
long_of_bounded P known read (Err e) front long = λ is. more_read 67108865 known read long front
