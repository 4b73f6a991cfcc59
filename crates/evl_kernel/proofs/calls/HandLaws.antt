-- The recorded owners get the base ranks, and the scheduler gets the effective ones.
use Rattle.std.proofs.Common.{◌≡◌, ◌≢◌, ◌≤◌, ◌<◌, ℕ, zero, suc, ◌==◌, Bool, true, false, List, [], ◌∷◌, length, Option, Some, None, is_some, slice_index, slice_index_or, slice_set, refl, ap, ◌∙◌, subst, arith}
use Rattle.std.specs.Option.{option_map_or}
use Rattle.std.proofs.lemmas.Bool.{false≢true}
use Rattle.std.proofs.lemmas.Bool.Decides.{nat_tests}
use Rattle.std.proofs.lemmas.List.{get_or-set_other, get_or-set_same, length-set}
use Rattle.evl_sched.specs.Ranks.{Ranked, IsSoundSched, rank_of, with_given}
use Rattle.evl_sched.specs.Threads.{Sched, base_of, is_attached}
use Rattle.evl_base.specs.Limits.{thread_limit}
use Rattle.evl_kernel.specs.state.Records.{AreTold}

pub within : {A : Type 0} (xs : List (Option A)) (n : ℕ) → is_some (slice_index_or xs n None) ≡ true → n < length xs
within [] n e = absurd (false≢true e)
within (x ∷ xs) zero e = omega arith
within (x ∷ xs) (suc n) e = omega (arith, within xs n e)

-- an attached thread is one of the board
pub attached-low : (s : Sched) (thread : ℕ) → is_attached s thread ≡ true → thread < length s.seats
attached-low s thread attached = within s.seats thread attached

-- what an attached thread is given is its rank then
pub given-rank : (r : Ranked) (thread rank : ℕ) → IsSoundSched r → is_attached r.sched thread ≡ true → rank_of (with_given r thread (Some rank)) thread ≡ rank
given-rank r thread rank sound attached =
    let low : thread < length r.given = omega (arith, sound.same, attached-low r.sched thread attached) in
    ap (λ (given : Option ℕ). option_map_or (λ rank. rank) given (base_of r.sched thread)) (get_or-set_same r.given thread (Some rank) None low)

-- the recorded owners get the base rank of one thread
pub base-told : (base : List ℕ) (s : Sched) (thread : ℕ) → length base ≤ thread_limit → length s.seats ≤ length base → thread < length base
    → ((t : ℕ) → t ≢ thread → slice_index base t ≡ base_of s t) → AreTold (slice_set base thread (base_of s thread)) s
base-told base s thread size few there others = record {
  few = omega (arith, length-set base thread (base_of s thread), size);
  seats = omega (arith, length-set base thread (base_of s thread), few);
  same = λ t. by t (t == thread) refl;
}
  where
    by : (t : ℕ) (b : Bool) → (t == thread) ≡ b → slice_index (slice_set base thread (base_of s thread)) t ≡ base_of s t
    by t true is =
        let one : thread ≡ t = grind (arith, nat_tests) in
        subst (λ (m : ℕ). slice_index (slice_set base thread (base_of s thread)) m ≡ base_of s m) one (get_or-set_same base thread (base_of s thread) 0 there)
    by t false is =
        let other : t ≢ thread = λ e. absurd (grind (arith, nat_tests)) in
        get_or-set_other base thread t (base_of s thread) 0 other ∙ others t other
