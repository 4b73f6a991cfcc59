-- In a longer time no less is asked for, so the first time that asks for no more than itself is found by rising to it.
use Rattle.std.proofs.Common.{◌≡◌, ℕ, ◌+◌, ◌*◌, ◌<◌, ◌≤◌, ◌/◌, ◌%◌, List, [], ◌∷◌, arith, min, zero, suc}
use Rattle.std.specs.Int.{div_ceil}
use Rattle.std.proofs.lemmas.Grind.{div_ceil_times}
use Rattle.std.proofs.Math.Nat.{div-zero, mod-zero, lt_of_mul-lt-mul_right, mul-le-mul_right}
use Rattle.lab_schedules.specs.Bounds.{IsResponse, asked_in, demand, sum_of}
use Rattle.lab_schedules.specs.declared.loads.Load.{Load}

times-within : (x y b : ℕ) → x * b < y * b + b → x ≤ y
times-within x y b less = omega (arith, lt_of_mul-lt-mul_right b {m = x} {n = y + 1} (grind (arith, less)))

rounded-up : (time other every : ℕ) → time ≤ other → div_ceil time every ≤ div_ceil other every
rounded-up time other zero within = rw (div-zero time, mod-zero time, div-zero other, mod-zero other) (omega (arith, within))
rounded-up time other (suc e) within =
    times-within (div_ceil time (suc e)) (div_ceil other (suc e)) (suc e) (omega (arith, within, div_ceil_times time (suc e) (omega arith), div_ceil_times other (suc e) (omega arith)))

asked-rises : (time other : ℕ) (l : Load) → time ≤ other → asked_in time l ≤ asked_in other l
asked-rises time other l within = mul-le-mul_right l.computes (rounded-up time other l.every within)

pub demand-rises : (time other own more : ℕ) (loads : List Load) → time ≤ other → own ≤ more → demand time own loads ≤ demand other more loads
demand-rises time other own more [] within above = above
demand-rises time other own more (l ∷ loads) within above =
    demand-rises time other (own + asked_in time l) (more + asked_in other l) loads within (omega (arith, above, asked-rises time other l within))

pub own-within : (time own : ℕ) (loads : List Load) → own ≤ demand time own loads
own-within time own [] = omega arith
own-within time own (l ∷ loads) = omega (arith, own-within time (own + asked_in time l) loads)

-- a response is no shorter than what a job counts as longer
pub late-within : (late own time : ℕ) (loads : List Load) → late ≤ 1 → IsResponse (sum_of own late) loads time → late ≤ time
late-within late own time loads few found = omega (arith, few, found.enough, own-within time (sum_of own late) loads)
