-- All that lines say, line by line.
use Rattle.std.proofs.Common.{◌≡◌, ◌∙◌, ◌⊎◌, inl, inr, ◌+◌, ◌<◌, Bor, List, ℕ, drop, get_or, length, map, Option, None, Result, Err, sym, ap}
use Rattle.std.proofs.lemmas.List.{drop_more}
use Rattle.lab_lines.specs.Texts.{Gathered, IsAt, and_then, gathered, nothing_said, said_of, with_said}
use Rattle.lab_lines.specs.declared.texts.LinesFault.{LinesFault}
use Rattle.lab_lines.specs.declared.texts.LinesFault.TheVariants as fault

-- where one line can't be added, that is the first
pub gather_stops : (all : List (Bor (List ℕ))) (at : ℕ) (d : Bor (List ℕ)) (old : Gathered) (whole : Result Gathered ℕ) → at < length all
    → gathered (at + 1) old (map (λ line. line.now) (drop at all)) ≡ whole → with_said old (said_of (get_or all at d).now) ≡ None → whole ≡ Err (at + 1)
gather_stops all at d old whole less before none =
    let rest : List (List ℕ) = map (λ line. line.now) (drop (at + 1) all) in
    sym before ∙ ap (λ (ls : List (Bor (List ℕ))). gathered (at + 1) old (map (λ line. line.now) ls)) (drop_more all at d less)
    ∙ ap (λ (o : Option Gathered). and_then (at + 1) (λ next. gathered (at + 1 + 1) next rest) o) none

pub first_refused : (all : List (Bor (List ℕ))) (at : ℕ) (d : Bor (List ℕ)) (old : Gathered) (e : LinesFault) → at < length all
    → gathered (at + 1) old (map (λ line. line.now) (drop at all)) ≡ gathered 1 nothing_said (map (λ line. line.now) all)
    → (e ≡ fault.Memory) ⊎ (IsAt (at + 1) e × (with_said old (said_of (get_or all at d).now) ≡ None))
    → (e ≡ fault.Memory) ⊎ ((number : ℕ) × IsAt number e × (gathered 1 nothing_said (map (λ line. line.now) all) ≡ Err number))
first_refused all at d old e less before (inl memory) = inl memory
first_refused all at d old e less before (inr (here, none)) = inr (at + 1, here, gather_stops all at d old _ less before none)
