-- Ends of texts.
use Rattle.std.proofs.Common.{arith, ◌≡◌, ℕ, ◌-◌, List, true, false, nat_eq, length, take, None, Some, sym, ◌∙◌, ap, subst}
use Rattle.std.specs.List.{ends_with}
use Rattle.std.specs.Str.{IsCharBoundary}
use Rattle.std.specs.Str.Pattern.{FindsTextSuffix, StripsSuffix}
use Rattle.std.proofs.lemmas.Str.Pattern.{ends_text}
use Rattle.lab_traces.specs.Parts.{before_end}

-- what is before an end that was found
pub before_end-found : (end text front : List ℕ) → StripsSuffix (FindsTextSuffix end) text front → Some front ≡ before_end end text
before_end-found end text front found =
    let ends : true ≡ ends_with nat_eq text end = ends_text true end text (found.0, found.1, omega (arith, found.3), let P : ℕ → Type 0 = λ n. IsCharBoundary text (length text - n) in subst P (sym found.1.0) found.1.2) in
    let same : front ≡ take (length text - length end) text = found.2 ∙ ap (λ (n : ℕ). take (length text - n) text) found.1.0 in
    rw (← ends, same)

-- nothing is before one that wasn't
pub before_end-missing : (end text : List ℕ) → FindsTextSuffix end text None → None ≡ before_end end text
before_end-missing end text missing =
    let ends : false ≡ ends_with nat_eq text end = ends_text false end text missing in
    rw (← ends)
