use Rattle.std.proofs.Common.{◌≡◌, length, arith}
use Rattle.std.proofs.lemmas.Bool.Decides.{eqb_tells}
use Rattle.lab_kinds.proofs.FoundLaws.{none_found, some_found}
use Rattle.lab_kinds.proofs.orders.found_around.Goals as goal

pub returns-then-is_empty : goal.returns-then-is_empty
returns-then-is_empty c =
    let none : length c.in_ok-found.found.items ≡ 0 = grind (arith, eqb_tells, c.is_empty.ensures, c.if-is_empty.true) in
    record {
      refused = λ fault is. absurd (none_found _ _ fault none c.in_ok-found.ensures.first is);
      read = λ is. c.in_ok-all.ensures;
    }

pub returns : goal.returns
returns c =
    let some : length c.in_ok-found.found.items ≡ 0 → ⊥ = λ none. grind (arith, eqb_tells, none, c.is_empty.ensures, c.if-is_empty.false) in
    record { refused = c.in_ok-found.ensures.told; read = λ is. absurd (some_found _ _ some c.in_ok-found.ensures.first is) }
