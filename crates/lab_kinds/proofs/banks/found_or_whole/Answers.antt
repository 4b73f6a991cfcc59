use Rattle.std.proofs.Common.{◌≡◌, length, arith}
use Rattle.std.proofs.lemmas.Bool.Decides.{eqb_tells}
use Rattle.lab_kinds.proofs.BankLaws.{some_told, whole_told}
use Rattle.lab_kinds.proofs.banks.found_or_whole.Goals as goal

pub returns-then-is_empty : goal.returns-then-is_empty
returns-then-is_empty c =
    let none : length c.in_ok-found.found.items ≡ 0 = grind (arith, eqb_tells, c.is_empty.ensures, c.if-is_empty.true) in
    whole_told _ _ c.in_ok-found.found.items _ _ c.in_ok-found.ensures none c.in_ok-whole.ensures

pub returns : goal.returns
returns c =
    let some : length c.in_ok-found.found.items ≡ 0 → ⊥ = λ none. grind (arith, eqb_tells, none, c.is_empty.ensures, c.if-is_empty.false) in
    some_told _ _ c.in_ok-found.found.items _ c.in_ok-found.ensures some
