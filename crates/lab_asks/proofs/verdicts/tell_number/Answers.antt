use Rattle.std.proofs.Common.{◌≡◌, ◌∙◌, length, sym, true}
use Rattle.lab_scenario_orders.specs.Verdicts.{is_count_against}
use Rattle.lab_asks.proofs.verdicts.tell_number.Goals as goal

pub returns-then-is_count_against-clause-line : goal.returns-then-is_count_against-clause-line
returns-then-is_count_against-clause-line g c =
    let against : is_count_against c.in-Some.wanted c.args.found.now.whole (length c.args.found.now.all.items) ≡ true =
    rw (c.from.ensures, c.as_slice-outcomes.ensures.value) at (sym c.is_count_against.ensures ∙ c.if-is_count_against.true) in
    rw (c.in-Some.is, against, ← c.as_slice-outcomes.ensures.value) c.in_ok-writeln.ensures.bytes
