use Rattle.std.proofs.Common.{◌≡◌, ℕ, ◌++◌, ◌∙◌, List, ap, codes, decimal, length, subst, sym, true}
use Rattle.std.specs.Io.KnownBytes.{Appends}
use Rattle.lab_orders.specs.declared.tallies.Tally.{Tally}
use Rattle.lab_scenario_orders.specs.Verdicts.{is_count_against}
use Rattle.lab_asks.proofs.StepOrderLemmas.{counted_text}
use Rattle.lab_asks.proofs.step_orders.tell_number.Goals as goal

pub returns-then-is_count_against-clause-line : goal.returns-then-is_count_against-clause-line
returns-then-is_count_against-clause-line g c =
    let name = c.args.name.now in
    let found = c.args.found.now in
    let wanted = c.in-Some.wanted in
    let count : length c.as_slice-outcomes.result.now ≡ length found.all.items = ap (λ (all : List Tally). length all) c.as_slice-outcomes.ensures.value in
    let against : is_count_against wanted found.whole (length found.all.items) ≡ true =
    ap (λ (n : ℕ). is_count_against n found.whole (length found.all.items)) (sym c.from.ensures)
    ∙ (ap (λ (n : ℕ). is_count_against c.from.result found.whole n) (sym count)
    ∙ (sym c.is_count_against.ensures
    ∙ c.if-is_count_against.true)) in
    subst (λ (line : List ℕ). Appends (g.E.Stream.contents c.args.err.now) (g.E.Stream.contents c.writeln.new.self) line)
    (ap (λ (n : ℕ). codes "lab: " ++ (name ++ (codes ": outcomes: " ++ (decimal n ++ (codes ", and not " ++ (decimal wanted ++ codes "\n")))))) count
    ∙ sym (counted_text name c.args.ask.now found c.args.ask.now.outcomes wanted c.in-Some.is against)) c.in_ok-writeln.ensures.bytes
