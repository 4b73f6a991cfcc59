use Rattle.std.proofs.Common.{◌∙◌, List, ap, sym}
use Rattle.std.specs.Prelude.{position, string_bytes}
use Rattle.lab_orders.specs.declared.tallies.Tally.{Tally}
use Rattle.lab_orders.specs.Machines.{orders}
use Rattle.lab_scenario_orders.specs.Asks.{is_against}
use Rattle.lab_scenario_orders.specs.Callers.{first_seen, machine}
use Rattle.lab_scenario_orders.specs.Told.{told_text}
use Rattle.lab_scenario_orders.proofs.AskLaws.{no_order}
use Rattle.lab_scenario_orders.proofs.asking.ask_all.Goals as goal

pub returns-clause-none : goal.returns-clause-none
returns-clause-none g c = λ e.
    let callers = c.args.callers.now in
    no_order (told_text callers) (is_against c.args.ask.now) c.in-Ok.outcomes.all.items
    (orders (machine callers) (first_seen callers (g.B.BankMaker.bank c.args.bank.now)) c.in-Ok.outcomes.steps)
    c.in-Ok.ensures.outcomes.counted (ap (λ (all : List Tally). position (λ tally. is_against c.args.ask.now (string_bytes tally.told)) all) (sym c.as_slice-2.ensures.value) ∙ (sym c.first_against-against.ensures ∙ e))
