use Rattle.std.proofs.Common.{◌∙◌, List, ℕ, None, ap}
use Rattle.evl_scenario.specs.Scenarios.{scenario_of}
use Rattle.evl_scenario.specs.Writings.{script_of_history}
use Rattle.lab_lines.proofs.TextLaws.{unlined_so, written_so}
use Rattle.lab_lines.proofs.writing.write_compared.Goals as goal

pub returns-in-Ok-clause-written : goal.returns-in-Ok-clause-written
returns-in-Ok-clause-written c =
    let script = script_of_history c.args.board.now c.args.limit c.args.entries.now in
    let reads = ap (λ (l : List ℕ). scenario_of None l) c.as_str.ensures.value ∙ c.in-Ok.ensures.reads_back in
    written_so (λ new. new.items) c.compared.result script c.as_str.result.now c.args.text.items c.requires reads c.compared.ensures.same c.compared.ensures.means

pub returns-in-Ok-clause-refused : goal.returns-in-Ok-clause-refused
returns-in-Ok-clause-refused c =
    let script = script_of_history c.args.board.now c.args.limit c.args.entries.now in
    unlined_so c.compared.result script c.as_str.result.now c.args.text.items c.requires (c.as_str.ensures.value ∙ c.in-Ok.ensures.text) c.compared.ensures.refused
