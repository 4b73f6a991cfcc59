use Rattle.std.proofs.Common.{◌≡◌, ◌++◌, None, codes, decimal, option_map, refl}
use Rattle.std.specs.Prelude.{unwrap_or}
use Rattle.lab_streams.specs.Endings.{line_about}
use Rattle.lab_asks.specs.Orders.{state_told}
use Rattle.lab_streams.proofs.OutputLemmas.{said}
use Rattle.lab_asks.proofs.orders.tell_state.Goals as goal

pub returns-in-None-clause-writes : goal.returns-in-None-clause-writes
returns-in-None-clause-writes g c =
    let name = unwrap_or (option_map (λ file. file.now) c.args.asked.now.file) (codes "-") in
    rw c.in-None.is (said _ (λ output. output ≡ state_told name c.args.number c.args.callers.now c.args.ask.now c.args.answered.now.outcomes c.args.answered.now.against None) _ _ _ 2
    (line_about name (codes "no order leads to state " ++ decimal c.args.number)) c.tell_no_state.result refl (rw c.name-in-None.ensures at c.tell_no_state.ensures.line) c.tell_no_state.ensures.status)
