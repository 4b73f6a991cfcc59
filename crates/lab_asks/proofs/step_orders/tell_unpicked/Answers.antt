use Rattle.std.proofs.Common.{true, false, codes, option_map, refl}
use Rattle.std.specs.Prelude.{unwrap_or}
use Rattle.lab_streams.specs.Endings.{line_about}
use Rattle.lab_asks.specs.StepOrders.{TellsPossible, TellsUnpicked, impossible_in}
use Rattle.lab_streams.proofs.OutputLemmas.{told, written_as}
use Rattle.lab_asks.proofs.step_orders.tell_unpicked.Goals as goal

pub returns-then-whole-clause-writes : goal.returns-then-whole-clause-writes
returns-then-whole-clause-writes g c =
    let name = unwrap_or (option_map (λ file. file.now) c.args.asked.now.file) (codes "-") in
    rw c.if-whole.true (told _ (TellsUnpicked c.args.asked.now.most c.args.asked.now.shown name c.args.crew.now c.args.ask.now true) _ _ _ (line_about name (codes "as_picked is for orders of whole calls"))
    c.tell_refused-told.result c.refused.result refl (rw c.name.ensures at c.tell_refused-told.ensures.line) c.refused.ensures.status)

pub returns-else-whole-clause-writes : goal.returns-else-whole-clause-writes
returns-else-whole-clause-writes g c =
    let name = unwrap_or (option_map (λ file. file.now) c.args.asked.now.file) (codes "-") in
    let most = c.args.asked.now.most in
    let one = c.args.asked.now.shown in
    let crew = c.args.crew.now in
    let ask = c.args.ask.now in
    rw c.if-whole.false (written_as _ (TellsUnpicked most one name crew ask false) _ _ _ _ (TellsPossible most one name crew ask (impossible_in crew ask)) c.tell_asked.result (λ output h. h) c.tell_asked.ensures.writes)
