use Rattle.std.proofs.Common.{None, Some, codes, option_map, refl}
use Rattle.std.specs.Prelude.{unwrap_or}
use Rattle.lab_asks.specs.Asks.{impossible_text}
use Rattle.lab_asks.specs.StepOrders.{TellsGone, TellsPossible, told_for}
use Rattle.lab_streams.proofs.OutputLemmas.{told, written_as}
use Rattle.lab_asks.proofs.step_orders.tell_possible.Goals as goal

pub returns-in-None-clause-writes : goal.returns-in-None-clause-writes
returns-in-None-clause-writes g c =
    let name = unwrap_or (option_map (λ file. file.now) c.args.asked.now.file) (codes "-") in
    let most = c.args.asked.now.most in
    let one = c.args.asked.now.shown in
    rw c.in-None.is (written_as _ (TellsPossible most one name c.args.crew.now c.args.ask.now None) _ _ _ _ (TellsGone most name c.args.crew.now c.args.ask.now (told_for one)) c.tell_gone.result
    (λ output h. h) c.tell_gone.ensures.writes)

pub returns-in-Some-clause-writes : goal.returns-in-Some-clause-writes
returns-in-Some-clause-writes g c =
    let name = unwrap_or (option_map (λ file. file.now) c.args.asked.now.file) (codes "-") in
    let never = c.in-Some.never.now in
    rw c.in-Some.is (told _ (TellsPossible c.args.asked.now.most c.args.asked.now.shown name c.args.crew.now c.args.ask.now (Some never)) _ _ _ (impossible_text name never None)
    c.tell_meant.result c.refused.result refl (rw c.name.ensures at c.tell_meant.ensures.text) c.refused.ensures.status)
