use Rattle.std.proofs.Common.{Ok, Err, codes, option_map, refl}
use Rattle.std.specs.Prelude.{unwrap_or}
use Rattle.lab_streams.specs.Endings.{line_about}
use Rattle.lab_asks.specs.StepOrders.{TellsFound, TellsGone}
use Rattle.lab_streams.proofs.OutputLemmas.{told, written_as}
use Rattle.lab_asks.proofs.step_orders.tell_gone.Goals as goal

pub returns-in-Ok-clause-writes : goal.returns-in-Ok-clause-writes
returns-in-Ok-clause-writes g c =
    let name = unwrap_or (option_map (λ file. file.now) c.args.asked.now.file) (codes "-") in
    let most = c.args.asked.now.most in
    rw c.in-Ok.ensures.view (written_as _ (TellsGone most name c.args.crew.now c.args.ask.now (Ok c.in-Ok.view)) _ _ _ _ (TellsFound most c.in-Ok.view name c.args.crew.now c.args.ask.now) c.go_through.result
    (λ output h. h) c.go_through.ensures.writes)

pub returns-in-Err-clause-writes : goal.returns-in-Err-clause-writes
returns-in-Err-clause-writes g c =
    let name = unwrap_or (option_map (λ file. file.now) c.args.asked.now.file) (codes "-") in
    rw c.in-Err.ensures.words (told _ (TellsGone c.args.asked.now.most name c.args.crew.now c.args.ask.now (Err c.in-Err.words.now)) _ _ _ (line_about name c.in-Err.words.now)
    c.tell_refused.result c.refused.result refl (rw c.name.ensures at c.tell_refused.ensures.line) c.refused.ensures.status)
