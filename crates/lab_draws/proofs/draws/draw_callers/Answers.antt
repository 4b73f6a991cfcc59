use Rattle.std.proofs.Common.{◌∙◌, ◌++◌, List, ℕ, subst, map}
use Rattle.evl_kernel.specs.state.States.{Handler}
use Rattle.evl_plans.specs.Told.{handler_of}
use Rattle.evl_scenario.specs.Lines.{line_feed}
use Rattle.lab_caller_pictures.specs.Drawings.{callers}
use Rattle.lab_draws.specs.Draws.{DrawsWhole}
use Rattle.lab_streams.proofs.OutputLemmas.{written_as}
use Rattle.lab_draws.proofs.draws.draw_callers.Goals as goal

pub returns-in-Ok-clause-writes : goal.returns-in-Ok-clause-writes
returns-in-Ok-clause-writes g c =
    let bank : List Handler = map handler_of c.args.view.now.bank.now in
    let text = c.args.text.now in
    written_as _ (DrawsWhole bank c.args.view.now.drawing callers (c.args.front.now ++ line_feed) text) _ _ _ _ (DrawsWhole bank c.args.view.now.drawing callers c.as_str.result.now text) c.draw_whole.result
    (λ output h. subst (λ (l : List ℕ). DrawsWhole bank c.args.view.now.drawing callers l text output) (c.as_str.ensures.value ∙ c.in-Ok.ensures) h) c.draw_whole.ensures.writes
