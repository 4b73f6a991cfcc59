use Rattle.std.proofs.Common.{Bool, List, map, subst}
use Rattle.std.specs.Prelude.{MatchBool}
use Rattle.evl_kernel.specs.state.States.{Handler}
use Rattle.evl_plans.specs.Told.{handler_of}
use Rattle.lab_draws.specs.Draws.{DrawsGiven, DrawsSome, DrawsText}
use Rattle.lab_streams.proofs.OutputLemmas.{written_as}
use Rattle.lab_draws.proofs.draws.draw_some.Goals as goal

pub returns-then-is_empty-clause-writes : goal.returns-then-is_empty-clause-writes
returns-then-is_empty-clause-writes g c =
    let bank : List Handler = map handler_of c.args.view.now.bank.now in
    let drawing = c.args.view.now.drawing in
    let text = c.args.text.now in
    written_as _ (DrawsSome bank drawing text) _ _ _ _ (DrawsGiven bank drawing text 1) c.draw_given.result
    (λ output h. subst (λ (b : Bool). MatchBool b (DrawsGiven bank drawing text 1 output) (DrawsText bank drawing text output)) c.if-is_empty.ensures h) c.draw_given.ensures.writes

pub returns-else-is_empty-clause-writes : goal.returns-else-is_empty-clause-writes
returns-else-is_empty-clause-writes g c =
    let bank : List Handler = map handler_of c.args.view.now.bank.now in
    let drawing = c.args.view.now.drawing in
    let text = c.args.text.now in
    written_as _ (DrawsSome bank drawing text) _ _ _ _ (DrawsText bank drawing text) c.draw_text.result
    (λ output h. subst (λ (b : Bool). MatchBool b (DrawsGiven bank drawing text 1 output) (DrawsText bank drawing text output)) c.if-is_empty.ensures h) c.draw_text.ensures.writes
