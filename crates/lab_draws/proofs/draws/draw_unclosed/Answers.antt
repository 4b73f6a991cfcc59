use Rattle.std.proofs.Common.{List, inl, inr, map}
use Rattle.evl_kernel.specs.state.States.{Handler}
use Rattle.evl_plans.specs.Told.{handler_of}
use Rattle.lab_caller_pictures.specs.Drawings.{callers, trace}
use Rattle.lab_draws.specs.Draws.{DrawsUnclosed, DrawsWhole}
use Rattle.lab_streams.proofs.OutputLemmas.{written_as}
use Rattle.lab_draws.proofs.draws.draw_unclosed.Goals as goal

pub returns-in-Some-clause-writes : goal.returns-in-Some-clause-writes
returns-in-Some-clause-writes g c =
    let bank : List Handler = map handler_of c.args.view.now.bank.now in
    let text = c.args.text.now in
    written_as _ (DrawsUnclosed bank c.args.view.now.drawing text) _ _ _ _ (DrawsWhole bank c.args.view.now.drawing callers text text) c.draw_whole.result (λ output h. inl (_, _, c.in-Some.ensures.cases, h)) c.draw_whole.ensures.writes

pub returns-in-None-clause-writes : goal.returns-in-None-clause-writes
returns-in-None-clause-writes g c =
    let bank : List Handler = map handler_of c.args.view.now.bank.now in
    let text = c.args.text.now in
    written_as _ (DrawsUnclosed bank c.args.view.now.drawing text) _ _ _ _ (DrawsWhole bank c.args.view.now.drawing trace text text) c.draw_whole-in-None.result (λ output h. inr (c.in-None.ensures.cases, h)) c.draw_whole-in-None.ensures.writes
