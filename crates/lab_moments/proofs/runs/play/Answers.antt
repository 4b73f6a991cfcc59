use Rattle.std.proofs.Common.{◌≡◌, IfOk, List, map, subst}
use Rattle.lab_moments.specs.Moments.{Shown, moment_shown}
use Rattle.lab_moments.proofs.AskedLaws.{all_ask, none_asked}
use Rattle.lab_moments.proofs.RunLaws.{opened_shown}
use Rattle.lab_moments.proofs.runs.play.Goals as goal

pub make_steps-made-requires-clause-asked : goal.make_steps-made-requires-clause-asked
make_steps-made-requires-clause-asked c = none_asked _ _ c.in-Ok.ensures.opened.entries

pub make_steps-made-requires-clause-ask : goal.make_steps-made-requires-clause-ask
make_steps-made-requires-clause-ask c = all_ask _ _ _ c.as_slice.ensures.value c.below_steps-below.ensures.below

pub returns-in-Ok : goal.returns-in-Ok
returns-in-Ok c =
    let parts = c.into_parts-board.ensures in
    subst (λ (all : List Shown). IfOk c.make_steps-made.result (λ told. map moment_shown told.items ≡ all))
    (opened_shown c.args.lanes.now c.args.bank.items c.args.scenario _ _ _ c.in-Ok.kernel parts.board parts.limit parts.steps
    (λ e. cc (c.in-Ok.is, c.new.ensures.range.1 e)) c.in-Ok.ensures.opened)
    c.make_steps-made.ensures
