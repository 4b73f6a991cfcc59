use Rattle.std.proofs.Common.{◌∙◌, sym}
use Rattle.lab_scenario_orders.proofs.VerdictLaws.{state_behind, state_here, state_nowhere}
use Rattle.lab_scenario_orders.proofs.verdicts.state_against.Goals as goal

pub returns-then-is_state_against : goal.returns-then-is_state_against
returns-then-is_state_against c =
    let against = sym c.is_state_against.ensures ∙ c.if-is_state_against.true in
    sym (state_here c.args.firsts.now c.args.is_whole c.args.watches.now c.loop-place.place c.index-watches-place.result c.loop-place-test.true c.index-watches-place.is against) ∙ c.loop-place.invariant

pub loop-place-preserved : goal.loop-place-preserved
loop-place-preserved c =
    let holds = sym c.is_state_against.ensures ∙ c.if-is_state_against.false in
    sym (state_behind c.args.firsts.now c.args.is_whole c.args.watches.now c.loop-place.place c.index-watches-place.result c.loop-place-test.true c.index-watches-place.is holds) ∙ c.loop-place.invariant

pub returns : goal.returns
returns c = sym (state_nowhere c.args.firsts.now c.args.is_whole c.args.watches.now c.loop-place.place c.loop-place-test.false) ∙ c.loop-place.invariant
