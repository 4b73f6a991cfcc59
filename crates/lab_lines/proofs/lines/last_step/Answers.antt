use Rattle.std.proofs.Common.{arith}
use Rattle.lab_lines.proofs.LastLaws.{last_popped}
use Rattle.lab_lines.proofs.lines.last_step.Goals as goal

pub returns : goal.returns
returns c =
    let steps = c.into_parts-steps.result.2 in
    last_popped c.args.scenario.steps steps.items _ steps.len c.pop.result c.into_parts-steps.ensures.steps c.pop.ensures.items (omega (arith, steps.ok.0)) c.pop.ensures.variant
