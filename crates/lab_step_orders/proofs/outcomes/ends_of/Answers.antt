use Rattle.std.proofs.Common.{IfOk, subst}
use Rattle.lab_orders.specs.Firsts.{AreFirsts}
use Rattle.lab_step_orders.specs.Facts.{is_noted_at}
use Rattle.lab_step_orders.specs.Seen.{Seen, machine}
use Rattle.lab_step_orders.proofs.outcomes.ends_of.Goals as goal

pub returns-clause-firsts : goal.returns-clause-firsts
returns-clause-firsts c =
    let crew = c.args.crew.now in
    subst (λ (s : Seen). IfOk c.explore.result (λ found. AreFirsts (machine crew) s (is_noted_at crew) found.steps 0 found.firsts.items)) c.in-Ok.ensures.seen c.explore.ensures.firsts
