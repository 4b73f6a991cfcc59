use Rattle.std.proofs.Common.{◌∙◌}
use Rattle.lab_scenario_orders.specs.Moments.{IsNoted, StandsAt, seen_at}
use Rattle.lab_scenario_orders.proofs.HandLaws.{seen_there, fits_there, hand_there}
use Rattle.lab_scenario_orders.proofs.worlds.stepped.Goals as goal

pub returns-in-Ok-step_kernel-clause-next : goal.returns-in-Ok-step_kernel-clause-next
returns-in-Ok-step_kernel-clause-next g c =
    seen_there (seen_at c.args.callers.now (g.B.BankMaker.bank c.args.bank.now)) (λ reached. reached.at) c.held_at.result c.in-Ok-step_kernel.next c.held_at.ensures.at ∙ c.in-Ok-step_kernel.ensures.next

pub returns-in-Ok-step_kernel-clause-fits : goal.returns-in-Ok-step_kernel-clause-fits
returns-in-Ok-step_kernel-clause-fits g c =
    fits_there (IsNoted c.args.callers.now (g.B.BankMaker.bank c.args.bank.now) c.args.watches.now) (λ reached. reached.at) c.held_at.result c.in-Ok-step_kernel.next c.held_at.ensures.at c.in-Ok-step_kernel.ensures.fits

pub returns-in-Ok-step_kernel-clause-hand : goal.returns-in-Ok-step_kernel-clause-hand
returns-in-Ok-step_kernel-clause-hand g c =
    hand_there (λ kernel at. StandsAt c.args.callers.now (g.B.BankMaker.bank c.args.bank.now) kernel.history.state kernel.history.bank at) (λ reached. reached.hand) (λ reached. reached.at) c.step_kernel.new.kernel
    c.held_at.result c.in-Ok-step_kernel.next c.held_at.ensures.at c.held_at.ensures.hand c.in-Ok-step_kernel.ensures.hand
