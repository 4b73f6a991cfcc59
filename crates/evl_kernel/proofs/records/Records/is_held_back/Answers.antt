use Rattle.std.proofs.Common.{sym, ◌∙◌}
use Rattle.evl_sched.specs.Picks.{is_anyone_eligible}
use Rattle.evl_kernel.proofs.settling.SettlingLaws.{oob_goes_first}
use Rattle.evl_kernel.proofs.records.Records.is_held_back.Goals as goal

pub returns-then-not-is_idle_on : goal.returns-then-not-is_idle_on
returns-then-not-is_idle_on g c =
    record { held = rw (← c.self.view_is) (λ more. oob_goes_first c.self.inside.pipeline (is_anyone_eligible c.self.inside.sched.sched) more (sym c.is_idle_on.ensures.idle ∙ c.if-not-is_idle_on.true)) }
