use Rattle.std.proofs.Common.{sym, ◌∙◌}
use Rattle.evl_sched.proofs.ApartLaws.{alone-set, gone}
use Rattle.evl_sched.proofs.contenders.Contenders.take.Goals as goal

pub returns-then-is_alone : goal.returns-then-is_alone
returns-then-is_alone g c =
    rw (← c.self.view_is) (record { taken = gone _ c.args.thread c.self.inside.alone c.self.invariant (sym c.is_alone.ensures.alone ∙ c.if-is_alone.true) })

pub returns-else-is_alone : goal.returns-else-is_alone
returns-else-is_alone g c =
    rw (← c.self.view_is, c.take.ensures.taken) (record { taken = alone-set _ c.args.thread c.self.inside.alone (sym c.is_alone.ensures.alone ∙ c.if-is_alone.false) _ })
