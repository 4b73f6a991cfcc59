use Rattle.std.proofs.Common.{sym, ◌∙◌}
use Rattle.evl_kernel.specs.state.RecordsInside.{records_view}
use Rattle.evl_kernel.specs.state.Records.{whereabouts}
use Rattle.evl_kernel.proofs.settling.SettlingLaws.{idle_settles}
use Rattle.evl_kernel.proofs.records.Records.settle.Goals as goal

pub returns-then-is_idle-clause-settled : goal.returns-then-is_idle-clause-settled
returns-then-is_idle-clause-settled g c =
    rw (← c.self.view_is) (idle_settles g.C.Handler.gives (whereabouts (records_view c.self.inside)) g.C.Handler.declared g.C.Handler.plan (records_view c.self.inside) c.args.plays.now.items (sym c.is_idle.ensures.idle ∙ c.if-is_idle.true))
