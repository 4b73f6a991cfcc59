use Rattle.std.proofs.Common.{sym, ◌∙◌}
use Rattle.evl_pipeline.proofs.PortLaws.{leads}
use Rattle.evl_pipeline.proofs.side.SideOf.shown.Goals as goal

pub index-requires : goal.index-requires
index-requires g c =
    let s = c.self.inside in
    leads s.ports.items s.callbacks c.self.invariant.linked c.args.line c.in_ok-port.port (sym c.port_of.ensures.port ∙ c.in_ok-port.was)
