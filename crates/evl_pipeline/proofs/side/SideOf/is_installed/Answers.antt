use Rattle.std.proofs.Common.{sym, ap, ◌∙◌, is_some}
use Rattle.evl_pipeline.proofs.PortLaws.{seen}
use Rattle.evl_pipeline.proofs.side.SideOf.is_installed.Goals as goal

pub returns : goal.returns
returns g c =
    let s = c.self.inside in
    record { installed = rw (← c.self.view_is) (c.is_some.ensures ∙ ap is_some c.port_of.ensures.port ∙ sym (seen s.ports.items s.callbacks c.self.invariant.linked c.args.line)) }
