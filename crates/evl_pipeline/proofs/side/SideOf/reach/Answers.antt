use Rattle.std.proofs.Common.{ap, ◌∙◌}
use Rattle.evl_pipeline.specs.Sides.{installed_by}
use Rattle.evl_pipeline.proofs.PortLaws.{port_shown}
use Rattle.evl_pipeline.proofs.side.SideOf.reach.Goals as goal

pub returns-clause-none : goal.returns-clause-none
returns-clause-none g c =
    let s = c.self.inside in
    rw (← c.self.view_is) (λ line past. port_shown s.ports.items s.callbacks c.self.invariant.linked line ∙ ap (installed_by s.callbacks) (c.reach.ensures.blank line past))
