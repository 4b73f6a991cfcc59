use Rattle.std.proofs.Common.{None, sym, ap, ◌∙◌}
use Rattle.evl_pipeline.specs.Lines.{callback_on}
use Rattle.evl_pipeline.specs.Sides.{installed_by}
use Rattle.evl_pipeline.proofs.LikenessLaws.{nothing-shown}
use Rattle.evl_pipeline.proofs.side.SideOf.end.Goals as goal

pub returns-clause-free : goal.returns-clause-free
returns-clause-free g c line behind =
    let s = c.self.inside in
    ap (λ at. callback_on at line) (sym c.self.view_is) ∙ nothing-shown (installed_by s.callbacks) None s.ports.items c.end.result c.end.ensures.blank line behind
