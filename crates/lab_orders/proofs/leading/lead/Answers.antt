use Rattle.std.proofs.Common.{◌∙◌, ap, refl, subst, sym}
use Rattle.std.specs.Prelude.{IfSome, option_map}
use Rattle.lab_orders.proofs.Leads.{led_next}
use Rattle.lab_orders.proofs.leading.lead.Goals as goal

pub loop-made-preserved : goal.loop-made-preserved
loop-made-preserved g c =
    let w = c.args.world.now in
    let state = g.W.World.state w in
    record {
      fits = subst (λ o. IfSome o (λ reached. g.W.World.fits w reached.at)) c.in-Some.is c.in-Ok.ensures.fits;
      leads = led_next (g.W.World.machine w) (state c.args.start) (state c.loop-made.at) (state c.in-Some.next.at) c.args.order.now c.loop-made.made _ c.loop-made-test.true refl
          c.loop-made.invariant.leads (sym c.in-Ok.ensures.next ∙ ap (option_map (λ reached. state reached.at)) c.in-Some.is);
    }
