use Rattle.std.proofs.Common.{refl, subst, sym}
use Rattle.std.specs.Prelude.{IfOk}
use Rattle.lab_caller_pictures.specs.Drawings.{origin_of}
use Rattle.lab_draws.specs.Draws.{DrawsMarks, events_of}
use Rattle.lab_streams.specs.Outputs.{Writes}
use Rattle.lab_streams.specs.declared.words.Form.{Form}
use Rattle.lab_streams.specs.declared.words.Form.TheVariants.{Events}
use Rattle.lab_streams.proofs.OutputLemmas.{printed}
use Rattle.lab_draws.proofs.draws.draw_marks.Goals as goal

pub returns-in-Svg-clause-writes : goal.returns-in-Svg-clause-writes
returns-in-Svg-clause-writes g c =
    subst (λ (f : Form). IfOk c.draw_svg.result (Writes (DrawsMarks f c.args.drawing (origin_of c.args.source) c.args.marks.now) (g.O.Stream.contents c.args.out.now) (g.O.Stream.contents c.draw_svg.new.out) (g.E.Stream.contents c.args.err.now) (g.E.Stream.contents c.draw_svg.new.err)))
    (sym c.in-Svg.is) c.draw_svg.ensures.writes

pub returns-in-Events-clause-writes : goal.returns-in-Events-clause-writes
returns-in-Events-clause-writes g c =
    rw c.in-Events.is
    (printed _ (DrawsMarks Events c.args.drawing (origin_of c.args.source) c.args.marks.now) _ _ _ (events_of c.args.marks.now) c.draw_events.result refl c.draw_events.ensures.text c.draw_events.ensures.status)
