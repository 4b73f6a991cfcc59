use Rattle.std.proofs.Common.{◌∙◌, List, ap, refl}
use Rattle.lab_drawing.specs.Shapes.{moments_at}
use Rattle.lab_drawing.specs.declared.moments.Moment.{Moment}
use Rattle.lab_caller_pictures.specs.Drawings.{origin_of, shows_for}
use Rattle.lab_caller_pictures.proofs.drawn.drawn_of.Goals as goal

pub returns : goal.returns
returns c = record {
  marks_are = refl;
  moments_are = c.in_ok-moments.ensures;
  shows = c.shows_for-shows.ensures ∙ ap (shows_for (origin_of c.args.source)) (c.page_moments.ensures ∙ ap (λ (m : List Moment). moments_at c.args.marks.now m c.args.page) c.as_slice.ensures.value);
  goes = c.goes_for-goes.ensures;
  page = refl;
}
