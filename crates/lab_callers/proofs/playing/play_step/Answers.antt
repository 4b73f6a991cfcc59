use Rattle.std.proofs.Common.{◌++◌, ◌∙◌, List, ℕ, ap, refl, string_bytes}
use Rattle.lab_callers.specs.Shown.{step_text}
use Rattle.lab_callers.proofs.playing.play_step.Goals as goal

pub returns-in-Ok-put_line-clause-made : goal.returns-in-Ok-put_line-clause-made
returns-in-Ok-put_line-clause-made g c =
    let shows = c.in-Ok-put_line.ensures.told in
    rw (← c.report.view_is) (
      step_text c.args.number c.args.step ++ shows.0,
      record {
        told = string_bytes c.in-Ok-make.told.answer;
        shown = c.in-Ok-make.told.shows;
        made = c.make.new.crew;
        has = c.make.new.passes;
        makes = c.in-Ok-make.ensures.told;
        behind = shows.0;
        shows = shows.1;
        lines_is = refl;
      },
      shows.2 ∙ ap (λ (front : List ℕ). string_bytes c.report.inside.text ++ (front ++ shows.0)) (c.as_str.ensures.value ∙ c.in-Ok.ensures),
    )
