use Rattle.std.proofs.Common.{◌≡◌, sym, ap, ◌∙◌}
use Rattle.evl_base.specs.declared.stage.Stage.TheVariants.{Oob}
use Rattle.evl_pipeline.specs.Lines.{with_side}
use Rattle.evl_pipeline.specs.Plans.{is_allowed}
use Rattle.evl_pipeline.proofs.AllowedLaws.{few, posts-no_oob}
use Rattle.evl_pipeline.proofs.LineLaws.{not_clock}
use Rattle.evl_pipeline.proofs.pipeline.PipelineOf.next.Goals as goal

pub returns-in-Some-clause-plays : goal.returns-in-Some-clause-plays
returns-in-Some-clause-plays g c =
    let old = c.args.self.now in let stage = c.in_ok-stage.stage in let line = c.in_ok-stage.line in let plays = c.in-Some.ensures.some in
    record {
      stage = stage;
      line = line;
      chosen = sym c.in_ok-stage.ensures.next;
      not_clock = not_clock old stage line plays.at c.next_line.ensures.sound plays.stands;
      below = c.in_ok-stage.ensures.range;
      at = plays.at;
      stands = plays.stands;
      fire_is = plays.fire_is;
      called = plays.called;
      answered = plays.answered;
      after = c.play.ensures.rest ∙ ap (with_side old stage) plays.after;
      sound = plays.sound;
    }

pub returns-in-Some-clause-bounded : goal.returns-in-Some-clause-bounded
returns-in-Some-clause-bounded g c =
    let old = c.args.self.now in let stage = c.in_ok-stage.stage in let line = c.in_ok-stage.line in let plays = c.in-Some.ensures.some in (
      rw plays.answered (few _ _ _ plays.sound),
      λ is_oob allowed.
          let is : stage ≡ Oob = sym (ap (λ f. f.stage) plays.fire_is) ∙ is_oob in
          rw plays.answered (posts-no_oob _ _ _ plays.sound (ap (λ s. is_allowed s (g.C.Handler.declared plays.at.callback)) (sym is) ∙ allowed stage line plays.at plays.stands)),
    )
