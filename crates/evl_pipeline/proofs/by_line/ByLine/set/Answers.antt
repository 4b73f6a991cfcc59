use Rattle.std.proofs.Common.{ℕ, List, ◌<◌, length, slice_set, ap, ◌∙◌, arith}
use Rattle.evl_pipeline.specs.ByLine.{filled_up}
use Rattle.evl_pipeline.proofs.ByLineLaws.{item-set}
use Rattle.evl_pipeline.proofs.by_line.ByLine.set.Goals as goal

pub returns : goal.returns
returns g c =
    let written = c.reach.new.written.items in let blank = g.T.Blank.blank in let line = c.args.line in let item = c.args.item in
    let there : line < length written = omega (arith, c.reach.ensures.there, c.from.ensures) in
    record {
      written = rw (← c.self.view_is)
          (ap (λ (n : ℕ). filled_up blank (slice_set written n item)) c.from-2.ensures
          ∙ item-set blank written line item there
          ∙ ap (λ xs. slice_set xs line item) c.reach.ensures.same);
    }
