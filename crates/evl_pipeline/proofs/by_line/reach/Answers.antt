use Rattle.std.proofs.Common.{rules, ◌≡◌, ◌<◌, ◌++◌, ◌∷◌, [], length, ap, ◌∙◌, arith}
use Rattle.std.proofs.lemmas.List.{length-append}
use Rattle.evl_pipeline.specs.Limits.{line_count}
use Rattle.evl_pipeline.proofs.ByLineLaws.{blank-written}
use Rattle.evl_pipeline.proofs.by_line.reach.Goals as goal

pub loop-written-preserved : goal.loop-written-preserved
loop-written-preserved g c =
    let written = c.loop-written.written.items in let blank = g.T.Blank.blank in
    let few : length written < line_count = omega (arith, c.loop-written-test.true, c.len.ensures, c.requires.range, c.loop-written.written.ok.0) in
    let is : c.push_reserved.new.self.items ≡ written ++ blank ∷ [] = search rules in
    record {
      same = blank-written blank written c.push_reserved.new.self.items few is ∙ c.loop-written.invariant.same;
      few = omega (arith, few, ap length is, length-append written (blank ∷ []));
      room = omega (arith, c.push_reserved.ensures.capacity, c.loop-written.invariant.room);
    }
