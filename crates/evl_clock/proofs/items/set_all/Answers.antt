use Rattle.std.proofs.Common.{◌<◌, length, slice_set, ap, ◌∙◌, arith}
use Rattle.std.proofs.lemmas.List.{length-set}
use Rattle.evl_clock.proofs.FillLaws.{filled_more, filled_all}
use Rattle.evl_clock.proofs.items.set_all.Goals as goal

pub loop-i-preserved : goal.loop-i-preserved
loop-i-preserved g c =
    let xs = c.args.items.now.items in let is = c.loop-i.invariant in let i = c.loop-i.i in
    let inside : i < length xs = omega (arith, c.loop-i-test.true, c.len-i-end.ensures) in
    record {
      length = length-set c.loop-i.items.items i c.args.item ∙ is.length;
      items = ap (λ ys. slice_set ys i c.args.item) is.items ∙ filled_more xs i c.args.item inside;
    }

pub returns : goal.returns
returns g c =
    let xs = c.args.items.now.items in
    record { all = c.loop-i.invariant.items ∙ filled_all xs c.loop-i.i c.args.item (omega (arith, c.loop-i-test.false, c.loop-i.auto.i-end, c.len-i-end.ensures)) }
