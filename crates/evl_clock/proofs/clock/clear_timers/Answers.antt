use Rattle.std.proofs.Common.{◌<◌, None, length, replicate, slice_set, ap, ◌∙◌, arith}
use Rattle.std.proofs.lemmas.List.{length-set}
use Rattle.evl_clock.proofs.FillLaws.{filled_more, filled_all}
use Rattle.evl_clock.proofs.clock.clear_timers.Goals as goal

pub loop-place-preserved : goal.loop-place-preserved
loop-place-preserved g c =
    let xs = c.args.timers.now.items in let is = c.loop-place.invariant in let i = c.loop-place.place in
    let inside : i < length xs = omega (arith, c.loop-place-test.true, c.len-place-end.ensures) in
    record {
      length = length-set c.loop-place.timers.items i None ∙ is.length;
      items = ap (λ ys. slice_set ys i None) is.items ∙ filled_more xs i None inside;
    }

pub returns : goal.returns
returns g c =
    let xs = c.args.timers.now.items in
    record { empty = c.loop-place.invariant.items ∙ filled_all xs c.loop-place.place None (omega (arith, c.loop-place-test.false, c.loop-place.auto.place-end, c.len-place-end.ensures)) ∙ ap (λ n. replicate n None) c.requires.all }
