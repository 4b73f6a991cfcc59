use Rattle.std.proofs.Common.{◌<◌, length, slice_set, ap, ◌∙◌, arith}
use Rattle.std.proofs.lemmas.List.{length-set}
use Rattle.evl_sync.specs.Semaphores as semaphores
use Rattle.evl_kernel.proofs.state.FillLaws.{made_all, made_more}
use Rattle.evl_kernel.proofs.elements.resetting.reset_sems.Goals as goal

pub loop-i-preserved : goal.loop-i-preserved
loop-i-preserved g c =
    let old = c.args.sems.now.items in let now = c.loop-i.sems.items in let i = c.loop-i.i in let is = c.loop-i.invariant in
    let inside : i < length old = omega (arith, c.loop-i-test.true, c.len-i-end.ensures) in
    record {
      length = length-set now i c.reset.new.self ∙ is.length;
      items = ap (slice_set now i) c.reset.ensures.opened ∙ made_more semaphores.opened_semaphore c.args.counts.now old now i 0 is.items c.requires.all inside;
    }

pub returns : goal.returns
returns g c =
    let old = c.args.sems.now.items in let i = c.loop-i.i in
    record { sems = made_all semaphores.opened_semaphore c.args.counts.now old c.loop-i.sems.items i c.loop-i.invariant.items c.requires.all (omega (arith, c.loop-i-test.false, c.len-i-end.ensures)) }
