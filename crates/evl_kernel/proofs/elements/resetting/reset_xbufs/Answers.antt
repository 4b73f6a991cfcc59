use Rattle.std.proofs.Common.{◌<◌, length, slice_set, refl, ap, ◌∙◌, arith}
use Rattle.std.proofs.lemmas.List.{length-set}
use Rattle.std.proofs.lemmas.List.Edits.{map_over_more}
use Rattle.evl_xbuf.specs.Xbufs.{Xbuf, opened_xbuf}
use Rattle.evl_kernel.proofs.state.FillLaws.{made_all}
use Rattle.evl_kernel.proofs.state.OpeningLaws.{emptied_by_sizes}
use Rattle.evl_kernel.proofs.elements.resetting.reset_xbufs.Goals as goal

pub loop-i-preserved : goal.loop-i-preserved
loop-i-preserved g c =
    let old = c.args.xbufs.now.items in let now = c.loop-i.xbufs.items in let i = c.loop-i.i in let is = c.loop-i.invariant in
    let inside : i < length old = omega (arith, c.loop-i-test.true, c.len-i-end.ensures) in
    record {
      length = length-set now i c.reset.new.self ∙ is.length;
      items = ap (slice_set now i) c.reset.ensures.opened ∙ map_over_more (λ (x : Xbuf). opened_xbuf x.inbound.size x.outbound.size) old now i c.index_mut.result.now inside is.items c.index_mut.ensures.value;
    }

pub returns : goal.returns
returns g c =
    let old = c.args.xbufs.now.items in let i = c.loop-i.i in
    record { xbufs = made_all (λ (x : Xbuf). opened_xbuf x.inbound.size x.outbound.size) old old c.loop-i.xbufs.items i c.loop-i.invariant.items refl (omega (arith, c.loop-i-test.false, c.len-i-end.ensures)) ∙ emptied_by_sizes old }
