use Rattle.std.proofs.Common.{◌<◌, ◌+◌, List, Option, None, drop, ◌++◌, length, replicate, slice_set, ap, ◌∙◌, arith}
use Rattle.std.proofs.lemmas.List.{length-replicate, length-set}
use Rattle.evl_kernel.specs.declared.waits.Wait.{Wait}
use Rattle.evl_kernel.proofs.state.FillLaws.{one_more, written_all, written_more}
use Rattle.evl_kernel.proofs.records.resetting.clear_waits.Goals as goal

pub loop-i-preserved : goal.loop-i-preserved
loop-i-preserved g c =
    let old = c.args.waits.now.items in let now = c.loop-i.waits.items in let i = c.loop-i.i in let is = c.loop-i.invariant in
    let inside : i < length old = omega (arith, c.loop-i-test.true, c.len-i-end.ensures) in
    record {
      length = length-set now i c.clear.new.self ∙ is.length;
      items = ap (slice_set now i) c.clear.ensures.none ∙ ap (λ ws. slice_set ws i None) is.items
          ∙ written_more (replicate {A = Option Wait} i None) old i None (length-replicate {A = Option Wait} i None) inside
          ∙ ap (λ (ws : List (Option Wait)). ws ++ drop (i + 1) old) (one_more {X = Option Wait} i None);
    }

pub returns : goal.returns
returns g c =
    let old = c.args.waits.now.items in let i = c.loop-i.i in
    record {
      waits = c.loop-i.invariant.items ∙ written_all (replicate {A = Option Wait} i None) old i (omega (arith, c.loop-i-test.false, c.len-i-end.ensures))
          ∙ ap (λ n. replicate {A = Option Wait} n None) (omega (arith, c.loop-i-test.false, c.loop-i.auto.i-end, c.len-i-end.ensures));
    }
