use Rattle.std.proofs.Common.{ap, ◌∙◌}
use Rattle.std.specs.Ordering.{nat_cmp, ord_max}
use Rattle.std.proofs.lemmas.List.{at_drop_all}
use Rattle.evl_mutex.specs.Ranks.{ceilings}
use Rattle.evl_mutex.specs.Views.{mutexes_of}
use Rattle.evl_mutex.proofs.WalkLaws.{greatest-first, greatest-last, greatest-next, seen-next}
use Rattle.evl_mutex.proofs.walks.ceilings.Goals as goal

pub loop-m-init : goal.loop-m-init
loop-m-init g c = greatest-first _

pub loop-m-preserved : goal.loop-m-preserved
loop-m-preserved g c =
    let next = seen-next (λ ms. ceilings c.args.thread (mutexes_of ms)) c.args.mutexes.now.items _ _ (rw c.deref-m-items.ensures.value at c.loop-m-test.true) (rw c.deref-m-items.ensures.value at c.m-item.is) in
    greatest-next _ _ _ _ _ _ (c.max-rank.ensures ∙ ap (ord_max nat_cmp c.loop-m.rank) c.ceiling_for.ensures.rank) next c.loop-m.invariant

pub returns : goal.returns
returns g c = record {
  rank =
      let left = at_drop_all (λ ms. ceilings c.args.thread (mutexes_of ms)) c.args.mutexes.now.items c.loop-m.m-index (rw c.deref-m-items.ensures.value at c.loop-m-test.false) in
      greatest-last _ _ _ left c.loop-m.invariant;
}
