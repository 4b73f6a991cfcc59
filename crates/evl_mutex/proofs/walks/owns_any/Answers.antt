use Rattle.std.proofs.Common.{refl, sym, ◌∙◌}
use Rattle.std.specs.List.{list_any}
use Rattle.std.proofs.lemmas.List.{at_drop_all}
use Rattle.evl_mutex.specs.Mutexes.{is_owned_by}
use Rattle.evl_mutex.specs.Views.{mutexes_of}
use Rattle.evl_mutex.proofs.WalkLaws.{seen-next}
use Rattle.evl_mutex.proofs.walks.owns_any.Goals as goal

pub loop-m-init : goal.loop-m-init
loop-m-init g c = refl

pub returns-then-is_owned_by : goal.returns-then-is_owned_by
returns-then-is_owned_by g c = record {
  owns =
      let next = seen-next (λ ms. list_any (is_owned_by c.args.thread) (mutexes_of ms)) c.args.mutexes.now.items _ _ (rw c.deref-m-items.ensures.value at c.loop-m-test.true) (rw c.deref-m-items.ensures.value at c.m-item.is) in
      sym (rw (← c.if-is_owned_by.ensures.owned) at next) ∙ c.loop-m.invariant;
}

pub loop-m-preserved : goal.loop-m-preserved
loop-m-preserved g c =
    let next = seen-next (λ ms. list_any (is_owned_by c.args.thread) (mutexes_of ms)) c.args.mutexes.now.items _ _ (rw c.deref-m-items.ensures.value at c.loop-m-test.true) (rw c.deref-m-items.ensures.value at c.m-item.is) in
    sym (rw (← c.if-is_owned_by.ensures.owned) at next) ∙ c.loop-m.invariant

pub returns : goal.returns
returns g c = record {
  owns =
      let left = at_drop_all (λ ms. list_any (is_owned_by c.args.thread) (mutexes_of ms)) c.args.mutexes.now.items c.loop-m.m-index (rw c.deref-m-items.ensures.value at c.loop-m-test.false) in
      sym left ∙ c.loop-m.invariant;
}
