use Rattle.std.proofs.Common.{◌≡◌, ◌∷◌, suc, drop, length, remove, slice_index_or, refl, sym, ap, ◌∙◌, arith}
use Rattle.std.proofs.lemmas.List.{drop_more}
use Rattle.evl_base.specs.declared.take.Take.TheVariants.{Any}
use Rattle.evl_sync.specs.declared.flag_waiter.FlagWaiter.{FlagWaiter}
use Rattle.evl_sync.specs.FlagGroups.{Walk, walk_of}
use Rattle.evl_sync.proofs.WalkLaws.{by_suc, rests-removed, walk-ended, walking, walk-served}
use Rattle.evl_sync.proofs.flag_group.walk.Goals as goal

pub loop-place-init : goal.loop-place-init
loop-place-init c = record {
  within = omega arith;
  few = omega (arith, c.requires.few, ap length c.requires.nobody);
  whole = rw c.requires.nobody refl;
  rests = c.requires.rests;
}

pub loop-place-preserved-in-Some : goal.loop-place-preserved-in-Some
loop-place-preserved-in-Some c =
    let n = c.loop-place.place in let xs = c.as_slice.result.now in let done = c.loop-place.told.items in let left = c.loop-place.left in
    let same = c.as_slice.ensures.value in
    let w : FlagWaiter = slice_index_or xs n (record { thread = 0; rank = 0; kind = Any }) in
    let is : drop n xs ≡ w ∷ drop (suc n) xs = drop_more xs n (record { thread = 0; rank = 0; kind = Any }) (omega (arith, c.loop-place-test.true, c.len.ensures.value, ap length same)) ∙ ap (λ k. w ∷ drop k xs) (by_suc n) in
    record {
      within = omega (arith, c.loop-place-test.true, c.len.ensures.value, c.remove.ensures.len);
      few = omega (arith, c.loop-place.invariant.few, c.push.ensures.len, c.remove.ensures.len);
      whole = rw c.push.ensures.items (walk-served done xs n left w is c.in-Some.got _ c.remove.new.self.items c.in-Some.ensures.taken refl (c.remove.ensures.items ∙ ap (λ zs. remove zs n) (sym same))
          ∙ ap (λ zs. walking done zs n left) same ∙ c.loop-place.invariant.whole);
      rests = rw c.remove.ensures.items (rests-removed 0 n c.loop-place.waiters.items c.loop-place.invariant.rests);
    }

pub returns-then-left-eq0-clause-served : goal.returns-then-left-eq0-clause-served
returns-then-left-eq0-clause-served c =
    ap (λ (k : Walk). k.served) (walk-ended c.loop-place.told.items c.loop-place.waiters.items c.loop-place.place c.loop-place.left (walk_of c.args.waiters.now.items c.args.bits) c.loop-place.invariant.rests (omega (arith, c.if-left-eq0.true)) c.loop-place.invariant.whole)

pub returns-then-left-eq0-clause-waiting : goal.returns-then-left-eq0-clause-waiting
returns-then-left-eq0-clause-waiting c =
    ap (λ (k : Walk). k.waiting) (walk-ended c.loop-place.told.items c.loop-place.waiters.items c.loop-place.place c.loop-place.left (walk_of c.args.waiters.now.items c.args.bits) c.loop-place.invariant.rests (omega (arith, c.if-left-eq0.true)) c.loop-place.invariant.whole)

pub returns-then-left-eq0-clause-left : goal.returns-then-left-eq0-clause-left
returns-then-left-eq0-clause-left c =
    ap (λ (k : Walk). k.left) (walk-ended c.loop-place.told.items c.loop-place.waiters.items c.loop-place.place c.loop-place.left (walk_of c.args.waiters.now.items c.args.bits) c.loop-place.invariant.rests (omega (arith, c.if-left-eq0.true)) c.loop-place.invariant.whole)
