use Rattle.std.proofs.Common.{length, refl, sym, ap, ◌∙◌, arith}
use Rattle.std.proofs.lemmas.List.{at_drop_more, at_drop_all, length-set}
use Rattle.evl_mutex.specs.Views.{noted_behind}
use Rattle.evl_mutex.proofs.notes.note_behind.Goals as goal

pub loop-w-init : goal.loop-w-init
loop-w-init g c = record { noted = refl; count = refl; counted = λ n few is. is }

pub loop-w-preserved : goal.loop-w-preserved
loop-w-preserved g c = record {
  noted =
      let noted = rw c.deref-w-items.ensures.value at c.note.ensures.noted in
      let turn = at_drop_more (λ ws. noted_behind ws c.args.owner c.loop-w.ahead.items) c.args.waiters.now.items c.loop-w.w-index (record { thread = 0; rank = 0 }) (rw c.deref-w-items.ensures.value at c.loop-w-test.true) in
      rw noted (sym turn ∙ c.loop-w.invariant.noted);
  count = ap length c.note.ensures.noted ∙ length-set c.loop-w.ahead.items _ c.args.owner ∙ c.loop-w.invariant.count;
  counted = λ n few is. c.note.ensures.counted n (omega (arith, few, c.loop-w.invariant.count)) (c.loop-w.invariant.counted n few is);
}

pub returns : goal.returns
returns g c = record {
  noted =
      let left = at_drop_all (λ ws. noted_behind ws c.args.owner c.loop-w.ahead.items) c.args.waiters.now.items c.loop-w.w-index (rw c.deref-w-items.ensures.value at c.loop-w-test.false) in
      sym left ∙ c.loop-w.invariant.noted;
  counted = c.loop-w.invariant.counted;
}
