use Rattle.std.proofs.Common.{◌≡◌, ◌+◌, ◌<◌, ◌∙◌, ℕ, inl, inr, max, drop, length, Some, None, slice_index, sym, subst, arith, refl, ap}
use Rattle.std.proofs.lemmas.List.{get_or_default}
use Rattle.evl_mutex.specs.Owners.{one_if}
use Rattle.evl_mutex.specs.Views.{ahead_in, is_for, waiters_of}
use Rattle.evl_mutex.proofs.LendingLaws.{IsLentBelow, lent-all, lent-below}
use Rattle.evl_mutex.proofs.CountLaws.{counted-off, nobody-later, waits-elsewhere, waits-for-it}
use Rattle.evl_mutex.proofs.mending.lent_by_all.Goals.{then-is_for+else-left-le1, else-is_for}
use Rattle.evl_mutex.proofs.mending.lent_by_all.Goals as goal

pub returns-then-left-le1 : goal.returns-then-left-le1
returns-then-left-le1 g c = record {
  lent = λ many.
      let ahead = c.args.ahead.now.items in let lents = c.args.lent.now.items in let k = c.loop-from.from in let thread = c.args.thread in
      let base = slice_index c.args.base.now.items in let next = ahead_in ahead in let lent = slice_index lents in
      let inside : k < length ahead = omega (arith, c.loop-from-test.true, c.min-from-end.ensures, c.len.ensures, c.args.ahead.now.ok.0) in
      let note : c.index.result.now ≡ next k = c.index.ensures ∙ get_or_default ahead k c.index.result.now None inside in
      let waits : next k ≡ Some thread = sym note ∙ waits-for-it thread c.index.result.now (sym c.is_for.ensures.waits ∙ c.if-is_for.true) in
      let more = c.index-then-is_for.result.now in
      let rank : more ≡ lent k =
      c.index-then-is_for.ensures ∙ get_or_default lents k more 0 (omega (arith, c.loop-from-test.true, c.min-from-end.ensures, c.len-2.ensures, c.args.lent.now.ok.0)) in
      let P : ℕ → Type 0 = λ r. IsLentBelow base next lent thread r (k + 1) in
      let here = subst P (sym c.greater-rank.ensures.greater) (lent-below base next lent thread c.loop-from.rank k more c.loop-from.invariant.lent (λ e. rank) (inr (waits, rank))) in
      let one : one_if (is_for thread (next k)) ≡ 1 = ap one_if (ap (is_for thread) (sym note) ∙ sym c.is_for.ensures.waits ∙ c.if-is_for.true) in
      let rest : waiters_of (drop (k + 1) ahead) thread ≡ 0 = omega (arith, c.loop-from.invariant.rest many, counted-off ahead thread k inside, one, c.if-left-le1.true) in
      lent-all base next lent thread c.greater-rank.result (k + 1) here (λ from l e. absurd (nobody-later ahead thread (k + 1) from rest l e));
}

pub loop-from-preserved : goal.loop-from-preserved
loop-from-preserved g c =
    let ahead = c.args.ahead.now.items in let lents = c.args.lent.now.items in let k = c.loop-from.from in let thread = c.args.thread in
    let base = slice_index c.args.base.now.items in let next = ahead_in ahead in let lent = slice_index lents in
    let inside : k < length ahead = omega (arith, c.loop-from-test.true, c.min-from-end.ensures, c.len.ensures, c.args.ahead.now.ok.0) in
    let note : c.index.result.now ≡ next k = c.index.ensures ∙ get_or_default ahead k c.index.result.now None inside in
    let P : ℕ → Type 0 = λ r. IsLentBelow base next lent thread r (k + 1) in let off = counted-off ahead thread k inside in
    elim c.if-is_for.branch [
      | then-is_for+else-left-le1 w ↦ (
          let waits : next k ≡ Some thread = sym note ∙ waits-for-it thread c.index.result.now (sym c.is_for.ensures.waits ∙ w.if-is_for.true) in
          let more = w.index-then-is_for.result.now in
          let rank : more ≡ lent k =
          w.index-then-is_for.ensures ∙ get_or_default lents k more 0 (omega (arith, c.loop-from-test.true, c.min-from-end.ensures, c.len-2.ensures, c.args.lent.now.ok.0)) in
          let one : one_if (is_for thread (next k)) ≡ 1 = ap one_if (ap (is_for thread) (sym note) ∙ sym c.is_for.ensures.waits ∙ w.if-is_for.true) in
          record {
            lent = subst P (sym (w.rank-is ∙ w.greater-rank.ensures.greater)) (lent-below base next lent thread c.loop-from.rank k more c.loop-from.invariant.lent (λ e. rank) (inr (waits, rank)));
            rest = λ many. omega (arith, w.left-is, c.loop-from.invariant.rest many, off, one);
          })
      | else-is_for w ↦ (
          let away : next k ≡ Some thread → ⊥ = λ e. waits-elsewhere thread c.index.result.now (sym c.is_for.ensures.waits ∙ w.if-is_for.false) (note ∙ e) in
          let none : one_if (is_for thread (next k)) ≡ 0 = ap one_if (ap (is_for thread) (sym note) ∙ sym c.is_for.ensures.waits ∙ w.if-is_for.false) in
          let same_rank : max c.loop-from.rank 0 ≡ c.if-is_for.rank = omega (arith, w.rank-is) in
          record {
            lent = subst P same_rank (lent-below base next lent thread c.loop-from.rank k 0 c.loop-from.invariant.lent (λ e. absurd (away e)) (inl refl));
            rest = λ many. omega (arith, w.left-is, c.loop-from.invariant.rest many, off, none);
          })
    ]
