use Rattle.std.proofs.Common.{◌≡◌, ◌≢◌, ℕ, Option, inl, inr, Some, None, slice_index, sym, ap, ◌∙◌, subst}
use Rattle.std.proofs.lemmas.List.{get_or-set_same, get_or-set_other}
use Rattle.evl_mutex.specs.Lending.{IsRight}
use Rattle.evl_mutex.specs.Views.{ahead_in}
use Rattle.evl_mutex.proofs.LendingLaws.{right-apart, right-here, same_or_not}
use Rattle.evl_mutex.proofs.mending.settle.Goals as goal

pub returns-in-Some-clause-settled : goal.returns-in-Some-clause-settled
returns-in-Some-clause-settled g c = λ counted orderly low t right.
    let base = slice_index c.args.base.now.items in let next = ahead_in c.args.ahead.now.items in let lents = c.args.lent.now.items in
    let number = c.in-Some.number in let rank = c.lent_by-rank.result in let new = slice_index c.write.new.numbers.items in let is = low number c.in-Some.is in
    let others : (u : ℕ) → u ≢ number → new u ≡ slice_index lents u =
    λ u ne. ap (λ l. slice_index l u) c.write.ensures.written ∙ get_or-set_other lents number u rank 0 ne in
    let now : new number ≡ rank = ap (λ l. slice_index l number) c.write.ensures.written ∙ get_or-set_same lents number rank 0 is.0 in
    elim (same_or_not t number) [
      | inl here ↦
          let P : ℕ → Type 0 = λ k. IsRight base next new k in
          subst P (sym here) (right-here base next (slice_index lents) new number others rank (nothing (next number) is.1) now (c.lent_by-rank.ensures.lent counted is.0))
      | inr ne ↦ right-apart base next (slice_index lents) new number others t ne (nothing (next number) is.1) (right (λ e. ne (one (sym c.in-Some.is ∙ e))))
    ]
  where
    nothing : {t : ℕ} (p : Option ℕ) → p ≡ None → p ≡ Some t → ⊥
    nothing p a b = cc

    one : {a b : ℕ} → Some a ≡ Some b → b ≡ a
    one e = cc
