use Rattle.std.proofs.Common.{◌≡◌, ◌+◌, ◌-◌, ◌^◌, ◌<◌, ℕ, min, Option, slice_index, slice_set, sym, ap, ◌∙◌, subst}
use Rattle.evl_mutex.specs.Owners.{one_if}
use Rattle.evl_mutex.specs.Views.{is_for}
use Rattle.evl_mutex.proofs.CountLaws.{one-more}
use Rattle.evl_mutex.proofs.notes.count_up.Goals as goal

pub returns-in-Some-clause-more : goal.returns-in-Some-clause-more
returns-in-Some-clause-more g c = λ t there fits.
    let counts = c.args.lenders.now.items in let u = c.in-Some.number in
    let more : c.saturating_add.result ≡ min (slice_index counts u + 1) (2 ^ 16 - 1) = c.saturating_add.ensures ∙ ap (λ k. min (k + 1) (2 ^ 16 - 1)) c.at-count.ensures.number in
    let P : Option ℕ → Type 0 = λ o. slice_index counts t + one_if (is_for t o) < 2 ^ 16 in
    ap (λ l. slice_index l t) (c.set.ensures.set ∙ ap (slice_set counts u) more) ∙ one-more counts u t there (subst P c.in-Some.is fits) ∙ ap (λ o. slice_index counts t + one_if (is_for t o)) (sym c.in-Some.is)
