use Rattle.std.proofs.Common.{◌≡◌, ◌-◌, slice_index, slice_set, sym, ap, ◌∙◌}
use Rattle.evl_mutex.specs.Owners.{one_if}
use Rattle.evl_mutex.specs.Views.{is_for}
use Rattle.evl_mutex.proofs.CountLaws.{one-less}
use Rattle.evl_mutex.proofs.notes.count_down.Goals as goal

pub returns-in-Some-clause-fewer : goal.returns-in-Some-clause-fewer
returns-in-Some-clause-fewer g c = λ t.
    let counts = c.args.lenders.now.items in let u = c.in-Some.number in
    let less : c.saturating_sub.result ≡ slice_index counts u - 1 = c.saturating_sub.ensures ∙ ap (λ k. k - 1) c.at-count.ensures.number in
    ap (λ l. slice_index l t) (c.set.ensures.set ∙ ap (slice_set counts u) less) ∙ one-less counts u t ∙ ap (λ o. slice_index counts t - one_if (is_for t o)) (sym c.in-Some.is)
