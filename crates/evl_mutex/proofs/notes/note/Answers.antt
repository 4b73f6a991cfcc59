use Rattle.std.proofs.Common.{◌≡◌, ◌<◌, ◌-◌, None, length, slice_index, ap, ◌∙◌, arith}
use Rattle.std.proofs.lemmas.List.{get_or_default}
use Rattle.evl_mutex.specs.Owners.{one_if}
use Rattle.evl_mutex.specs.Views.{ahead_in, is_for}
use Rattle.evl_mutex.proofs.CountLaws.{counted-noted}
use Rattle.evl_mutex.proofs.notes.note.Goals as goal

pub returns-then-thread-len-clause-counted : goal.returns-then-thread-len-clause-counted
returns-then-thread-len-clause-counted g c = λ n few is.
    let ahead = c.args.ahead.now.items in let thread = c.args.thread in let counts = c.args.lenders.now.items in
    let there : thread < length ahead = omega (arith, c.if-thread-len.true, c.len.ensures, c.args.ahead.now.ok.0) in
    let before : c.index.result.now ≡ ahead_in ahead thread = c.index.ensures ∙ get_or_default ahead thread c.index.result.now None there in
    counted-noted n ahead counts c.count_down.new.lenders.items c.count_up.new.lenders.items thread c.args.owner few there
    c.count_down.ensures.length (λ t. c.count_down.ensures.fewer t ∙ ap (λ o. slice_index counts t - one_if (is_for t o)) before)
    c.count_up.ensures.length c.count_up.ensures.more is
