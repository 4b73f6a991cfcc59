use Rattle.std.proofs.Common.{◌++◌, ◌∷◌, [], zero-add, sym, ◌∙◌}
use Rattle.std.proofs.lemmas.List.FromFn.{map-range_with_len_more}
use Rattle.evl_core.specs.words.MutexPlaces.{new_places}
use Rattle.evl_machine.proofs.elements.making.all_places.Goals as goal

pub loop-thread-preserved : goal.loop-thread-preserved
loop-thread-preserved g c =
    let n = c.loop-thread.thread in
    c.in_ok-push.ensures.items ∙ (λ i. c.loop-thread.invariant i ++ c.in_ok-places.ensures i ∷ []) ∙ sym (map-range_with_len_more (new_places c.args.mutexes) 0 n n (zero-add n))
