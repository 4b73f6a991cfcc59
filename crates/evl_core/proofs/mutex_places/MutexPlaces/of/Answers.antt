use Rattle.std.proofs.Common.{◌++◌, ◌∷◌, [], sym, ◌∙◌, subst, arith}
use Rattle.evl_core.specs.words.MutexPlaces.{AreCountedPlaces}
use Rattle.evl_core.proofs.words.MutexPlaces.{new_counted, one_place_more}
use Rattle.evl_core.proofs.mutex_places.MutexPlaces.of.Goals as goal

pub loop-mutex-preserved : goal.loop-mutex-preserved
loop-mutex-preserved g c = c.in_ok-push.ensures.items ∙ (λ i. c.loop-mutex.invariant i ++ c.new.ensures i ∷ []) ∙ one_place_more c.loop-mutex.mutex c.args.thread

pub invariant_of-result : goal.invariant_of-result
invariant_of-result g c = subst (λ ps. AreCountedPlaces ps 0) (sym c.loop-mutex.invariant) (new_counted c.loop-mutex.mutex c.args.thread (omega (arith, c.requires.few)))
