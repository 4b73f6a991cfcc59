use Rattle.evl_kernel.proofs.state.ChangedLaws.{words-within}
use Rattle.evl_kernel.proofs.changed_threads.ChangedThreads.places.Goals as goal

pub returns-clause-within : goal.returns-clause-within
returns-clause-within c = rw (← c.self.view_is) (words-within _ c.self.inside.words c.args.word c.self.invariant c.requires.there)
