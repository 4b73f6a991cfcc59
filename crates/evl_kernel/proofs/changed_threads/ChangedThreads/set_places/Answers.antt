use Rattle.evl_kernel.proofs.state.ChangedLaws.{words-set}
use Rattle.evl_kernel.proofs.changed_threads.ChangedThreads.set_places.Goals as goal

pub returns : goal.returns
returns c = record { set = rw (← c.self.view_is) (words-set _ c.self.inside.words c.args.word c.args.places) }
