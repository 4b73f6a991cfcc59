use Rattle.evl_words.specs.MutexWorld.{MutexTie, mutex_author, mutex_steps}
use Rattle.evl_words.specs.Mutex.{MutexStep, unowned}
use Rattle.evl_words.proofs.Events.{events_keep}
use Rattle.evl_words.proofs.MutexSteps.{step_keeps}
use Rattle.evl_words.proofs.laws.mutex_events_keep_order.Goals as goal

pub returns : goal.returns
returns c = events_keep mutex_author MutexStep unowned MutexTie mutex_steps step_keeps
