use Rattle.evl_core.proofs.words.DealLaws.{one-empty}
use Rattle.evl_machine.proofs.elements.dealing.empty_lists.Goals as goal

pub loop-thread-preserved : goal.loop-thread-preserved
loop-thread-preserved g c = one-empty c.loop-thread.lists.items c.push.new.self.items c.new.result c.loop-thread._thread c.loop-thread.invariant c.new.ensures.items c.in_ok-push.ensures.items
