use Rattle.std.proofs.Common.{sym}
use Rattle.std.proofs.lemmas.List.{append-nil}
use Rattle.evl_sched.proofs.WalkLaws.{order-none}
use Rattle.evl_sched.proofs.order.walk.tell_all.Goals as goal

pub loop-turn-init : goal.loop-turn-init
loop-turn-init g c = rw order-none (sym (append-nil _))
