use Rattle.evl_kernel.proofs.calls.HandLaws.{given-rank}
use Rattle.evl_kernel.proofs.ranks.hand_to.Goals as goal

pub returns-then-given-rank-clause-given : goal.returns-then-given-rank-clause-given
returns-then-given-rank-clause-given g c = λ attached.
    rw c.boost.ensures.state (given-rank c.args.sched.now c.args.thread.0 c.args.rank c.in-Ok.ensures.sound attached)
