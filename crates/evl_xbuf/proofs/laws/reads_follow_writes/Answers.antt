use Rattle.evl_xbuf.proofs.FlowLaws.{reads_follow}
use Rattle.evl_xbuf.proofs.laws.reads_follow_writes.Goals as goal

pub returns : goal.returns
returns c = reads_follow
