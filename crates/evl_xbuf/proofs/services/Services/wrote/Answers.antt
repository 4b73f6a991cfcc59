use Rattle.evl_xbuf.proofs.ServedLaws.{turns-wrote}
use Rattle.evl_xbuf.proofs.services.Services.wrote.Goals as goal

pub invariant_of-self : goal.invariant_of-self
invariant_of-self c = rw c.push.ensures.items (turns-wrote c.self.inside.bytes.items c.self.inside.turns.items c.args.thread c.self.invariant)
