use Rattle.std.proofs.Common.{◌∙◌}
use Rattle.evl_machine.proofs.mutex_locks.InWords.{mark_reads, offer_reads, owner_reads}
use Rattle.evl_machine.proofs.in_word.read.Goals as goal

pub returns : goal.returns
returns c = λ i. record { owner = (c.owner_of.ensures ∙ owner_reads c.claim_on.result c.args.word c.claim_on.ensures) i; is_offered = offer_reads c.args.word i; is_claimed = mark_reads c.args.word i }
