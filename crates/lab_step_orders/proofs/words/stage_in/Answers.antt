use Rattle.std.proofs.Common.{sym}
use Rattle.evl_words.proofs.GateWords.{stage_clear, stage_set}
use Rattle.lab_step_orders.proofs.words.stage_in.Goals as goal

pub returns-then-word-eq0 : goal.returns-then-word-eq0
returns-then-word-eq0 c = sym (stage_clear c.args.word c.if-word-eq0.true)

pub returns-else-word-eq0 : goal.returns-else-word-eq0
returns-else-word-eq0 c = sym (stage_set c.args.word c.if-word-eq0.false)
