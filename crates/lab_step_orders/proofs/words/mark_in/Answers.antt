use Rattle.evl_words.proofs.GateWords.{mark_test}
use Rattle.lab_step_orders.proofs.words.mark_in.Goals as goal

pub returns : goal.returns
returns c = mark_test c.args.word
