use Rattle.lab_kinds.specs.Orders.{no_answer_text}
use Rattle.lab_kinds.proofs.asks.no_answer_words.Goals as goal

pub returns : goal.returns
unfolding no_answer_text
returns c = rw c.in_ok-hint.ensures at c.format.ensures.ok
