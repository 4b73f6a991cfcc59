use Rattle.lab_asks.proofs.alone.print_orders.Goals as goal

pub returns-clause-text : goal.returns-clause-text
returns-clause-text g c = rw (← c.order_word-word.ensures) c.write.ensures.bytes
