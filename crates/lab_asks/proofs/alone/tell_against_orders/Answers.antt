use Rattle.lab_asks.proofs.alone.tell_against_orders.Goals as goal

pub returns-clause-line : goal.returns-clause-line
returns-clause-line g c = rw (← c.against_words-words.ensures) c.in_ok-writeln.ensures.bytes
