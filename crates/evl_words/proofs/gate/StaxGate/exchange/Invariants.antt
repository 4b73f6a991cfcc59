use Rattle.evl_words.proofs.gate.StaxGate.exchange.Given as goal

abbrev pub ghosts-exchange_as : goal.ghosts-exchange_as
ghosts-exchange_as g a = record { stage = a.stage }
