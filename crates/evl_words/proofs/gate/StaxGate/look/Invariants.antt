use Rattle.evl_words.proofs.gate.StaxGate.look.Given as goal

abbrev pub ghosts-look_as : goal.ghosts-look_as
ghosts-look_as g a = record { stage = a.stage }
