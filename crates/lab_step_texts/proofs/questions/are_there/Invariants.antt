use Rattle.std.proofs.Common.{◌≡◌, drop}
use Rattle.lab_step_texts.specs.Questions.{are_there}
use Rattle.lab_step_texts.proofs.questions.are_there.Given as goal

abbrev pub invariant-loop-watch : goal.invariant-loop-watch
invariant-loop-watch l = are_there l.board (drop l.watch-index l.watches) ≡ are_there l.board l.watches
