use Rattle.std.proofs.Common.{is_some, sym, ap, ◌∙◌}
use Rattle.std.proofs.lemmas.Bool.{false≢true}
use Rattle.evl_shell.proofs.ProgramLemmas.{asked-file, asked-input}
use Rattle.evl_shell.proofs.programs.play_asked.Goals as goal

pub returns-in-None-clause-ended : goal.returns-in-None-clause-ended
returns-in-None-clause-ended g c = asked-input _ _ _ _ _ _ _ _ c.in-None.is c.play_input.ensures.ended

pub returns-in-None-clause-untouched : goal.returns-in-None-clause-untouched
returns-in-None-clause-untouched g c named = absurd (false≢true (sym (ap is_some c.in-None.is) ∙ named))

pub returns-in-Some-clause-ended : goal.returns-in-Some-clause-ended
returns-in-Some-clause-ended g c = asked-file _ c.in-Some.path _ _ _ _ _ _ _ c.in-Some.is c.play_file.ensures
