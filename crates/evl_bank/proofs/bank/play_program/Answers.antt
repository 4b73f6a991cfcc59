use Rattle.std.proofs.Common.{ℕ, List, Option, map, subst, ap, ◌∙◌}
use Rattle.evl_scenario.specs.declared.faults.Fault.TheVariants.{Memory}
use Rattle.evl_shell.specs.declared.plays.Stop.TheVariants.{Broken}
use Rattle.evl_shell.specs.Plays.{stop_line}
use Rattle.evl_shell.specs.Sinks.{Takes}
use Rattle.evl_shell.proofs.ProgramLemmas.{answers-memory, plainly}
use Rattle.evl_bank.specs.Bank.{program_bank}
use Rattle.evl_bank.proofs.bank.play_program.Goals as goal

pub returns-in-Ok-clause-plain : goal.returns-in-Ok-clause-plain
returns-in-Ok-clause-plain g c few = plainly c.args.words.now _ _ _ _ _ _ _ _ _ few c.in-Ok.ensures.answers

pub returns-in-Err-clause-answers : goal.returns-in-Err-clause-answers
returns-in-Err-clause-answers g c =
    let Q : Option (List ℕ) → Type 0 = λ quiet. Takes quiet (g.T.Sink.told c.conclude.new.err) (stop_line (Broken Memory)) (g.T.Sink.has_failed c.conclude.new.err) in
    answers-memory (map (λ s. s.now) c.args.words.now) program_bank _ _ _ _ _ _ _ _ (record {
      nothing = ap g.S.Sink.told c.in-Err.ensures.out;
      working = ap g.S.Sink.has_failed c.in-Err.ensures.out ∙ c.requires.working;
      status_is = c.conclude.ensures.status;
      says = subst Q (ap g.T.Sink.told c.in-Err.ensures.err) c.conclude.ensures.takes;
    })

pub returns-in-Err-clause-plain : goal.returns-in-Err-clause-plain
returns-in-Err-clause-plain g c few = plainly c.args.words.now _ _ _ _ _ _ _ _ _ few (returns-in-Err-clause-answers g c)
