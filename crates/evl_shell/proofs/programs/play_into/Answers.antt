use Rattle.std.proofs.Common.{map, is_some, sym, ap, ◌∙◌}
use Rattle.clap.specs.Words.{fault_of, kind_of}
use Rattle.evl_shell.specs.Arguments.{file_of, grammar, limit_of}
use Rattle.evl_shell.proofs.ProgramLemmas.{played, plainly, some-mapped, turned}
use Rattle.evl_shell.proofs.programs.play_into.Goals as goal

pub returns-in-Ok-clause-answers : goal.returns-in-Ok-clause-answers
returns-in-Ok-clause-answers g c =
    let words = map (λ s. s.now) c.args.words.now in
    played (fault_of grammar words) (file_of words) _ (limit_of words) _ _ _ _ _ _ _ _ _ _ c.in-Ok.ensures.refused c.in-Ok.ensures.file c.in-Ok.ensures.limit (record {
      end = c.play_asked.result;
      ended = c.play_asked.ensures.ended;
      status_is = c.tell_end.ensures.status;
      says = c.tell_end.ensures.says;
    })

pub returns-in-Ok-clause-untouched : goal.returns-in-Ok-clause-untouched
returns-in-Ok-clause-untouched g c named = c.play_asked.ensures.untouched (sym (some-mapped c.in-Ok.asked.file) ∙ (ap is_some c.in-Ok.ensures.file ∙ named))

pub returns-in-Ok-clause-plain : goal.returns-in-Ok-clause-plain
returns-in-Ok-clause-plain g c few = plainly c.args.words.now _ _ _ _ _ _ _ _ _ few (returns-in-Ok-clause-answers g c)

pub returns-in-Err-clause-answers : goal.returns-in-Err-clause-answers
returns-in-Err-clause-answers g c =
    let words = map (λ s. s.now) c.args.words.now in
    turned (fault_of grammar words) (file_of words) (limit_of words) _ _ _ _ _ _ _ _ _ (kind_of c.in-Err.error) c.in-Err.ensures.refused c.turn_away.ensures.turns

pub returns-in-Err-clause-plain : goal.returns-in-Err-clause-plain
returns-in-Err-clause-plain g c few = plainly c.args.words.now _ _ _ _ _ _ _ _ _ few (returns-in-Err-clause-answers g c)
