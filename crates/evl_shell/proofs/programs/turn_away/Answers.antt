use Rattle.std.proofs.Common.{inr, refl, subst}
use Rattle.clap.specs.declared.error.kind.ErrorKind.{ErrorKind}
use Rattle.evl_shell.specs.Programs.{TurnsAwayFor}
use Rattle.evl_shell.proofs.ProgramLemmas.{refused_for}
use Rattle.evl_shell.proofs.programs.turn_away.Goals as goal

pub returns-clause-turns : goal.returns-clause-turns
returns-clause-turns g c =
    let P : ErrorKind → Type 0 = λ k. TurnsAwayFor k (g.S.Sink.told c.args.out.now) (g.S.Sink.told c.args.out.now) (g.S.Sink.has_failed c.args.out.now)
    (g.T.Sink.told c.args.err.now) (g.T.Sink.told c.refuse.new.err) (g.T.Sink.has_failed c.refuse.new.err) c.refuse.result in
    inr (subst P c.kind.ensures (refused_for c.kind.result c.text_or_usage-shown.result.now _ _ _ _ _ _ _ c.in_default-kind.not-DisplayHelp c.in_default-kind.not-OutOfMemory c.text_or_usage-shown.ensures (record {
      nothing = refl;
      working = c.requires.working;
      status_is = c.refuse.ensures.status;
      says = c.refuse.ensures.says;
    })))
