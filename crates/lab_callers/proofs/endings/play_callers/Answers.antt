use Rattle.std.proofs.Common.{sym, subst}
use Rattle.lab_callers.specs.Plays.{IsKept}
use Rattle.lab_callers.specs.declared.playing.Played.{Played}
use Rattle.lab_callers.proofs.endings.play_callers.Goals as goal

pub returns-in-Ok-clause-told : goal.returns-in-Ok-clause-told
returns-in-Ok-clause-told g c =
    let kept = c.in-Ok.kept in
    (kept.entered.items, kept.kernel, subst (λ (told : Played). IsKept g.C.Handler.declared g.C.Handler.plan c.args.text c.args.bank.items told kept.entered.items kept.kernel) (sym c.told_alone.ensures) c.in-Ok.ensures.kept)
