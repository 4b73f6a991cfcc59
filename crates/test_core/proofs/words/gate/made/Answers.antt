use Rattle.std.proofs.Common.{sym, subst}
use Rattle.std.specs.Prelude.{All}
use Rattle.evl_words.specs.GateCalls.{IsSeatOf}
use Rattle.evl_words.proofs.GateEnds.{all_new}
use Rattle.test_core.proofs.words.gate.made.Goals as goal

pub returns-in-Ok : goal.returns-in-Ok
returns-in-Ok c = subst (λ l. All (λ seat. IsSeatOf seat c.in-Ok.made.0) l) (sym c.in-Ok.ensures.ok.3) (all_new c.in-Ok.made.0 0 c.args.seats)
