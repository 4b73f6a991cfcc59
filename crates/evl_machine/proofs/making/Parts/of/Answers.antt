use Rattle.std.proofs.Common.{sym, ◌∙◌}
use Rattle.evl_machine.proofs.callers.Newcomers.{fits_checked}
use Rattle.evl_machine.proofs.making.Parts.of.Goals as goal

pub returns-clause-fits : goal.returns-clause-fits
returns-clause-fits g c = fits_checked _ _ c.check.ensures (sym c.is_err.ensures.value ∙ c.if-is_err.false)
