use Rattle.lab_lines.proofs.TextLaws.{meant_callers}
use Rattle.lab_lines.proofs.kinds.callers_lines.Goals as goal

pub returns-in-Ok-write_callers-clause-plain : goal.returns-in-Ok-write_callers-clause-plain
returns-in-Ok-write_callers-clause-plain c = meant_callers c.args.text.now _ c.in-Ok.meant c.requires c.in-Ok.ensures.means c.in-Ok-write_callers.ensures
