use Rattle.std.proofs.Common.{ap}
use Rattle.lab_lines.proofs.TextLaws.{meant_plain, refused_lines}
use Rattle.lab_lines.proofs.kinds.plain_lines.Goals as goal

pub returns-in-Ok-clause-plain : goal.returns-in-Ok-clause-plain
returns-in-Ok-clause-plain c = meant_plain c.args.text.now _ c.in-Ok.meant c.requires c.in-Ok.ensures.means (ap (λ v. v.items) c.into_bytes.ensures.value)

pub returns-in-Err-clause-unread : goal.returns-in-Err-clause-unread
returns-in-Err-clause-unread c = refused_lines c.args.text.now _ c.requires c.in-Err.ensures.refused
