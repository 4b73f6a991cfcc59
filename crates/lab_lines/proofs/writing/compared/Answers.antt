use Rattle.lab_lines.proofs.TextLaws.{means_same, means_other, unread_otherwise}
use Rattle.lab_lines.proofs.writing.compared.Goals as goal

pub returns-in-Ok-clause-means : goal.returns-in-Ok-clause-means
returns-in-Ok-clause-means c =
    means_same _ c.taken_if.result c.is_same.result c.args.own.now c.as_str.result.now c.as_slice.result.now c.args.text.items c.in-Ok.meant c.is_same.ensures c.as_str.ensures.value
    c.as_slice.ensures.value c.in-Ok.ensures.means c.taken_if.ensures.taken

pub returns-in-Ok-clause-refused : goal.returns-in-Ok-clause-refused
returns-in-Ok-clause-refused c =
    means_other c.taken_if.result c.is_same.result c.args.own.now c.as_str.result.now c.as_slice.result.now c.args.text.items c.in-Ok.meant c.is_same.ensures c.as_str.ensures.value
    c.as_slice.ensures.value c.in-Ok.ensures.means c.taken_if.ensures.unlike

pub returns-in-Err-clause-refused : goal.returns-in-Err-clause-refused
returns-in-Err-clause-refused c =
    unread_otherwise c.args.own.now c.as_slice.result.now c.args.text.items c.in-Err.fault c.unlined_by.result c.as_slice.ensures.value c.in-Err.ensures.refused c.unlined_by.ensures
