use Rattle.std.proofs.Common.{string_bytes}
use Rattle.lab.proofs.ExplainLemmas.{file_read, file_unread}
use Rattle.lab.proofs.explains.explained_file.Goals as goal

pub returns-in-Ok : goal.returns-in-Ok
returns-in-Ok g c = file_read _ c.args.takes c.args.name.now c.in-Ok.text.items c.explained_given.result c.if-eq.ensures c.explained_given.ensures

pub returns-in-Err : goal.returns-in-Err
returns-in-Err g c = file_unread c.args.takes c.args.name.now (string_bytes c.new-in-Err.result) c.in-Err.field-0 c.if-eq.ensures c.new-in-Err.ensures.bytes
