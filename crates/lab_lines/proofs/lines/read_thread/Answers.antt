use Rattle.std.proofs.Common.{◌∙◌, sym}
use Rattle.lab_lines.proofs.HeardLaws.{thread_heard}
use Rattle.lab_lines.proofs.lines.read_thread.Goals as goal

pub returns-then-begins_thread : goal.returns-then-begins_thread
returns-then-begins_thread c =
    thread_heard c.read_call.result c.args.line.now c.args.first c.args.word c.args.rest.now (sym c.begins_thread.ensures.begins ∙ c.if-begins_thread.true) c.read_call.ensures
