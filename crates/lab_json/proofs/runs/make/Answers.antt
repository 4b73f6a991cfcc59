use Rattle.std.proofs.Common.{◌∙◌, sym}
use Rattle.lab_json.proofs.RunLaws.{turned}
use Rattle.lab_json.proofs.runs.make.Goals as goal

pub returns-clause-turned : goal.returns-clause-turned
returns-clause-turned c =
    let made = c.apply-answer.ensures in
    turned c.args.kernel.now c.apply-answer.new.self c.args.step c.apply-answer.result made.entry made.none made.full made.limit
    (sym c.wants_memory.ensures ∙ c.if-wants_memory.false)
