use Rattle.std.proofs.Common.{◌∙◌, sym}
use Rattle.lab_warnings.proofs.RunLaws.{makes}
use Rattle.lab_warnings.proofs.steps.make_step.Goals as goal

pub returns : goal.returns
returns c =
    let did = c.apply-answer.ensures in
    makes c.args.kernel.now c.apply-answer.new.self c.args.step c.apply-answer.result did.entry did.none did.full did.limit (sym c.wants_memory.ensures ∙ c.if-wants_memory.false)
