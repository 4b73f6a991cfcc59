use Rattle.std.proofs.Common.{◌∙◌, sym}
use Rattle.lab_plays.proofs.FolderLemmas.{none_shared, shared_below}
use Rattle.lab_plays.proofs.folders.shared.Goals as goal

pub returns-then-goes_on-clause-count : goal.returns-then-goes_on-clause-count
returns-then-goes_on-clause-count c = shared_below c.args.steps.now c.args.folder.now c.begun.result (sym c.goes_on.ensures ∙ c.if-goes_on.true) c.begun.ensures.count

pub returns-else-goes_on-clause-count : goal.returns-else-goes_on-clause-count
returns-else-goes_on-clause-count c = none_shared c.args.steps.now c.args.folder.now (sym c.goes_on.ensures ∙ c.if-goes_on.false)
