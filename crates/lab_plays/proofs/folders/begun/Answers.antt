use Rattle.std.proofs.Common.{◌∙◌, sym}
use Rattle.lab_plays.proofs.FolderLemmas.{all_begun, none_begun}
use Rattle.lab_plays.proofs.folders.begun.Goals as goal

pub returns-then-starts_with-clause-count : goal.returns-then-starts_with-clause-count
returns-then-starts_with-clause-count c = all_begun c.args.steps.now c.args.folder.now (sym c.starts_with.ensures.value ∙ c.if-starts_with.true)

pub returns-else-starts_with-clause-count : goal.returns-else-starts_with-clause-count
returns-else-starts_with-clause-count c = none_begun c.args.steps.now c.args.folder.now (sym c.starts_with.ensures.value ∙ c.if-starts_with.false)
