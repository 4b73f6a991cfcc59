use Rattle.lab_plays.proofs.FolderLemmas.{left_of}
use Rattle.lab_plays.proofs.folders.below.Goals as goal

pub returns : goal.returns
returns c = left_of c.args.steps.now c.args.folder.now c.shared-own.result c.shared-own.ensures.count
