use Rattle.lab_plays.proofs.FolderLemmas.{stem_before, stem_whole}
use Rattle.lab_plays.proofs.folders.stem_of.Goals as goal

pub returns-in-Some : goal.returns-in-Some
returns-in-Some c = stem_before c.args.path.now _ c.in-Some.ensures.cases

pub returns-in-None : goal.returns-in-None
returns-in-None c = stem_whole c.args.path.now c.in-None.ensures.cases
