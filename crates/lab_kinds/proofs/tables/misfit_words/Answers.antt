use Rattle.lab_kinds.specs.Tables.{misfit_text}
use Rattle.lab_kinds.proofs.tables.misfit_words.Goals as goal

pub returns : goal.returns
unfolding misfit_text
returns c = rw c.wanted_at-want.ensures at c.format.ensures.ok
