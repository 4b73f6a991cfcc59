use Rattle.lab_kinds.specs.Tables.{missing_text}
use Rattle.lab_kinds.proofs.tables.missing_words.Goals as goal

pub returns : goal.returns
unfolding missing_text
returns c = rw c.wanted_at-want.ensures at c.format.ensures.ok
