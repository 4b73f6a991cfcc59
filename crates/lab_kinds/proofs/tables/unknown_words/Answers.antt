use Rattle.lab_kinds.specs.Tables.{unknown_text}
use Rattle.lab_kinds.proofs.tables.unknown_words.Goals as goal

pub returns : goal.returns
unfolding unknown_text
returns c = rw (c.in_ok-hint.ensures, c.in_ok-names.ensures) at c.format.ensures.ok
