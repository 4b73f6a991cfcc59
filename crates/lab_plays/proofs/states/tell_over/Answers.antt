use Rattle.lab_plays.proofs.PlayLemmas.{no_names, some_names}
use Rattle.lab_plays.proofs.states.tell_over.Goals as goal

pub returns-then-is_empty-clause-each : goal.returns-then-is_empty-clause-each
returns-then-is_empty-clause-each g c = rw (no_names c.args.files.now c.if-is_empty.ensures) c.tell_file.ensures.told

pub returns-else-is_empty-clause-each : goal.returns-else-is_empty-clause-each
returns-else-is_empty-clause-each g c = rw (some_names c.args.files.now c.if-is_empty.ensures) c.tell_each.ensures.each
