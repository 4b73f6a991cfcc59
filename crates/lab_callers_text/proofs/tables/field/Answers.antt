use Rattle.toml.proofs.Views.{table_get}
use Rattle.lab_callers_text.proofs.tables.field.Goals as goal

pub returns : goal.returns
returns c = table_get c.get.result c.args.key.now c.args.table.now.entries c.get.ensures.value
