use Rattle.std.proofs.Common.{Option, ◌∙◌, ap, option_map}
use Rattle.toml.proofs.Views.{view-lookup}
use Rattle.toml.specs.View.{members_view, view}
use Rattle.toml.specs.declared.value.Value.{Value}
use Rattle.lab_callers_text.proofs.TableLaws.{Entry, removed}
use Rattle.std.proofs.Common.{List}
use Rattle.lab_callers_text.proofs.tables.take.Goals as goal

pub returns-clause-value : goal.returns-clause-value
returns-clause-value c = ap (λ (found : Option Value). option_map view found) c.remove.ensures.value ∙ view-lookup c.args.key.now c.args.table.now.entries

pub returns-clause-rest : goal.returns-clause-rest
returns-clause-rest c = ap (λ (es : List Entry). members_view es) c.remove.ensures.entries ∙ removed c.args.key.now c.args.table.now.entries
