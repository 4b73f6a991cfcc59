use Rattle.std.proofs.Common.{List, ℕ, ◌∙◌, ap}
use Rattle.toml.specs.View.{members_view, view}
use Rattle.lab_callers_text.specs.Tables.{with_value}
use Rattle.lab_callers_text.proofs.TableLaws.{Entry, inserted}
use Rattle.lab_callers_text.proofs.tables.put.Goals as goal

pub returns-in-Ok : goal.returns-in-Ok
returns-in-Ok c =
    ap (λ (es : List Entry). members_view es) c.in-Ok.ensures.entries
    ∙ (inserted c.args.table.now.entries c.in_ok-key.key c.args.value
    ∙ ap (λ (key : List ℕ). with_value key (view c.args.value) (members_view c.args.table.now.entries)) c.in_ok-key.ensures.ok)
