use Rattle.std.proofs.Common.{◌≡◌, inr, List, ℕ, length, refl, subst}
use Rattle.std.proofs.lemmas.Bool.{le-ltb}
use Rattle.std.specs.Prelude.{Some}
use Rattle.toml.specs.Parse.{parse_document}
use Rattle.toml.specs.View.{table_view}
use Rattle.evl_scenario.proofs.Texts.{is_utf8-true, is_utf8-false}
use Rattle.lab_callers_text.proofs.reading.document_of.Goals as goal

pub returns-in_default-clause-other : goal.returns-in_default-clause-other
returns-in_default-clause-other c =
    inr (refl, rw (le-ltb 1048576 (length c.args.bytes.now) c.if-bytes-gt-MOST_BYTES.false, is_utf8-false c.args.bytes.now c.in_default.ensures.cases.0) refl)

pub returns-in-Ok-table_from_str-clause-document : goal.returns-in-Ok-table_from_str-clause-document
returns-in-Ok-table_from_str-clause-document c =
    rw (le-ltb 1048576 (length c.args.bytes.now) c.if-bytes-gt-MOST_BYTES.false, is_utf8-true c.args.bytes.now c.in-Ok.ensures.cases.1)
    (subst (λ (t : List ℕ). parse_document t ≡ Some (table_view c.in-Ok-table_from_str.table)) c.in-Ok.ensures.cases.0 c.in-Ok-table_from_str.ensures.ok)
