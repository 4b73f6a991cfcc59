use Rattle.std.specs.Prelude.{codes, string_bytes}
use Rattle.lab_scenario_orders.specs.Json.{truth_text, whole_json}
use Rattle.lab_scenario_orders.proofs.TextLaws.{three_written, written_if}
use Rattle.lab_scenario_orders.proofs.json.put_whole.Goals as goal

pub returns : goal.returns
unfolding whole_json
returns c =
    written_if c.push_str-3.result (string_bytes c.push_str-3.new.self) (string_bytes c.push_str-2.new.self) (codes ",\"outcomes_asked\":") _ c.push_str-3.ensures.bytes
    (three_written (string_bytes c.args.text.now) (string_bytes c.push_str.new.self) (string_bytes c.push_str-2.new.self) (codes ",\"whole\":") c.truth_text.result.now (codes ",\"outcomes_asked\":") (truth_text c.args.is_whole)
    c.in_ok-push_str.ensures.bytes c.in_ok-push_str-2.ensures.bytes c.truth_text.ensures)
