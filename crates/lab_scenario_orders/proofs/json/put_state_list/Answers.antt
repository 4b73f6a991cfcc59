use Rattle.std.proofs.Common.{refl}
use Rattle.std.specs.Prelude.{codes, string_bytes}
use Rattle.lab_scenario_orders.specs.Json.{states_from, states_json}
use Rattle.lab_scenario_orders.proofs.TextLaws.{three_written, written_if}
use Rattle.lab_scenario_orders.proofs.json.put_state_list.Goals as goal

pub returns : goal.returns
unfolding states_json
returns c =
    let all = states_from c.args.callers.now c.args.outcomes.now 0 c.args.watches.now in
    written_if c.push_str-2.result (string_bytes c.push_str-2.new.self) (string_bytes c.put_states.new.text) (codes "]") _ c.push_str-2.ensures.bytes
    (three_written (string_bytes c.args.text.now) (string_bytes c.push_str.new.self) (string_bytes c.put_states.new.text) (codes ",\"states\":[") all (codes "]") all
    c.in_ok-push_str.ensures.bytes c.in_ok-put_states.ensures refl)
