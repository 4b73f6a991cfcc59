use Rattle.std.proofs.Common.{◌≡◌, ◌++◌, drop, map, string_bytes}
use Rattle.evl_scenario.specs.Widths.{StepsFit}
use Rattle.evl_scenario.specs.Writings.{step_of_entry, tables_text}
use Rattle.evl_scenario.proofs.writing.write_entries.Given as goal

abbrev pub invariant-loop-entry : goal.invariant-loop-entry
invariant-loop-entry g l = record {
  rest : string_bytes l.text ++ tables_text (map step_of_entry (drop l.entry-index l.entries)) ≡ string_bytes l.initial.text ++ tables_text (map step_of_entry l.entries);
  fit : StepsFit (map step_of_entry (drop l.entry-index l.entries)) → StepsFit (map step_of_entry l.entries);
}
