use Rattle.std.proofs.Common.{◌≡◌, ◌++◌, drop, flat_map, string_bytes}
use Rattle.lab_warnings.specs.Warnings.{entry_lines}
use Rattle.lab_warnings.proofs.steps.warn_of_entries.Given as goal

abbrev pub invariant-loop-entry : goal.invariant-loop-entry
invariant-loop-entry l =
    let lines = entry_lines l.name l.counts l.number l.before l.kernel.history.state in
    string_bytes l.told ++ flat_map lines (drop l.entry-index l.entries) ≡ string_bytes l.initial.told ++ flat_map lines l.entries
