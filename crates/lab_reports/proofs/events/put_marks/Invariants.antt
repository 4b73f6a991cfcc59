use Rattle.std.proofs.Common.{◌≡◌, ◌++◌, ◌+◌, [], drop, string_bytes}
use Rattle.lab_reports.specs.Events.{events_from}
use Rattle.lab_reports.proofs.events.put_marks.Given as goal

abbrev pub invariant-loop-index : goal.invariant-loop-index
invariant-loop-index l =
    string_bytes l.json ++ events_from l.named.items (l.index + 1) (drop l.index l.marks) ≡ string_bytes l.initial.json ++ events_from [] 1 l.marks
