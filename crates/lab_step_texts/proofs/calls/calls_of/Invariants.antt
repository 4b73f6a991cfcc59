use Rattle.std.proofs.Common.{◌≡◌, ◌+◌, drop, take}
use Rattle.lab_step_texts.specs.Calls.{calls_behind, calls_from}
use Rattle.lab_step_texts.proofs.CallLaws.{prefixed}
use Rattle.lab_step_texts.proofs.calls.calls_of.Given as goal

abbrev pub invariant-loop-i : goal.invariant-loop-i
invariant-loop-i l =
    prefixed l.calls.items (calls_from l.threads (l.i + 1) (take l.i l.steps) (drop l.i l.steps)) ≡ calls_behind l.threads l.setup l.steps
