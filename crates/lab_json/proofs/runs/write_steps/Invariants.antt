use Rattle.std.proofs.Common.{◌≡◌, ◌++◌, string_bytes}
use Rattle.evl_shell.specs.Moments.{moment}
use Rattle.lab_json.specs.Runs.{moments_from}
use Rattle.lab_json.proofs.runs.write_steps.Given as goal

abbrev pub invariant-loop-step : goal.invariant-loop-step
invariant-loop-step l =
    string_bytes l.json ++ moments_from l.file l.kernel.limit (moment l.kernel) l.step-iterator.rest.items
    ≡ string_bytes l.initial.json ++ moments_from l.file l.initial.kernel.limit (moment l.initial.kernel) l.fn.steps.items
