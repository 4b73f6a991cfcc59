use Rattle.std.proofs.Common.{◌≡◌, ◌++◌, string_bytes}
use Rattle.lab_warnings.specs.Warnings.{pending_lines}
use Rattle.lab_warnings.proofs.ends.warn_of_pending.Given as goal

abbrev pub invariant-loop-line : goal.invariant-loop-line
invariant-loop-line l = string_bytes l.told ≡ string_bytes l.initial.told ++ pending_lines l.name l.kernel.history.state l.stage l.line
