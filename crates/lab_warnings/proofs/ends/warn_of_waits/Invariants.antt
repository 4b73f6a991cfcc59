use Rattle.std.proofs.Common.{◌≡◌, ◌++◌, string_bytes}
use Rattle.lab_warnings.specs.Warnings.{wait_lines}
use Rattle.lab_warnings.proofs.ends.warn_of_waits.Given as goal

abbrev pub invariant-loop-thread : goal.invariant-loop-thread
invariant-loop-thread l = string_bytes l.told ≡ string_bytes l.initial.told ++ wait_lines l.name l.kernel.history.entries l.kernel.history.state l.thread
