use Rattle.std.proofs.Common.{◌≡◌, ◌++◌, drop, map}
use Rattle.lab_step_orders.specs.Moments.{shared_of}
use Rattle.lab_step_orders.proofs.shared.copied_words.Given as goal

abbrev pub invariant-loop-shared : goal.invariant-loop-shared
invariant-loop-shared l = map shared_of l.copied.items ++ map shared_of (drop l.shared-index l.words) ≡ map shared_of l.words
