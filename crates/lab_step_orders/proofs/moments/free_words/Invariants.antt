use Rattle.std.proofs.Common.{◌≡◌, map}
use Rattle.std.specs.Prelude.{replicate}
use Rattle.lab_step_orders.specs.Moments.{shared_of}
use Rattle.lab_step_orders.specs.Seen.{free_word}
use Rattle.lab_step_orders.proofs.moments.free_words.Given as goal

abbrev pub invariant-loop-word : goal.invariant-loop-word
invariant-loop-word l = map shared_of l.words.items ≡ replicate l._word (free_word l.callers)
