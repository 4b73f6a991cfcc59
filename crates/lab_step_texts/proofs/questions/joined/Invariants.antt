use Rattle.std.proofs.Common.{◌≡◌, ◌++◌}
use Rattle.lab_step_texts.proofs.questions.joined.Given as goal

abbrev pub invariant-loop-watch : goal.invariant-loop-watch
invariant-loop-watch l = l.all.items ++ l.watch-iterator.rest.items ≡ l.fn.watches.items ++ l.fn.others.items
