use Rattle.std.proofs.Common.{◌≡◌, ◌++◌, drop, map}
use Rattle.lab_step_texts.proofs.asks.states_of.Given as goal

abbrev pub invariant-loop-watch : goal.invariant-loop-watch
invariant-loop-watch l = map (λ watch. watch.when) l.all.items ++ map (λ watch. watch.when) (drop l.watch-index l.watches) ≡ map (λ watch. watch.when) l.watches
