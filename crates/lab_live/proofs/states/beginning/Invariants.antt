use Rattle.std.proofs.Common.{◌≡◌, option_map, take}
use Rattle.lab_live.specs.States.{last_begun}
use Rattle.lab_live.proofs.states.beginning.Given as goal

abbrev pub invariant-loop-entry : goal.invariant-loop-entry
invariant-loop-entry l = option_map (λ entry. entry.now) l.found ≡ last_begun l.thread.0 (take l.entry-index l.entries)
