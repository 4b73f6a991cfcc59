use Rattle.std.proofs.Common.{◌≡◌, map, option_map, take}
use Rattle.evl_clock.specs.Names.{named_timer}
use Rattle.evl_clock.proofs.clock.likeness.are_timers_alike.Given as goal

abbrev pub invariant-loop-n : goal.invariant-loop-n
invariant-loop-n g l = take l.n (map (option_map (named_timer g.C.Named.name)) l.ours) ≡ take l.n (map (option_map (named_timer g.C.Named.name)) l.theirs)
