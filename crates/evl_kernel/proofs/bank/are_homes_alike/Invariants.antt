use Rattle.std.proofs.Common.{◌≡◌, map, take}
use Rattle.evl_kernel.specs.state.Callbacks.{is_home}
use Rattle.evl_kernel.proofs.bank.are_homes_alike.Given as goal

abbrev pub invariant-loop-i : goal.invariant-loop-i
invariant-loop-i g l = take l.i (map is_home l.one) ≡ take l.i (map is_home l.other)
